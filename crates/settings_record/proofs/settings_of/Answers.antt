-- `settings_record::settings_of` meets its contract. Assumes nothing.
use Rattle.formats.specs.Stream.{settings_in}
use Rattle.settings_record.proofs.settings_of.Goals as goal

pub returns : goal.returns
unfolding settings_in
returns c = rw (
  c.byte_at.ensures.0,
  c.setting_at.ensures,
  c.setting_at-2.ensures,
  c.setting_at-3.ensures,
  c.of.ensures,
  c.byte_at-kind.ensures.0,
  c.setting_at-4.ensures,
)
