-- `settings_record::put_settings` meets its contract. Assumes nothing.
use Rattle.formats.specs.Stream.{settings_bytes}
use Rattle.bytes_out.proofs.Writing.{takes_first, takes_next, ◌▸◌}
use Rattle.settings_record.proofs.put_settings.Goals as goal

pub low_byte-requires : goal.low_byte-requires
unfolding settings_bytes
low_byte-requires c = takes_first _ _ (takes_first _ _ (takes_first _ _ (takes_first _ _ c.requires)))

pub field-requires : goal.field-requires
unfolding settings_bytes
field-requires c = takes_next c.low_byte.ensures (takes_first _ _ (takes_first _ _ (takes_first _ _ c.requires)))

pub field-requires-2 : goal.field-requires-2
unfolding settings_bytes
field-requires-2 c = takes_next (c.low_byte.ensures ▸ c.field.ensures) (takes_first _ _ (takes_first _ _ c.requires))

pub field-requires-3 : goal.field-requires-3
unfolding settings_bytes
field-requires-3 c = takes_next (c.low_byte.ensures ▸ c.field.ensures ▸ c.field-2.ensures) (takes_first _ _ c.requires)

pub put_policy-requires : goal.put_policy-requires
unfolding settings_bytes
put_policy-requires c = takes_next (c.low_byte.ensures ▸ c.field.ensures ▸ c.field-2.ensures ▸ c.field-3.ensures) c.requires

pub returns : goal.returns
unfolding settings_bytes
returns c = c.low_byte.ensures ▸ c.field.ensures ▸ c.field-2.ensures ▸ c.field-3.ensures ▸ c.put_policy.ensures
