-- `settings_record::same_settings` meets its contract: the fields are written, and compared with those of the record. Assumes nothing.
use mathlib.Core.Path.{◌≡◌, refl, ◌∙◌}
use native.Mathlib.Omega.{arith}
use borrow.Author.Rules.{rules}
use Rattle.lists.specs.Lists.{part}
use Rattle.config.specs.Params.{settings_are}
use Rattle.tree_tests.proofs.Lengths.{length-settings}
use Rattle.settings_record.proofs.Compared.{fields-equal}
use Rattle.settings_record.proofs.same_settings.Goals as goal

pub put_settings-requires : goal.put_settings-requires
put_settings-requires c = record { fits = omega (arith, length-settings (settings_are c.args.settings)) }

pub returns : goal.returns
unfolding part
returns c =
    let s = settings_are c.args.settings in
    let back : _ ≡ c.put_settings.new.out.bytes.now = search rules in
    c.eq.ensures ∙ fields-equal s c.args.input.now _ _ refl (back ∙ c.put_settings.ensures.same)
