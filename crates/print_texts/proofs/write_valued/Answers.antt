-- `print_texts::write_valued` meets its contract. Assumes nothing.
use Rattle.print_texts.proofs.Texts.{float-alone}
use Rattle.bytes_out.proofs.Writing.{spelt_as, takes_as, takes_first, takes_next, ◌▸◌}
use mathlib.Core.Path.{sym}
use Rattle.print_texts.proofs.write_valued.Goals as goal

pub text-requires : goal.text-requires
text-requires c = takes_first _ _ c.requires

pub write-requires : goal.write-requires
write-requires c = takes_as (float-alone _) (takes_next c.text.ensures c.requires)

pub returns : goal.returns
returns c = c.text.ensures ▸ spelt_as (sym (float-alone _)) c.write.ensures
