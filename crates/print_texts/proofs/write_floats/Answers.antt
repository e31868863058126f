-- `print_texts::write_floats` meets its contract. Assumes nothing.
use Rattle.print_texts.proofs.Texts.{floats-text}
use Rattle.bytes_out.proofs.Writing.{spelt_as, takes_as}
use mathlib.Core.Path.{sym}
use Rattle.print_texts.proofs.write_floats.Goals as goal

pub write_each-requires : goal.write_each-requires
write_each-requires c = takes_as (floats-text _) c.requires

pub returns : goal.returns
returns c = spelt_as (sym (floats-text _)) c.write_each.ensures
