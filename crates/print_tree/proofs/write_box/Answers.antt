-- `print_tree::write_box` meets its contract. Assumes nothing.
use Rattle.std.specs.Prelude.{not}
use Rattle.print_tree.proofs.Lines.{box-fine, box-coarse}
use Rattle.bytes_out.proofs.Writing.{spelt_as, takes_as}
use mathlib.Core.Path.{sym, ap}
use Rattle.print_tree.proofs.write_box.Goals as goal

pub text-requires : goal.text-requires
text-requires c = takes_as (box-coarse _ _ (ap not c.if-coarse.true)) c.requires

pub returns-then-coarse : goal.returns-then-coarse
returns-then-coarse c = spelt_as (sym (box-coarse _ _ (ap not c.if-coarse.true))) c.text.ensures

pub write_floats-requires : goal.write_floats-requires
write_floats-requires c = takes_as (box-fine _ _ (ap not c.if-coarse.false)) c.requires

pub returns-else-coarse : goal.returns-else-coarse
returns-else-coarse c = spelt_as (sym (box-fine _ _ (ap not c.if-coarse.false))) c.write_floats.ensures
