-- `print_tree::write_leaf` meets its contract. Assumes nothing.
use Rattle.std.specs.Prelude.{not}
use Rattle.print_tree.proofs.Lines.{leaf-line}
use Rattle.bytes_out.proofs.Writing.{spelt_as, takes_as}
use Rattle.packed.specs.View.{packed_of}
use mathlib.Core.Path.{sym}
use Rattle.print_tree.proofs.write_leaf.Goals as goal

pub write_domain-requires : goal.write_domain-requires
write_domain-requires c = let a = c.args in
    takes_as (leaf-line (not a.coarse) a.i (packed_of a.tree) a.j _ c.leaf.ensures) c.requires.room_for

pub returns : goal.returns
returns c = let a = c.args in
    spelt_as (sym (leaf-line (not a.coarse) a.i (packed_of a.tree) a.j _ c.leaf.ensures)) c.write_domain.ensures
