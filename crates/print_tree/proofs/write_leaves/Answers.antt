-- `print_tree::write_leaves` meets its contract. Assumes nothing.
use Rattle.print_tree.proofs.Grow.{fine_text, fine-none, fine-grows, grown_room, grown}
use Rattle.packed.specs.View.{packed_of}
use Rattle.print_tree.specs.Unpack.{leaf_line}
use Rattle.bytes_out.proofs.Writing.{spelt_as, nothing_yet}
use Prim.Native.Nat.{◌+◌}
use mathlib.Core.Bool.{true}
use mathlib.Core.Path.{◌≡◌, sym, ap}
use native.Mathlib.Omega.{arith}
use borrow.Author.Rules.{rules}
use Rattle.print_tree.proofs.write_leaves.Goals as goal

pub loop-i-init : goal.loop-i-init
loop-i-init c = spelt_as (sym (fine-none (packed_of c.args.tree) c.args.j)) (nothing_yet _ (omega (arith, c.requires.room_for.fits)))

pub write_leaf-requires : goal.write_leaf-requires
write_leaf-requires c =
    let a = c.args in
    let p = packed_of a.tree in
    record {
      row_fits = c.requires.by_index _ c.loop-i-test.true;
      room_for = grown_room (fine_text p a.j) (λ k. leaf_line true k p (a.j + k)) (fine-grows p a.j) a.m _ c.loop-i-test.true c.requires.room_for c.loop-i.invariant;
    }

pub loop-i-preserved : goal.loop-i-preserved
loop-i-preserved c =
    let a = c.args in
    let p = packed_of a.tree in
    grown (fine_text p a.j) (λ k. leaf_line true k p (a.j + k)) (fine-grows p a.j) _ c.loop-i.invariant c.write_leaf.ensures

pub returns : goal.returns
returns c =
    let e : c.loop-i.i ≡ c.args.m = search rules in
    spelt_as (ap (fine_text (packed_of c.args.tree) c.args.j) e) c.loop-i.invariant
