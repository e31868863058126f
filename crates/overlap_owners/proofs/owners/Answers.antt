-- `overlap_owners::owners` meets its contract. The loop has marked the rows of the leaves passed, and noted their positions. Assumes nothing.
use mathlib.Core.Path.{ap, ◌∙◌}
use native.Mathlib.Omega.{arith}
use lib.ListN.{length}
use Rattle.lists.proofs.Put.{part-lent, length_part}
use Rattle.overlap_owners.proofs.Marks.{leaf-inside, leaf-more, marked-owned}
use Rattle.overlap_owners.proofs.Places.{noted-none, noted-fits, noted-leaf, noted-whole}
use Rattle.overlap_owners.proofs.owners.Goals as goal

pub loop-leaf-init : goal.loop-leaf-init
loop-leaf-init c =
    let a = c.args in
    let v = a.leaves in (
      λ l p h. absurd (omega arith),
      noted-none a.active.now v.internals.now v.domains.now v.first v.count c.requires.leaves a.positions.now c.requires.room.1,
    )

pub own-rows-requires : goal.own-rows-requires
own-rows-requires c =
    let here = c.loop-leaf-test.true in
    let L = c.requires.leaves in
    (omega (arith, L.rows, here), L.inside c.loop-leaf.leaf here)

pub overflow_add-end : goal.overflow_add-end
overflow_add-end c =
    let a = c.args in
    let v = a.leaves in
    let l = c.loop-leaf in
    omega (
      arith,
      noted-fits a.active.now v.internals.now v.domains.now v.first v.count c.requires.leaves l.leaf l.start l.positions l.invariant.1 c.loop-leaf-test.true c.own-rows.result.now c.own-rows.ensures,
    )

pub offset_bounds-positions-start : goal.offset_bounds-positions-start
offset_bounds-positions-start c =
    let a = c.args in
    let v = a.leaves in
    let l = c.loop-leaf in
    omega (
      arith,
      noted-fits a.active.now v.internals.now v.domains.now v.first v.count c.requires.leaves l.leaf l.start l.positions l.invariant.1 c.loop-leaf-test.true c.own-rows.result.now c.own-rows.ensures,
    )

pub slice_bounds-mark_leaf-end : goal.slice_bounds-mark_leaf-end
slice_bounds-mark_leaf-end c =
    let a = c.args in
    let v = a.leaves in
    let l = c.loop-leaf in
    omega (
      arith,
      noted-fits a.active.now v.internals.now v.domains.now v.first v.count c.requires.leaves l.leaf l.start l.positions l.invariant.1 c.loop-leaf-test.true c.own-rows.result.now c.own-rows.ensures,
    )

pub mark_leaf-requires : goal.mark_leaf-requires
mark_leaf-requires c =
    let a = c.args in
    let v = a.leaves in
    let l = c.loop-leaf in
    let L = c.requires.leaves in
    record {
      rows = (L.ascends, omega arith, rw c.own-rows.ensures (leaf-inside a.active.now v.internals.now v.domains.now v.first v.count L l.leaf c.loop-leaf-test.true));
      room = ap length (part-lent l.positions l.start (length c.own-rows.result.now)) ∙ length_part l.positions l.start (length c.own-rows.result.now)
          (noted-fits a.active.now v.internals.now v.domains.now v.first v.count L l.leaf l.start l.positions l.invariant.1 c.loop-leaf-test.true c.own-rows.result.now c.own-rows.ensures);
    }

pub loop-leaf-preserved : goal.loop-leaf-preserved
loop-leaf-preserved c =
    let a = c.args in
    let v = a.leaves in
    let l = c.loop-leaf in
    let f = c.mark_leaf in (
      leaf-more a.active.now v.internals.now v.domains.now v.first v.count c.requires.leaves l.wholes f.new.wholes l.leaf c.loop-leaf-test.true l.invariant.0 (rw c.own-rows.ensures at f.ensures.marked),
      noted-leaf a.active.now v.internals.now v.domains.now v.first v.count c.requires.leaves l.leaf l.start l.positions l.invariant.1 c.loop-leaf-test.true c.own-rows.result.now c.own-rows.ensures
          f.new.positions f.ensures.positions,
    )

pub returns : goal.returns
returns c =
    let a = c.args in
    let v = a.leaves in
    let l = c.loop-leaf in
    record {
      owned = marked-owned a.active.now v.internals.now v.domains.now v.first v.count c.requires.leaves l.wholes l.leaf c.loop-leaf-test.false l.invariant.0;
      positions = noted-whole a.active.now v.internals.now v.domains.now v.first v.count c.requires.leaves l.leaf l.start l.positions (omega arith) (omega arith) l.invariant.1;
    }
