-- `middle_row::count_before` meets its contract. Assumes nothing.
use mathlib.Core.Path.{sym, ◌∙◌}
use Rattle.lists.proofs.All.{all-at}
use Rattle.argsort.proofs.Orders.{row_inside}
use Rattle.middle_row.proofs.Turns.{counted-first, counted-in, counted-out, counted-end}
use Rattle.middle_row.proofs.count_before.Goals.{then-comes_before, else-comes_before}
use Rattle.middle_row.proofs.count_before.Goals as goal

pub loop-r-init : goal.loop-r-init
loop-r-init c = counted-first _ _

pub comes_before-requires : goal.comes_before-requires
comes_before-requires c = let s = c in
    let a = s.args in
    (row_inside a.column.points.dimensions a.column.points.coordinates.now a.column.axis _ (all-at _ a.rows.now c.loop-r.r-index 0 s.requires.0 c.loop-r-test.true), s.requires.1)

pub loop-r-preserved : goal.loop-r-preserved
loop-r-preserved c =
    let t = c.loop-r-test.true in
    let b = sym c.comes_before.ensures in
    elim c.if-comes_before.branch [
      | then-comes_before w ↦ rw w.n-is (counted-in c.loop-r.invariant t (b ∙ w.if-comes_before.true))
      | else-comes_before w ↦ rw w.n-is (counted-out c.loop-r.invariant t (b ∙ w.if-comes_before.false))
    ]

pub returns : goal.returns
returns c = counted-end c.loop-r.invariant c.loop-r-test.false
