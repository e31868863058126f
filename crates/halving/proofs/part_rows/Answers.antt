-- `halving::part_rows` meets its contract. Assumes nothing.
use mathlib.Core.Path.{sym, ◌∙◌}
use native.Mathlib.Omega.{arith}
use Rattle.argsort.proofs.Orders.{row_inside}
use Rattle.halving.proofs.Turns.{parted-first, parted-row, parted-left, parted-right, parted-end}
use Rattle.halving.proofs.part_rows.Goals.{then-comes_before, else-comes_before}
use Rattle.halving.proofs.part_rows.Goals as goal

pub loop-i-init : goal.loop-i-init
loop-i-init c = parted-first _ _ _ c.requires.0

pub comes_before-requires : goal.comes_before-requires
comes_before-requires c = let s = c in
    let a = s.args in
    let r =
    row_inside a.column.points.dimensions a.column.points.coordinates.now a.column.axis _
    (parted-row c.loop-i.invariant c.loop-i-test.true _ s.requires.1) in
    let m = s.requires.2 in
    (omega arith, omega arith)

pub loop-i-preserved : goal.loop-i-preserved
loop-i-preserved c =
    let v = c.loop-i.invariant in
    let t = c.loop-i-test.true in
    let b = sym c.comes_before.ensures in
    elim c.if-comes_before.branch [
      | then-comes_before w ↦ rw (w.rows-is, w.room-is, w.lo-is, w.hi-is) (parted-left v t (b ∙ w.if-comes_before.true))
      | else-comes_before w ↦ rw (w.rows-is, w.room-is, w.lo-is, w.hi-is) (parted-right v t (b ∙ w.if-comes_before.false))
    ]

pub returns : goal.returns
returns c = let e = parted-end c.loop-i.invariant c.loop-i-test.false in record { number = e.0; rows = e.1.0; room = e.1.1 }
