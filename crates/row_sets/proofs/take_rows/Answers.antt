-- `row_sets::take_rows` meets its contract: before row i the rows before it are out of both sets, and the rest decides. Assumes nothing.
use mathlib.Core.Path.{refl}
use Prim.Native.Nat.{◌<◌}
use native.Mathlib.Omega.{arith}
use lib.ListN.{length}
use Rattle.lists.proofs.Tests.{clash}
use Rattle.row_sets.specs.Order.{least_after}
use Rattle.row_sets.proofs.Order.{too-low, not_low}
use Rattle.row_sets.proofs.Loops.{taking-start, taking-low, taking-out, taking-next, taking-end}
use Rattle.row_sets.proofs.take_rows.Goals as goal
use Rattle.row_sets.proofs.take_rows.Goals.{then-not-follows-via-then-not-follows, then-not-follows-via-else-not-follows+then-not-is_marked}

pub loop-i-init : goal.loop-i-init
unfolding least_after
loop-i-init g c = taking-start _ _ _

pub returns-then-not-follows : goal.returns-then-not-follows
returns-then-not-follows g c =
    let s = c.loop-i.invariant in
    let here : c.loop-i.i < length (g.R.Rows.rows c.args.rows.now) = omega arith in
    elim c.then-not-follows.branch [
      | then-not-follows-via-then-not-follows w ↦ λ p q m n. (taking-low s _ here c.row-row.ensures (too-low _ _ _ c.follows.ensures w.if-not-follows.true) p m, λ t. clash t refl)
      | then-not-follows-via-else-not-follows+then-not-is_marked w ↦ λ p q m n. (
        taking-out s _ here c.row-row.ensures (not_low _ _ _ c.follows.ensures w.if-not-follows.false) _ w.is_marked.ensures w.if-not-is_marked.true p m,
        λ t. clash t refl,
      )
    ]

pub loop-i-preserved : goal.loop-i-preserved
unfolding least_after
loop-i-preserved g c =
    let here : c.loop-i.i < length (g.R.Rows.rows c.args.rows.now) = omega arith in
    let up = not_low _ _ _ c.follows.ensures c.if-not-follows.false in
    taking-next c.loop-i.invariant _ here c.row-row.ensures up _ c.is_marked.ensures c.if-not-is_marked.false _ c.unmark.ensures.set _ c.unmark-in-loop-i.ensures.set

pub returns : goal.returns
returns g c = taking-end c.loop-i.invariant (omega arith)
