-- `row_sets::rows_marked` meets its contract: before row i the rest decides. Assumes nothing.
use Prim.Native.Nat.{◌<◌}
use native.Mathlib.Omega.{arith}
use lib.ListN.{length}
use Rattle.row_sets.specs.Order.{least_after}
use Rattle.row_sets.proofs.Order.{too-low, not_low}
use Rattle.row_sets.proofs.Loops.{asking-start, asking-low, asking-out, asking-next, asking-end}
use Rattle.row_sets.proofs.rows_marked.Goals as goal
use Rattle.row_sets.proofs.rows_marked.Goals.{then-not-follows-via-then-not-follows, then-not-follows-via-else-not-follows+then-not-is_marked}

pub loop-i-init : goal.loop-i-init
unfolding least_after
loop-i-init g c = asking-start _ _

pub returns-then-not-follows : goal.returns-then-not-follows
returns-then-not-follows g c =
    let s = c.loop-i.invariant in
    let here : c.loop-i.i < length (g.R.Rows.rows c.args.rows.now) = omega arith in
    elim c.then-not-follows.branch [
      | then-not-follows-via-then-not-follows w ↦ asking-low s _ here c.row-row.ensures (too-low _ _ _ c.follows.ensures w.if-not-follows.true)
      | then-not-follows-via-else-not-follows+then-not-is_marked w ↦ asking-out s _ here c.row-row.ensures _ w.is_marked.ensures w.if-not-is_marked.true
    ]

pub loop-i-preserved : goal.loop-i-preserved
unfolding least_after
loop-i-preserved g c =
    let here : c.loop-i.i < length (g.R.Rows.rows c.args.rows.now) = omega arith in
    let up = not_low _ _ _ c.follows.ensures c.if-not-follows.false in
    asking-next c.loop-i.invariant _ here c.row-row.ensures _ c.is_marked.ensures up c.if-not-is_marked.false

pub returns : goal.returns
returns g c = asking-end c.loop-i.invariant (omega arith)
