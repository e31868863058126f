-- `row_sets::mark_rows` meets its contract: before row i the rows before it are marked. Assumes nothing.
use Prim.Native.Nat.{◌<◌}
use native.Mathlib.Omega.{arith}
use lib.ListN.{length}
use Rattle.row_sets.proofs.Loops.{marking-start, marking-within, marking-clear, marking-next}
use borrow.Author.Rules.{rules}
use Rattle.row_sets.proofs.mark_rows.Goals as goal

pub loop-i-init : goal.loop-i-init
loop-i-init g c = marking-start _ _

pub mark-requires : goal.mark-requires
mark-requires g c =
    let s = c.loop-i.invariant in
    let here : c.loop-i.i < length (g.R.Rows.rows c.args.rows.now) = omega arith in
    (marking-within s _ here c.row-row.ensures c.requires, marking-clear s _ here c.row-row.ensures c.requires)

pub loop-i-preserved : goal.loop-i-preserved
loop-i-preserved g c =
    let here : c.loop-i.i < length (g.R.Rows.rows c.args.rows.now) = omega arith in
    marking-next c.loop-i.invariant _ here c.row-row.ensures _ (search rules) c.mark.ensures.1
