use Rattle.row_sets.specs.Order.{least_after}
use Rattle.row_sets.proofs.Loops.{Taking}
use Rattle.row_sets.proofs.take_rows.Given as goal

abbrev pub invariant-loop-i : goal.invariant-loop-i
invariant-loop-i g l = Taking (g.R.Rows.rows l.rows) l.initial.left l.initial.listed l.left l.listed (least_after l.last) l.i
