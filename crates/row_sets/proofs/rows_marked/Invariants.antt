use Rattle.row_sets.specs.Order.{least_after}
use Rattle.row_sets.proofs.Loops.{Asking}
use Rattle.row_sets.proofs.rows_marked.Given as goal

abbrev pub invariant-loop-i : goal.invariant-loop-i
invariant-loop-i g l = Asking (g.R.Rows.rows l.rows) l.words (least_after l.last) l.i
