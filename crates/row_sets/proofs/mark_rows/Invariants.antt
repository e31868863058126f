use Rattle.row_sets.proofs.Loops.{Marking}
use Rattle.row_sets.proofs.mark_rows.Given as goal

abbrev pub invariant-loop-i : goal.invariant-loop-i
invariant-loop-i g l = Marking (g.R.Rows.rows l.rows) l.initial.words l.words l.i
