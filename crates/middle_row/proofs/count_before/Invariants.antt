use mathlib.Core.Bool.{true}
use Rattle.middle_row.specs.Middle.{side_in}
use Rattle.middle_row.proofs.Turns.{CountedTo}
use Rattle.middle_row.proofs.count_before.Given as goal

abbrev pub invariant-loop-r : goal.invariant-loop-r
invariant-loop-r l = CountedTo (side_in l.column l.p true) l.rows l.n l.r-index
