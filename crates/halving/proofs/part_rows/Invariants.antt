use mathlib.Core.Bool.{true}
use Rattle.middle_row.specs.Middle.{side_in}
use Rattle.halving.proofs.Turns.{Parted}
use Rattle.halving.proofs.part_rows.Given as goal

abbrev pub invariant-loop-i : goal.invariant-loop-i
invariant-loop-i l = Parted (side_in l.column l.m true) l.initial.rows l.initial.room l.rows l.room l.lo l.hi l.i
