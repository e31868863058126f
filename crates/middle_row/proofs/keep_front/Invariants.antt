use mathlib.Core.Bool.{Bool}
use Prim.Native.Nat.{ℕ}
use Rattle.middle_row.specs.Middle.{Tells}
use Rattle.middle_row.proofs.Turns.{Moving, KeptFront}
use Rattle.middle_row.proofs.keep_front.Given as goal

abbrev pub invariant-loop-t : goal.invariant-loop-t
invariant-loop-t g l = Moving l.initial.rows l.rows l.n l.t × ((p : ℕ → Bool) → Tells g.F.Fn l.passes p → KeptFront p l.initial.rows l.rows l.n l.t)
