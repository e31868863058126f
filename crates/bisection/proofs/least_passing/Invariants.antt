use Prim.Native.Nat.{ℕ, ◌-◌, ◌≤◌}
use mathlib.Core.Bool.{Bool}
use Rattle.bisection.specs.Tests.{TellsBelow, Stays}
use Rattle.bisection.proofs.Halving.{Kept}
use Rattle.bisection.proofs.least_passing.Given as goal

abbrev pub invariant-loop-low : goal.invariant-loop-low
invariant-loop-low g l = (l.low ≤ l.high) × (l.high ≤ l.most)
    × ((t : ℕ → Bool) → TellsBelow g.F.Fn l.most l.passes t → Stays l.most t → Kept t l.most l.low l.high)

abbrev pub decreases-loop-low : goal.decreases-loop-low
decreases-loop-low g l = l.high - l.low
