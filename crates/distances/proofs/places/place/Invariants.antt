use mathlib.Core.Bool.{Bool}
use Prim.Native.Nat.{◌≤◌}
use lib.ListN.{length, get_or}
use lib.Ieee.{Float, nan}
use Rattle.extents.specs.Bests.{Decides}
use Rattle.distances.proofs.Firsts.{Place}
use Rattle.distances.proofs.places.place.Given as goal

abbrev pub invariant-loop-i : goal.invariant-loop-i
invariant-loop-i g l = (l.best ≤ l.i) × ((b : Float → Float → Bool) → Decides g.F.Fn l.better b → Place (λ i j. b (get_or l.values i nan) (get_or l.values j nan)) (length l.values) l.best l.i)
