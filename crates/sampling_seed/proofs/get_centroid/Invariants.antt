use mathlib.Core.Path.{◌≡◌}
use Prim.Native.Nat.{ℕ, ◌<◌}
use lib.ListN.{length, get_or}
use lib.Ieee.{nan}
use Rattle.definition.specs.Sampling.{centroid}
use Rattle.sampling_seed.proofs.get_centroid.Given as goal

abbrev pub invariant-loop-axis : goal.invariant-loop-axis
invariant-loop-axis l = (length l.center ≡ 3) × ((a : ℕ) → a < l.axis → get_or l.center a nan ≡ centroid l.points.dimensions l.points.coordinates.now l.rows a)
