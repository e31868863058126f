use mathlib.Core.Path.{◌≡◌}
use Rattle.definition.specs.Points.{point_at, distance_sq_lem}
use Rattle.distances.proofs.distance.distance_sq_between.Given as goal

abbrev pub invariant-loop-k : goal.invariant-loop-k
invariant-loop-k l = l.sum ≡ distance_sq_lem l.k (point_at l.p 0) (point_at l.q 0)
