use Rattle.sampling_seed.proofs.Nearest.{from_center, Nearest}
use Rattle.sampling_seed.proofs.sampling_seed.Given as goal

abbrev pub invariant-loop-i : goal.invariant-loop-i
invariant-loop-i l = Nearest (from_center l.points.dimensions l.points.coordinates.now l.rows) l.best l.near l.low l.i
