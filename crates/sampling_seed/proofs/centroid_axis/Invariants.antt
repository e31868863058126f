use Rattle.sampling_seed.proofs.Nearest.{Summed}
use Rattle.sampling_seed.proofs.centroid_axis.Given as goal

abbrev pub invariant-loop-row : goal.invariant-loop-row
invariant-loop-row l = Summed l.column.points.dimensions l.column.points.coordinates.now l.rows l.column.axis l.sum l.row-index
