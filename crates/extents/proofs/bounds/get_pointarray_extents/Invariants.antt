use Rattle.boxes.proofs.Boxed.{Filled}
use Rattle.extents.proofs.bounds.get_pointarray_extents.Given as goal

abbrev pub invariant-loop-axis : goal.invariant-loop-axis
invariant-loop-axis l = Filled l.points.coordinates.now l.points.dimensions l.rows l.lower l.upper l.axis
