use Rattle.file_front.proofs.PresentPoints.{Comparing}
use Rattle.file_front.proofs.same_points.Given as goal

abbrev pub invariant-loop-i : goal.invariant-loop-i
invariant-loop-i l = Comparing l.points.dimensions l.points.coordinates.now l.bytes l.n l.i
