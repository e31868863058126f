use Rattle.file_front.proofs.Points.{Passing}
use Rattle.file_front.proofs.points_pass.Given as goal

abbrev pub invariant-loop-i : goal.invariant-loop-i
invariant-loop-i l = Passing l.dimensions l.bytes l.i
