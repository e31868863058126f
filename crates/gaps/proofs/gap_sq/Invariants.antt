use mathlib.Core.Path.{◌≡◌}
use Rattle.boxes.specs.Boxes.{floats_of}
use Rattle.gaps.proofs.Axes.{gap_on}
use Rattle.gaps.proofs.gap_sq.Given as goal

abbrev pub invariant-loop-axis : goal.invariant-loop-axis
invariant-loop-axis l = l.sum ≡ gap_on l.axis l.points.dimensions l.points.coordinates.now (floats_of l.whole) l.row
