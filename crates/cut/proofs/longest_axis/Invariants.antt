use mathlib.Core.Path.{◌≡◌}
use Prim.Native.Nat.{◌-◌}
use lib.Ieee.{lt}
use Rattle.lists.specs.Lists.{best, from}
use Rattle.definition.specs.Points.{extent}
use Rattle.cut.proofs.longest_axis.Given as goal

abbrev pub invariant-loop-axis : goal.invariant-loop-axis
invariant-loop-axis l = (l.longest ≡ best (λ a b. lt (extent l.points.dimensions l.points.coordinates.now l.rows b) (extent l.points.dimensions l.points.coordinates.now l.rows a)) 0 (from 1 (l.axis - 1))) × (l.e ≡ extent l.points.dimensions l.points.coordinates.now l.rows l.longest)
