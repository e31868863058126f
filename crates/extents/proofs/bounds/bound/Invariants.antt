use mathlib.Core.Path.{◌≡◌}
use mathlib.Core.Bool.{Bool}
use Prim.Native.Nat.{◌+◌}
use lib.Ieee.{Float}
use Rattle.points.specs.Columns.{value_of}
use Rattle.extents.specs.Bests.{Decides}
use Rattle.extents.proofs.Firsts.{best_in}
use Rattle.extents.proofs.bounds.bound.Given as goal

abbrev pub invariant-loop-row : goal.invariant-loop-row
invariant-loop-row g l = (b : Float → Float → Bool) → Decides g.F.Fn l.better b → l.best ≡ best_in b (value_of l.column) l.rows (l.row-index + 1)
