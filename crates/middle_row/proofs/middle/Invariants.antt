use mathlib.Core.Path.{◌≡◌}
use Prim.Native.Nat.{◌+◌, ◌*◌, ◌/◌, ◌≤◌}
use lib.ListN.{length}
use Rattle.middle_row.specs.Middle.{Narrows}
use Rattle.definition.specs.Refusals.{most_points}
use Rattle.middle_row.proofs.middle.Given as goal

abbrev pub invariant-loop-s : goal.invariant-loop-s
invariant-loop-s l = Narrows l.column.points.dimensions l.column.points.coordinates.now l.column.axis l.initial.rows (length l.initial.rows / 2) l.rows l.s.count l.s.rank × (length l.rows ≡ length l.initial.rows)
    × (32 * l.round + l.left ≤ 8 * length l.initial.rows)
    × (length l.initial.rows ≤ most_points)

abbrev pub decreases-loop-s : goal.decreases-loop-s
decreases-loop-s l = l.left
