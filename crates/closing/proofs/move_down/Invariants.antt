use mathlib.Core.Path.{◌≡◌}
use lib.ListN.{length}
use Rattle.table_checks.specs.Tables.{SameWells}
use Rattle.closing.proofs.Moves.{MovedDown}
use Rattle.closing.proofs.move_down.Given as goal

abbrev pub invariant-loop-i : goal.invariant-loop-i
invariant-loop-i l = SameWells l.initial.wells l.wells × (length l.rename ≡ length l.initial.rename)
    × MovedDown l.initial.wells.dimensions l.slots l.initial.wells.flags.now l.initial.wells.coordinates.now l.initial.rename l.wells.flags.now l.wells.coordinates.now l.rename l.i l.to
