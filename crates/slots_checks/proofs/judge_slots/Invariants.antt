use Rattle.definition.specs.Table.{flagged}
use Rattle.slots_checks.proofs.Judged.{None}
use Rattle.slots_checks.proofs.judge_slots.Given as goal

abbrev pub invariant-loop-i : goal.invariant-loop-i
invariant-loop-i l = None l.table.points.dimensions l.table.points.coordinates.now (flagged l.table.flags.now) l.i
