use Prim.Native.Nat.{◌-◌}
use Rattle.tree_lists.specs.Lent.{SameLists, SameRoom, SameRecords}
use Rattle.definition.specs.Tree.{most_fine}
use Rattle.levels_loop.proofs.Loop.{Inv}
use Rattle.levels_loop.proofs.Noted.{Noted}
use Rattle.levels_loop.proofs.all_levels.Given as goal

abbrev pub invariant-loop-size : goal.invariant-loop-size
invariant-loop-size l = Inv l.plan.points.dimensions l.plan.points.coordinates.now l.plan.leaf l.plan.neighbours l.c l.k l.n l.initial.lists.level_points.now l.initial.lists.internals.now l.initial.lists.domains.now l.initial.lists.boxes.now l.initial.lists.borrowed.now l.initial.room.floats.now l.initial.room.wholes.now l.lists.level_points.now l.lists.internals.now l.lists.domains.now l.lists.boxes.now l.lists.borrowed.now l.room.floats.now l.room.wholes.now l.built l.place.from l.place.a l.place.first l.place.bat l.rows l.domains
    × Noted l.plan.points.dimensions l.plan.points.coordinates.now l.plan.leaf l.plan.neighbours l.c l.k l.n l.initial.lists.level_points.now l.lists.level_points.now l.built l.place.from l.place.a l.initial.records.cuts.now l.initial.records.planes.now l.records.cuts.now l.records.planes.now l.place.node
    × SameLists l.initial.lists l.lists × SameRoom l.initial.room l.room × SameRecords l.initial.records l.records

abbrev pub decreases-loop-size : goal.decreases-loop-size
decreases-loop-size l = most_fine - l.built
