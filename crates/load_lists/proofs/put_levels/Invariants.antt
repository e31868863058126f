use mathlib.Core.Path.{◌≡◌}
use Prim.Native.Nat.{◌-◌}
use Rattle.definition.specs.Packed.{most_levels}
use Rattle.tree_lists.specs.Lent.{SameLists}
use Rattle.load_lists.specs.Places.{packed_in}
use Rattle.load_lists.proofs.LevelsLoop.{Inv}
use Rattle.load_lists.proofs.put_levels.Given as goal

abbrev pub invariant-loop-level : goal.invariant-loop-level
invariant-loop-level l = (l.levels ≡ l.level) × Inv l.dimensions l.bytes l.at l.next l.initial.lists.level_points.now l.lists.level_points.now (packed_in l.initial.lists l.dimensions) (packed_in l.lists l.dimensions) l.rows l.counts l.level (most_levels - l.level)
    × SameLists l.initial.lists l.lists
