use Rattle.packed.specs.View.{packed_of}
use Rattle.tree_answer.specs.Answers.{tree_counts}
use Rattle.row_sets.specs.Lent.{SameSets}
use Rattle.list_levels.proofs.BetweenLevels.{BetweenLevels}
use Rattle.list_levels.proofs.check_levels.Given as goal

abbrev pub invariant-loop-t : goal.invariant-loop-t
invariant-loop-t l = BetweenLevels (packed_of l.tree.leaves) l.tree.level_points.now (tree_counts l.tree) l.n l.borrowed_most l.sets.listed.now l.t l.above l.done
    × SameSets l.initial.sets l.sets
