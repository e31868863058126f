-- `level_sizes::resolved_coarse_threshold` meets its contract, by the cases of the policy. Assumes nothing.
use borrow.Author.Rules.{rules}
use Rattle.definition.specs.Levels.{threshold}
use Rattle.level_sizes.proofs.resolved_coarse_threshold.Goals as goal

pub returns-in-Fixed : goal.returns-in-Fixed
unfolding threshold
returns-in-Fixed c = search rules
