-- `level_sizes::auto_threshold` meets its contract. Assumes nothing.
use native.Mathlib.Omega.{arith}
use Rattle.definition.specs.Levels.{threshold}
use Rattle.level_sizes.proofs.auto_threshold.Goals as goal

pub returns : goal.returns
unfolding threshold
returns c = omega (arith, c.div_ceil.ensures, c.clamp.ensures)
