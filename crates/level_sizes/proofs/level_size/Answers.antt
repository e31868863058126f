-- `level_sizes::level_size` meets its contract: the exact size is at least c, so the lower hold changes nothing. Assumes nothing.
use native.Mathlib.Omega.{arith}
use Rattle.definition.specs.Levels.{level_size_lem}
use Rattle.definition.proofs.Sizes.{exact-ge}
use Rattle.level_sizes.proofs.level_size.Goals as goal

pub returns : goal.returns
unfolding level_size_lem
returns c = let s = c in omega (arith, exact-ge s.args.a s.args.c s.args.r (omega arith) (omega arith))
