-- `sampling_seed::centroid_axis` meets its contract. The loop's invariant: the sum is that of the rows passed. Assumes nothing.
use native.Mathlib.Omega.{arith}
use Rattle.rows.proofs.Good.{good-at}
use Rattle.sampling_seed.proofs.Nearest.{summed-more, summed-all}
use Rattle.sampling_seed.proofs.centroid_axis.Goals as goal

pub at-sum-requires : goal.at-sum-requires
at-sum-requires c = omega (
  arith,
  c.requires.1,
  (good-at c.args.rows.now c.requires.0 c.loop-row.row-index c.loop-row-test.true).inside,
)

pub loop-row-preserved : goal.loop-row-preserved
loop-row-preserved c = rw c.at-sum.ensures (summed-more _ _ _ _ _ _ c.loop-row-test.true c.loop-row.invariant)

pub returns : goal.returns
returns c = let l = c.loop-row in summed-all _ _ _ _ _ _ (omega arith) l.invariant
