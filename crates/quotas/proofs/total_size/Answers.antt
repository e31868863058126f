-- `quotas::total_size` meets its contract: `sum` is the total of the sizes passed, and stays within the limit. Assumes nothing.
use Prim.Native.Nat.{◌+◌}
use native.Mathlib.Omega.{arith}
use Rattle.lists.proofs.Sums.{total-nil, total-step, total-front}
use Rattle.quotas.proofs.total_size.Goals as goal

pub loop-w-init : goal.loop-w-init
loop-w-init c = (omega (arith, total-nil), omega arith)

pub returns-then-sum-w : goal.returns-then-sum-w
returns-then-sum-w c = let l = c.args.sizes.now in
    let i = c.loop-w.w-index in
    omega (arith, total-step l i, total-front (i + 1) l)

pub loop-w-preserved : goal.loop-w-preserved
loop-w-preserved c = (omega (arith, total-step c.args.sizes.now c.loop-w.w-index), omega arith)
