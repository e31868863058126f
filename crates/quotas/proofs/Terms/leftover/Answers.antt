-- `quotas::Terms::leftover` meets its contract: `left` is the rest less the shares so far, rounded down. Assumes nothing.
use Prim.Native.Nat.{◌+◌}
use native.Mathlib.Omega.{arith}
use lib.ListN.{length}
use Rattle.lists.proofs.Sums.{sum-below-nil, sum-below-suc, sum-below-part}
use Rattle.definition.specs.Quotas.{whole_at}
use Rattle.definition.proofs.Shares.{wholes_fit}
use Rattle.quotas.specs.Sharing.{capacities}
use Rattle.quotas.proofs.OneLeaf.{same-leaves, whole_is}
use Rattle.quotas.proofs.Terms.leftover.Goals as goal

pub loop-w-init : goal.loop-w-init
loop-w-init c = let a = c.args in
    omega (arith, sum-below-nil (whole_at (capacities a.sizes.now a.self.first) a.self.rest))

pub overflow_sub-left : goal.overflow_sub-left
overflow_sub-left c = let a = c.args in
    let i = c.loop-w.w-index in
    let f = whole_at (capacities a.sizes.now a.self.first) a.self.rest in
    let e = whole_is a.sizes.now a.self.first a.self.rest a.self.pool c.requires i _ c.product.ensures in
    let n = same-leaves a.sizes.now a.self.first in
    omega (arith, e, sum-below-suc i f, sum-below-part (i + 1) (length (capacities a.sizes.now a.self.first)) f (omega (arith, n)), wholes_fit (capacities a.sizes.now a.self.first) a.self.rest c.requires.within)

pub loop-w-preserved : goal.loop-w-preserved
loop-w-preserved c = let a = c.args in
    let i = c.loop-w.w-index in
    let f = whole_at (capacities a.sizes.now a.self.first) a.self.rest in
    let e = whole_is a.sizes.now a.self.first a.self.rest a.self.pool c.requires i _ c.product.ensures in
    omega (arith, e, sum-below-suc i f)
