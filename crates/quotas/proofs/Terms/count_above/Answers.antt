-- `quotas::Terms::count_above` meets its contract: `many` is the count over the leaves passed. Assumes nothing.
use mathlib.Core.Bool.{Bool}
use Prim.Native.Nat.{ℕ}
use native.Mathlib.Omega.{arith}
use lib.Dec.{ltb}
use borrow.Author.Tests.{lt-ltb, le-ltb}
use Rattle.lists.proofs.From.{count-below-yes, count-below-no, count-below-nil}
use Rattle.definition.specs.Quotas.{remainder_at}
use Rattle.quotas.specs.Sharing.{capacities}
use Rattle.quotas.proofs.OneLeaf.{remainder_is}
use Rattle.quotas.proofs.Terms.count_above.Goals as goal
use Rattle.quotas.proofs.Terms.count_above.Goals.{then-t-product, else-t-product}

pub loop-w-init : goal.loop-w-init
loop-w-init c = let a = c.args in
    omega (arith, count-below-nil (λ j. ltb a.t (remainder_at (capacities a.sizes.now a.self.first) a.self.rest j)))

pub loop-w-preserved : goal.loop-w-preserved
loop-w-preserved c = let a = c.args in
    let i = c.loop-w.w-index in
    let r = remainder_at (capacities a.sizes.now a.self.first) a.self.rest in
    let q : ℕ → Bool = λ j. ltb a.t (r j) in
    let e = remainder_is a.sizes.now a.self.first a.self.rest a.self.pool c.requires i _ c.product.ensures in
    elim c.if-t-product.branch [
      | then-t-product w ↦ omega (arith, count-below-yes q i (lt-ltb a.t (r i) (rw (← e) w.if-t-product.true)))
      | else-t-product w ↦ omega (arith, count-below-no q i (le-ltb a.t (r i) (rw (← e) w.if-t-product.false)))
    ]
