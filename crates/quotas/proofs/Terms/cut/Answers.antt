-- `quotas::Terms::cut` meets its contract: where at most `left` remainders are above a number, no more are above those behind it, and none
-- is above the divisor. Assumes nothing.
use Rattle.std.proofs.Common.{rules, ◌≡◌, ℕ, ◌≤◌, ◌<◌, List, length, Bool}
use mathlib.Core.Logic.{⊎_elim}
use native.Mathlib.Omega.{arith}
use lib.Dec.{leb, ltb}
use borrow.Author.Tests.{leb-true, leb-false, le-leb, ltb-true, lt-ltb}
use Rattle.lists.specs.Lists.{least, from}
use Rattle.lists.proofs.Count.{count-le}
use Rattle.lists.proofs.Tests.{le-or-lt}
use Rattle.lists.proofs.Least.{least-holds, least-high, least-before}
use Rattle.definition.specs.Quotas.{remainder_at}
use Rattle.bisection.specs.Tests.{Stays}
use Rattle.quotas.specs.Sharing.{Sharing, capacities, remainders_above}
use Rattle.quotas.proofs.OneLeaf.{top-cut}
use Rattle.quotas.proofs.Terms.cut.Goals as goal

-- no more remainders are above a number than above one before it
fewer : (caps : List ℕ) (rest s t : ℕ) → s ≤ t → remainders_above caps rest t ≤ remainders_above caps rest s
fewer caps rest s t h =
    let r = remainder_at caps rest in
    count-le (λ j. ltb t (r j)) (λ j. ltb s (r j)) (from 0 (length caps)) (λ j _ e. lt-ltb s (r j) (omega (arith, ltb-true t (r j) e)))

abbrev few : List ℕ → ℕ → ℕ → ℕ → Bool
few caps rest left t = leb (remainders_above caps rest t) left

few-stays : (caps : List ℕ) (rest left n : ℕ) → Stays n (few caps rest left)
few-stays caps rest left n i j h l e = le-leb (remainders_above caps rest j) left (omega (arith, leb-true _ _ e, fewer caps rest i j h))

cut-is : (sizes : List ℕ) (first rest pool left t : ℕ) → Sharing sizes first rest pool → t ≡ least (few (capacities sizes first) rest left) pool
    → (remainders_above (capacities sizes first) rest t ≤ left) × ((s : ℕ) → s < t → left < remainders_above (capacities sizes first) rest s)
cut-is sizes first rest pool left t k e =
    let p = few (capacities sizes first) rest left in
    rw e (
      ⊎_elim
          (λ (h : pool ≤ least p pool). let top : least p pool ≡ pool = omega (arith, least-high p pool) in rw top (top-cut sizes first rest pool k left))
          (λ (h : least p pool < pool). leb-true _ _ (least-holds p pool h))
          (le-or-lt pool (least p pool)),
      λ s h. leb-false _ _ (least-before p pool s h),
    )

pub returns : goal.returns
returns c = let a = c.args in
    cut-is a.sizes.now a.self.first a.self.rest a.self.pool a.left _ c.requires
    (c.least_passing.ensures (few (capacities a.sizes.now a.self.first) a.self.rest a.left) (λ i b h p. search rules) (few-stays _ _ _ _))
