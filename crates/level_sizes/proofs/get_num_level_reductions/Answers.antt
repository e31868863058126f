-- `level_sizes::get_num_level_reductions` meets its contract: no count below k reaches n. Each product is of a number below n, at
-- most 2^20, and of a factor below 2^32. Assumes nothing.
use mathlib.Core.Path.{◌≡◌, refl, sym}
use Prim.Native.Nat.{ℕ, ◌^◌, ◌*◌, ◌+◌, ◌≤◌, ◌<◌}
use native.Mathlib.Nat.{pow-suc, mul_assoc}
use native.Mathlib.Numerals.{add-one}
use native.Mathlib.Omega.{arith}
use borrow.Author.Count.{below_more}
use borrow.Author.Tests.{le-leb, lt-leb}
use lib.Dec.{leb}
use Rattle.lists.proofs.Least.{least-is}
use Rattle.definition.specs.Levels.{reductions}
use Rattle.level_sizes.proofs.get_num_level_reductions.Goals as goal

-- the least count that reaches n
reached : (n c f k : ℕ) → k ≤ 4 → ((j : ℕ) → j < k → c * f ^ j < n) → (k < 4 → n ≤ c * f ^ k) → k ≡ reductions n c f
unfolding reductions
reached n c f k few below at =
    sym (least-is (λ k. leb n (c * f ^ k)) 4 k few (λ j h. lt-leb _ _ (below j h)) (λ h. le-leb _ _ (at h)))

-- the next product
next : (c f k x : ℕ) → x ≡ c * f ^ k → x * f ≡ c * f ^ (k + 1)
next c f k x e = rw (e, add-one, pow-suc, mul_assoc) refl

pub loop-k-preserved : goal.loop-k-preserved
loop-k-preserved c = let i = c.loop-k.invariant in
    let a = c.args in
    (next a.c a.f c.loop-k.k _ i.0, below_more _ _ i.1 (rw i.0 at c.if-n-covered.false))

pub returns-then-n-covered : goal.returns-then-n-covered
returns-then-n-covered c = let i = c.loop-k.invariant in
    reached _ _ _ _ (omega arith) i.1 (λ h. rw i.0 at c.if-n-covered.true)

pub returns : goal.returns
returns c = reached _ _ _ 4 (omega arith) (λ j h. c.loop-k.invariant.1 j (omega arith)) (λ h. absurd (omega arith))
