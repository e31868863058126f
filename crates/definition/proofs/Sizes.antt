-- Laws of the reductions and of the level size. Assumes nothing.
-- Holds: exact-is, goal-bound, exact-ge, sized, reductions-few, reductions-reach, ends
use Prim.Native.Nat.{ℕ, zero, suc, ◌-◌, ◌*◌, ◌^◌, ◌≤◌, ◌<◌}
use mathlib.Core.Path.{◌≡◌, refl, sym}
use mathlib.Core.Logic.{⊎_elim}
use mathlib.Core.Bool.{true, false}
use native.Mathlib.Nat.{pow-zero, mul-one, mul-le-mul, pow-le-pow_left, pow-le-pow_right, le_trans, pow-succ', mul-le-mul_left, mul-lt-mul_of_pos_right, one-le-pow, lt_of_le_of_lt}
use native.Mathlib.Omega.{arith}
use lib.Dec.{leb}
use borrow.Author.Tests.{leb-true, leb-false, le-leb, lt-leb}
use Rattle.lists.proofs.Tests.{true-or-false, cond-true, cond-false}
use Rattle.lists.proofs.Least.{least-is, least_above, least-le, least-holds}
use Rattle.definition.specs.Levels.{reductions, exact_size_lem, level_size_lem}
use Rattle.definition.specs.LevelLaws.{active_after, Sized, Ends}
use Rattle.definition.proofs.Powers.{pow-1}
use Rattle.definition.specs.Refusals.{most_points}

-- ---- the exact size
module _ (a c r : ℕ) where
  -- the number below which nothing reaches c * a^(r-1), and that reaches it
  pub exact-is : (goal m : ℕ) → goal ≡ c * a ^ (r - 1) → m ≤ a → ((j : ℕ) → j < m → j ^ r < goal) → (m < a → goal ≤ m ^ r) → m ≡ exact_size_lem a c r
  unfolding exact_size_lem
  exact-is goal m e hi below at =
      sym (least-is (λ m. leb (c * a ^ (r - 1)) (m ^ r)) a m hi
      (λ j h. lt-leb _ _ (rw e at (below j h)))
      (λ h. le-leb _ _ (rw e at (at h))))

  -- c * a^(r-1) is below 2^64
  pub goal-bound : (p : ℕ) → p ≡ a ^ (r - 1) → a ≤ most_points → c < a → r ≤ 3 → c * p ≤ most_points * most_points ^ 2
  goal-bound p e ha hc hr =
      let l : c ≤ most_points = omega arith in
      let k : r - 1 ≤ 2 = omega arith in
      let q : 0 < most_points = omega arith in
      let h : p ≤ most_points ^ 2 = rw e (le_trans (pow-le-pow_left ha (r - 1)) (pow-le-pow_right q k)) in
      mul-le-mul l h

below-exact : (a c s j : ℕ) → j < c → c < a → j ^ suc s < c * a ^ s
below-exact a c s j h l =
    let p : 0 < a = omega arith in
    let k : j ≤ a = omega arith in
    rw pow-succ' (lt_of_le_of_lt (mul-le-mul_left j (pow-le-pow_left k s)) (mul-lt-mul_of_pos_right h (one-le-pow s a p)))

pub exact-ge : (a c r : ℕ) → c < a → 1 ≤ r → c ≤ exact_size_lem a c r
unfolding exact_size_lem
exact-ge a c zero h l = absurd (omega arith)
exact-ge a c (suc s) h l =
    let e : suc s - 1 ≡ s = omega arith in
    least_above (λ m. leb (c * a ^ (suc s - 1)) (m ^ suc s)) a c (omega arith) (λ j g. lt-leb (c * a ^ (suc s - 1)) (j ^ suc s) (rw e (below-exact a c s j g h)))

exact-1 : (a c : ℕ) → c < a → exact_size_lem a c 1 ≡ c
exact-1 a c h = sym (exact-is a c 1 c c (simp (pow-zero, mul-one)) (omega arith) (λ j g. rw pow-1 g) (λ g. omega (arith, pow-1 c)))

-- ---- the size of the next level
size-last : (a c : ℕ) → 1 ≤ c → c < a → level_size_lem a c 1 ≡ c
unfolding level_size_lem
size-last a c p h = omega (arith, exact-1 a c h)

pub sized : (a c r : ℕ) → 1 ≤ c → c < a → 1 ≤ r → Sized a c r
unfolding level_size_lem
sized a c r p h l = record {
  some = omega arith;
  fewer = omega arith;
  enough = omega (arith, exact-ge a c r h l);
  last = λ e. rw e (size-last a c p h);
}

-- ---- the levels end: with k reductions at most c rows are left, and k is at most 3 where c * f^3 reaches n
after_small : (c : ℕ) → 1 ≤ c → (r a : ℕ) → (r ≡ 0 → a ≤ c) → active_after c r a ≤ c
unfolding active_after
after_small c p zero a h = h refl
after_small c p (suc r) a h =
    ⊎_elim
    (λ (t : leb a c ≡ true). rw (cond-true (leb a c) a (active_after c r (level_size_lem a c (suc r))) t) (leb-true a c t))
    (λ (f : leb a c ≡ false). rw (cond-false (leb a c) a (active_after c r (level_size_lem a c (suc r))) f)
    (after_small c p r (level_size_lem a c (suc r)) (λ e. last r e (leb-false a c f))))
    (true-or-false (leb a c))
  where
    last : (r : ℕ) → r ≡ 0 → c < a → level_size_lem a c (suc r) ≤ c
    last zero e l = omega (arith, size-last a c p l)
    last (suc r) e l = absurd (omega arith)

pub reductions-few : (n c f : ℕ) → n ≤ c * f ^ 3 → reductions n c f ≤ 3
unfolding reductions
reductions-few n c f h = least-le (λ k. leb n (c * f ^ k)) 4 3 (le-leb _ _ h)

pub reductions-reach : (n c f : ℕ) → reductions n c f ≤ 3 → n ≤ c * f ^ reductions n c f
unfolding reductions
reductions-reach n c f h = leb-true _ _ (least-holds (λ k. leb n (c * f ^ k)) 4 (omega arith))

pub ends : (n c f : ℕ) → 1 ≤ c → n ≤ c * f ^ 3 → Ends n c f
ends n c f p h =
    let s = reductions-few n c f h in
    record {
      few = s;
      small = after_small c p (reductions n c f) n (λ e. reach (reductions n c f) e (reductions-reach n c f s));
    }
  where
    reach : (k : ℕ) → k ≡ 0 → n ≤ c * f ^ k → n ≤ c
    reach k e l = omega (arith, simp (e, pow-zero, mul-one) at l)
