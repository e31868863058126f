-- The least number that passes a test, below a bound. Assumes nothing.
-- Holds: least_from-here, least_from-next, least_from-is, least_from-high, least_from-before, least_from-le, least_from-above,
--   least_from-holds, least-is, least-high, least-before, least-le, least_above, least-holds
use mathlib.Core.Path.{◌≡◌, sym, ap, ◌∙◌}
use mathlib.Core.Logic.{⊎_elim}
use mathlib.Core.Bool.{Bool, true, false}
use Prim.Native.Nat.{ℕ, zero, suc, ◌+◌, ◌≤◌, ◌<◌, zero-le}
use native.Mathlib.Nat.{eq-or-lt_of_le}
use native.Mathlib.Omega.{arith}
use Rattle.lists.specs.Lists.{least_from, least}
use Rattle.lists.proofs.Tests.{clash, true-or-false, cond-true, cond-false, le-or-lt}

module _ (p : ℕ → Bool) where
  -- ---- one step
  pub least_from-here : (k d : ℕ) → p k ≡ true → least_from p k (suc d) ≡ k
  unfolding least_from
  least_from-here k d t = cond-true (p k) k (least_from p (suc k) d) t

  pub least_from-next : (k d : ℕ) → p k ≡ false → least_from p k (suc d) ≡ least_from p (suc k) d
  unfolding least_from
  least_from-next k d f = cond-false (p k) k (least_from p (suc k) d) f

  -- ---- it is the number that passes, or the bound, while none before it passes
  pub least_from-is : (k d m : ℕ) → k ≤ m → m ≤ k + d → ((j : ℕ) → k ≤ j → j < m → p j ≡ false) → (m < k + d → p m ≡ true) → least_from p k d ≡ m
  unfolding least_from
  least_from-is k zero m lo hi below at = omega arith
  least_from-is k (suc d) m lo hi below at =
      ⊎_elim
      (λ (e : k ≡ m). least_from-here k d (ap p e ∙ at (omega arith)) ∙ e)
      (λ (h : k < m). least_from-next k d (below k (omega arith) h)
      ∙ least_from-is (suc k) d m h (omega arith) (λ j a b. below j (omega arith) b) (λ a. at (omega arith)))
      (eq-or-lt_of_le lo)

  -- ---- it is between the first number and the bound
  pub least_from-high : (k d : ℕ) → least_from p k d ≤ k + d
  unfolding least_from
  least_from-high k zero = omega arith
  least_from-high k (suc d) =
      ⊎_elim
      (λ (t : p k ≡ true). omega (arith, least_from-here k d t))
      (λ (f : p k ≡ false). omega (arith, least_from-next k d f, least_from-high (suc k) d))
      (true-or-false (p k))

  -- ---- none below it passes, and it is at most a number that passes
  pub least_from-before : (k d j : ℕ) → k ≤ j → j < least_from p k d → p j ≡ false
  unfolding least_from
  least_from-before k zero j lo h = absurd (omega arith)
  least_from-before k (suc d) j lo h =
      ⊎_elim
      (λ (t : p k ≡ true). absurd (omega (arith, least_from-here k d t)))
      (λ (f : p k ≡ false). ⊎_elim (λ (e : k ≡ j). ap p (sym e) ∙ f)
      (λ (l : k < j). least_from-before (suc k) d j l (omega (arith, least_from-next k d f))) (eq-or-lt_of_le lo))
      (true-or-false (p k))

  pub least_from-le : (k d m : ℕ) → k ≤ m → p m ≡ true → least_from p k d ≤ m
  unfolding least_from
  least_from-le k zero m lo at = lo
  least_from-le k (suc d) m lo at =
      ⊎_elim
      (λ (t : p k ≡ true). omega (arith, least_from-here k d t))
      (λ (f : p k ≡ false). ⊎_elim (λ (e : k ≡ m). clash at (ap p (sym e) ∙ f))
      (λ (h : k < m). omega (arith, least_from-next k d f, least_from-le (suc k) d m h at)) (eq-or-lt_of_le lo))
      (true-or-false (p k))

  -- it is not below m if no number below m passes
  pub least_from-above : (k d m : ℕ) → m ≤ k + d → ((j : ℕ) → k ≤ j → j < m → p j ≡ false) → m ≤ least_from p k d
  unfolding least_from
  least_from-above k zero m hi below = omega arith
  least_from-above k (suc d) m hi below =
      ⊎_elim
      (λ (t : p k ≡ true). ⊎_elim (λ (h : m ≤ k). omega (arith, least_from-here k d t)) (λ (h : k < m). clash t (below k (omega arith) h)) (le-or-lt m k))
      (λ (f : p k ≡ false). omega (arith, least_from-next k d f, least_from-above (suc k) d m (omega arith) (λ j a b. below j (omega arith) b)))
      (true-or-false (p k))

  -- ---- it passes, if it is not the bound
  pub least_from-holds : (k d : ℕ) → least_from p k d < k + d → p (least_from p k d) ≡ true
  unfolding least_from
  least_from-holds k zero = λ h. absurd (omega arith)
  least_from-holds k (suc d) =
      ⊎_elim
      (λ (t : p k ≡ true). rw (least_from-here k d t) (λ h. t))
      (λ (f : p k ≡ false). rw (least_from-next k d f) (λ h. least_from-holds (suc k) d (omega arith)))
      (true-or-false (p k))

  -- ---- from 0 on, below b
  pub least-is : (b m : ℕ) → m ≤ b → ((j : ℕ) → j < m → p j ≡ false) → (m < b → p m ≡ true) → least p b ≡ m
  least-is b m h below at = least_from-is 0 b m zero-le (omega arith) (λ j a l. below j l) (λ l. at (omega arith))

  pub least-high : (b : ℕ) → least p b ≤ b
  least-high b = omega (arith, least_from-high 0 b)

  pub least-before : (b j : ℕ) → j < least p b → p j ≡ false
  least-before b j h = least_from-before 0 b j zero-le h

  pub least-le : (b m : ℕ) → p m ≡ true → least p b ≤ m
  least-le b m h = least_from-le 0 b m zero-le h

  pub least_above : (b m : ℕ) → m ≤ b → ((j : ℕ) → j < m → p j ≡ false) → m ≤ least p b
  least_above b m h below = least_from-above 0 b m (omega arith) (λ j a l. below j l)

  pub least-holds : (b : ℕ) → least p b < b → p (least p b) ≡ true
  least-holds b h = least_from-holds 0 b (omega arith)
