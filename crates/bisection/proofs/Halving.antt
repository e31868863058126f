-- What a bisection keeps: no number below `low` passes, and `high` does where it is below the bound. Assumes nothing.
-- Holds: Kept, kept-first, kept-high, kept-low, kept-least
use Rattle.std.proofs.Common.{◌≡◌, sym, ℕ, ◌+◌, ◌≤◌, ◌<◌, Bool, true, false}
use mathlib.Core.Logic.{⊎_elim}
use native.Mathlib.Omega.{arith}
use Rattle.lists.specs.Lists.{least}
use Rattle.lists.proofs.Tests.{clash, true-or-false}
use Rattle.lists.proofs.Least.{least-is}
use Rattle.bisection.specs.Tests.{Stays}

pub record Kept (t : ℕ → Bool) (n low high : ℕ) : Type 0 where
  pub below : (j : ℕ) → j < low → t j ≡ false
  pub at : high < n → t high ≡ true

module _ (t : ℕ → Bool) (n : ℕ) where
  pub kept-first : Kept t n 0 n
  kept-first = record { below = λ j h. absurd (omega arith); at = λ h. absurd (omega arith) }

  pub kept-high : (low high m : ℕ) → Kept t n low high → t m ≡ true → Kept t n low m
  kept-high low high m k e = record { below = k.below; at = λ _. e }

  pub kept-low : (low high m : ℕ) → m < n → Stays n t → Kept t n low high → t m ≡ false → Kept t n (m + 1) high
  kept-low low high m h s k e =
      record {
        below = λ j l. ⊎_elim (λ (p : t j ≡ true). clash (s j m (omega arith) h p) e) (λ (p : t j ≡ false). p) (true-or-false (t j));
        at = k.at;
      }

  pub kept-least : (low : ℕ) → low ≤ n → Kept t n low low → low ≡ least t n
  kept-least low h k = sym (least-is t n low h k.below k.at)
