-- The leftover seats by a cut of the remainders, which needs no sorting: what the laws of the seats, and the code of the quotas, say
-- them by. Definitions only.
use Rattle.std.specs.Prelude.{ℕ, ◌+◌, ◌≤◌, cond, ltb, eqb}
use Rattle.lists.specs.Lists.{one_if, count, from}

-- how many of n remainders r 0, r 1, .. are above t, and how many equal t
abbrev pub above : ℕ → (ℕ → ℕ) → ℕ → ℕ
above n r t = count (λ j. ltb t (r j)) (from 0 n)

abbrev pub ties : ℕ → (ℕ → ℕ) → ℕ → ℕ
ties n r t = count (λ j. eqb (r j) t) (from 0 n)

-- a cut t for `left` seats: each remainder above it gets one, and the first ones equal to it get the others
pub record CutBy (n : ℕ) (r : ℕ → ℕ) (left t : ℕ) : Type 0 where
  pub low : above n r t ≤ left
  pub high : left ≤ above n r t + ties n r t

-- the seat of a remainder by a cut, where `left` seats remain for those equal to it
unfoldable pub extra_by : ℕ → ℕ → ℕ → ℕ
extra_by remainder cut left = cond (ltb cut remainder) 1 (cond (eqb remainder cut) (one_if (ltb 0 left)) 0)
