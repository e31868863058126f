-- A loop that writes a record for each of m numbers in turn: what is left before each turn. Assumes nothing.
-- Holds: first-turn, turn, no-turn, point-inside
use mathlib.Core.Path.{◌≡◌, ap, ◌∙◌}
use Prim.Native.Nat.{ℕ, suc, ◌+◌, ◌-◌, ◌*◌, ◌≤◌, ◌<◌}
use native.Mathlib.Nat.{suc-mul, mul-le-mul_right}
use native.Mathlib.Omega.{arith}
use mathlib.Core.List.{[], ◌∷◌, map}
use Rattle.lists.specs.Lists.{from}

-- ---- what is left, before the turn number i of m
module _ {A : Type 0} (f : ℕ → A) where
  pub first-turn : (k m : ℕ) → map f (from k m) ≡ map f (from k (m - 0))
  first-turn k m = let e : m ≡ m - 0 = omega arith in ap (λ (n : ℕ). map f (from k n)) e

  -- the turn of the number k; l is the next one
  pub turn : (k l i m : ℕ) → l ≡ k + 1 → i < m → map f (from k (m - i)) ≡ f k ∷ map f (from l (m - (i + 1)))
  unfolding from
  turn k l i m e h =
      let left : m - i ≡ suc (m - (i + 1)) = omega arith in
      let next : suc k ≡ l = omega arith in
      ap (λ (n : ℕ). map f (from k n)) left ∙ ap (λ (n : ℕ). f k ∷ map f (from n (m - (i + 1)))) next

  -- after the last one
  pub no-turn : (k i m : ℕ) → m ≤ i → map f (from k (m - i)) ≡ []
  unfolding from
  no-turn k i m h = let none : m - i ≡ 0 = omega arith in ap (λ (n : ℕ). map f (from k n)) none

-- ---- points: the coordinates of row i are inside
pub point-inside : (d n i size : ℕ) → i < n → n * d ≤ size → i * d + d ≤ size
point-inside d n i size h g = let s : suc i ≤ n = omega arith in omega (arith, mul-le-mul_right d s, suc-mul i d)
