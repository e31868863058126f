-- The place of the best value, found from the front on. Assumes nothing.
-- Holds: Place, place-first, place-yes, place-no, place_end, nearest-place, farthest-place
use mathlib.Core.Path.{◌≡◌, refl, sym, ap, ◌∙◌}
use mathlib.Core.Bool.{Bool, true, false}
use mathlib.Core.List.{map}
use Prim.Native.Nat.{ℕ, zero, suc, ◌+◌, ◌-◌, ◌≤◌, ◌<◌}
use native.Mathlib.Omega.{arith}
use lib.Ieee.{Float, lt}
use Rattle.lists.specs.Lists.{best, from}
use Rattle.lists.proofs.Best.{best-map, best-from-yes, best-from-no}
use Rattle.definition.specs.Keys.{Key, keyed, nearest_row, farthest_row}

-- x is the best of the first i places, of n; before the first one, it is that place
pub record Place (better : ℕ → ℕ → Bool) (n x i : ℕ) : Type 0 where
  pub most : i - 1 ≤ n - 1
  pub is : x ≡ best better 0 (from 1 (i - 1))

one : (j : ℕ) → 1 + j ≡ suc j
one j = omega arith

less : (j : ℕ) → suc j - 1 ≡ j
less j = omega arith

next : (j : ℕ) → suc j + 1 - 1 ≡ j + 1
next j = omega arith

first-alone : (better : ℕ → ℕ → Bool) → best better 0 (from 1 0) ≡ 0
unfolding best from
first-alone better = refl

module _ {better : ℕ → ℕ → Bool} {n : ℕ} where
  pub place-first : Place better n 0 0
  unfolding best from
  place-first = record { most = omega arith; is = refl }

  -- the first place is kept, whatever is asked of it
  only : (x : ℕ) → Place better n x 0 → x ≡ 0
  unfolding best from
  only x p = p.is

  pub place-yes : (x i : ℕ) → Place better n x i → i < n → better i x ≡ true → Place better n i (i + 1)
  place-yes x zero p h y = record { most = omega arith; is = sym (first-alone better) }
  place-yes x (suc j) p h y =
      let here : x ≡ best better 0 (from 1 j) = p.is ∙ ap (λ (k : ℕ). best better 0 (from 1 k)) (less j) in
      let z : better (1 + j) (best better 0 (from 1 j)) ≡ true = rw (one j, ← here) y in
      record {
        most = omega arith;
        is = sym (one j) ∙ sym (ap (λ (k : ℕ). best better 0 (from 1 k)) (next j) ∙ best-from-yes better 0 1 j z);
      }

  pub place-no : (x i : ℕ) → Place better n x i → i < n → better i x ≡ false → Place better n x (i + 1)
  place-no x zero p h y = record { most = omega arith; is = only x p ∙ sym (first-alone better) }
  place-no x (suc j) p h y =
      let here : x ≡ best better 0 (from 1 j) = p.is ∙ ap (λ (k : ℕ). best better 0 (from 1 k)) (less j) in
      let z : better (1 + j) (best better 0 (from 1 j)) ≡ false = rw (one j, ← here) y in
      record {
        most = omega arith;
        is = here ∙ sym (ap (λ (k : ℕ). best better 0 (from 1 k)) (next j) ∙ best-from-no better 0 1 j z);
      }

  pub place_end : (x i : ℕ) → Place better n x i → n ≤ i → x ≡ best better 0 (from 1 (n - 1))
  place_end x i p h = p.is ∙ ap (λ (k : ℕ). best better 0 (from 1 k)) (omega (arith, p.most))

-- The definition's choice by keys is the one by places.
module _ (v : ℕ → Float) where
  key_of : ℕ → Key
  unfolding keyed
  key_of i = record { value = v i; row = i }

  by-keys : (better : Float → Float → Bool) (n : ℕ) → (best (λ q r. better q.value r.value) (key_of 0) (map key_of (from 1 n))).row ≡ best (λ i j. better (v i) (v j)) 0 (from 1 n)
  unfolding best key_of
  by-keys better n = ap (λ (k : Key). k.row) (best-map key_of (λ q r. better q.value r.value) 0 (from 1 n))

  last-but : (n : ℕ) → suc n - 1 ≡ n
  last-but n = omega arith

  pub nearest-place : (n : ℕ) → best (λ i j. lt (v i) (v j)) 0 (from 1 (n - 1)) ≡ nearest_row (keyed v (from 0 n))
  unfolding nearest_row keyed from best key_of
  nearest-place zero = refl
  nearest-place (suc n) = rw (last-but n) (sym (by-keys (λ x y. lt x y) n))

  pub farthest-place : (n : ℕ) → best (λ i j. lt (v j) (v i)) 0 (from 1 (n - 1)) ≡ farthest_row (keyed v (from 0 n))
  unfolding farthest_row keyed from best key_of
  farthest-place zero = refl
  farthest-place (suc n) = rw (last-but n) (sym (by-keys (λ x y. lt y x) n))
