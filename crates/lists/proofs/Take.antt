-- Laws of `take`, `drop`, `set` and `replicate`. Assumes nothing.
-- Holds: single, drop-take, set-right, set_front, set-second, take-replicate
use mathlib.Core.Path.{◌≡◌, refl, sym, ap, ◌∙◌}
use Prim.Native.Nat.{ℕ, zero, suc, ◌+◌, ◌-◌, ◌≤◌, ◌<◌}
use native.Mathlib.Nat.{suc-add, zero-add, sub-zero, suc-sub-suc, not-suc-le-zero}
use native.Mathlib.Omega.{arith}
use mathlib.Core.List.{List, [], ◌∷◌, ◌++◌}
use lib.ListN.{length, set, take, drop, replicate}
use lib.Seq.{take-nil, length-take-le, set-append_left, take-set-lt}

module _ {A : Type 0} where
  -- ---- a list of length 1 is one element
  pub single : (l : List A) → length l ≡ 1 → (x : A) × (l ≡ x ∷ [])
  single [] e = absurd (omega arith)
  single (x ∷ []) e = (x, refl)
  single (x ∷ y ∷ l) e = absurd (omega arith)

  -- ---- a list's first elements without some of them
  pub drop-take : (at n : ℕ) (l : List A) → drop at (take n l) ≡ take (n - at) (drop at l)
  drop-take zero n l = rw (sub-zero n)
  drop-take (suc at) zero l = let e : 0 - suc at ≡ 0 = omega arith in rw e
  drop-take (suc at) (suc n) [] = sym (take-nil (suc n - suc at))
  drop-take (suc at) (suc n) (x ∷ l) = rw (suc-sub-suc n at) (drop-take at n l)

  -- ---- a store in the second of two lists
  set_past : (xs ys : List A) (i : ℕ) (v : A) → set (xs ++ ys) (length xs + i) v ≡ xs ++ set ys i v
  set_past [] ys i v = rw zero-add
  set_past (x ∷ xs) ys i v = rw suc-add (ap (λ (r : List A). x ∷ r) (set_past xs ys i v))

  pub set-right : (xs ys : List A) (n i : ℕ) (v : A) → length xs ≡ n → set (xs ++ ys) (n + i) v ≡ xs ++ set ys i v
  set-right xs ys n i v e = rw (← e) (set_past xs ys i v)

  -- ---- the same where each list is the front of one
  pub set_front : (xs ys : List A) (n i : ℕ) (v : A) → n ≤ length xs → i < n → take n (set xs i v) ++ ys ≡ set (take n xs ++ ys) i v
  set_front xs ys n i v h k =
      ap (λ (r : List A). r ++ ys) (take-set-lt n xs i v k)
      ∙ sym (set-append_left (take n xs) ys i v (rw (length-take-le n xs h) k))

  pub set-second : (xs ys : List A) (n i : ℕ) (v : A) → n ≤ length xs → i < n → take n xs ++ take n (set ys i v) ≡ set (take n xs ++ take n ys) (n + i) v
  set-second xs ys n i v h k =
      ap (λ (r : List A). take n xs ++ r) (take-set-lt n ys i v k)
      ∙ sym (set-right (take n xs) (take n ys) n i v (length-take-le n xs h))

  -- ---- a list of one value
  pub take-replicate : (n m : ℕ) (z : A) → n ≤ m → take n (replicate m z) ≡ replicate n z
  take-replicate zero m z h = refl
  take-replicate (suc n) zero z h = absurd (not-suc-le-zero h)
  take-replicate (suc n) (suc m) z h = ap (λ (r : List A). z ∷ r) (take-replicate n m z (omega arith))
