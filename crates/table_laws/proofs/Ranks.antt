-- The numbers below n that pass a test, and the rank of each among them; stretches of one width that are laid one after the other. Assumes
-- nothing.
-- Holds: below_split, rank-at, rank-low, keep-every, stretch-below, length-parts, get_d-parts
use mathlib.Core.Path.{◌≡◌, refl, sym, ap, ◌∙◌}
use mathlib.Core.Bool.{Bool, true}
use mathlib.Core.List.{List, [], ◌∷◌, ◌++◌, map, Memᴰ}
use Prim.Native.Nat.{ℕ, zero, suc, ◌+◌, ◌-◌, ◌*◌, ◌≤◌, ◌<◌}
use native.Mathlib.Omega.{arith}
use native.Mathlib.Nat.{not-suc-le-zero, mul-le-mul_right, suc-mul, zero-mul, zero-add}
use lib.ListN.{length, get_or, length-append, get_or-append}
use lib.Seq.{get_or_at, get_or-append-add}
use Rattle.lists.specs.Lists.{cons_if, keep, count, from, joined, part}
use Rattle.lists.proofs.Count.{count-append, count-cons, keep_append, length-keep}
use Rattle.lists.proofs.From.{from-append}
use Rattle.lists.proofs.Put.{length_part, get_d_part}

-- ---- the numbers below n, about one of them
pub below_split : (i n : ℕ) → i < n → from 0 n ≡ from 0 i ++ i ∷ from (suc i) (n - suc i)
unfolding from
below_split i n h =
    let e : n ≡ i + suc (n - suc i) = omega arith in
    ap (from 0) e ∙ from-append 0 i (suc (n - suc i)) ∙ ap (λ (k : ℕ). from 0 i ++ k ∷ from (suc k) (n - suc i)) (zero-add i)

-- ---- the rank of a number that passes a test: how many below it pass
module _ (p : ℕ → Bool) (i n : ℕ) (h : i < n) (e : p i ≡ true) where
  abbrev rest : List ℕ
  rest = from (suc i) (n - suc i)

  kept-split : keep p (from 0 n) ≡ keep p (from 0 i) ++ i ∷ keep p rest
  unfolding keep
  kept-split =
      ap (keep p) (below_split i n h) ∙ keep_append p (from 0 i) (i ∷ rest) ∙ ap (λ (b : Bool). keep p (from 0 i) ++ cons_if b i (keep p rest)) e

  -- it stands there among those that pass
  pub rank-at : get_or (keep p (from 0 n)) (count p (from 0 i)) 0 ≡ i
  rank-at =
      ap (λ (l : List ℕ). get_or l (count p (from 0 i)) 0) kept-split ∙ get_or_at (keep p (from 0 i)) i (keep p rest) 0 (count p (from 0 i)) (length-keep p (from 0 i))

  -- and a larger number has a larger rank
  pub rank-low : count p (from 0 i) < count p (from 0 n)
  rank-low =
      omega (arith, ap (count p) (below_split i n h), count-append p (from 0 i) (i ∷ rest), rw e at (count-cons p i rest))

-- ---- every element passes
pub keep-every : {A : Type 0} (p : A → Bool) (l : List A) → ((x : A) → Memᴰ x l → p x ≡ true) → keep p l ≡ l
unfolding keep
keep-every p [] h = refl
keep-every p (x ∷ l) h = rw (h x (Memᴰ.head refl), keep-every p l (λ y m. h y (Memᴰ.tail m)))

-- ---- stretches of d elements: one below another ends where that one starts, or before
pub stretch-below : (d i m : ℕ) → i < m → i * d + d ≤ m * d
stretch-below d i m h = omega (arith, mul-le-mul_right {m = suc i} {n = m} d h, suc-mul i d)

-- the stretches with these numbers, one after the other
module _ {A : Type 0} (l : List A) (d : ℕ) where
  abbrev stretch : ℕ → List A
  stretch i = part l (i * d) d

  abbrev Inside : List ℕ → Type 0
  Inside rows = (i : ℕ) → Memᴰ i rows → i * d + d ≤ length l

  pub length-parts : (rows : List ℕ) → Inside rows → length (joined (map (λ i. part l (i * d) d) rows)) ≡ length rows * d
  unfolding joined
  length-parts [] h = sym (zero-mul d)
  length-parts (i ∷ rows) h =
      length-append (stretch i) (joined (map stretch rows))
      ∙ omega (arith, length_part l (i * d) d (h i (Memᴰ.head refl)), length-parts rows (λ j m. h j (Memᴰ.tail m)), suc-mul (length rows) d)

  pub get_d-parts : (rows : List ℕ) → Inside rows → (k a : ℕ) (z : A) → k < length rows → a < d
      → get_or (joined (map (λ i. part l (i * d) d) rows)) (k * d + a) z ≡ get_or l (get_or rows k 0 * d + a) z
  unfolding joined
  get_d-parts [] h k a z low small = absurd (not-suc-le-zero low)
  get_d-parts (i ∷ rows) h zero a z low small =
      ap (λ (j : ℕ). get_or (stretch i ++ joined (map stretch rows)) j z) (omega (arith, zero-mul d))
      ∙ get_or-append (stretch i) (joined (map stretch rows)) z a (omega (arith, length_part l (i * d) d (h i (Memᴰ.head refl))))
      ∙ get_d_part l (i * d) d a z small
  get_d-parts (i ∷ rows) h (suc k) a z low small =
      ap (λ (j : ℕ). get_or (stretch i ++ joined (map stretch rows)) j z) (omega (arith, length_part l (i * d) d (h i (Memᴰ.head refl)), suc-mul k d))
      ∙ get_or-append-add (stretch i) (joined (map stretch rows)) (k * d + a) z
      ∙ get_d-parts rows (λ j m. h j (Memᴰ.tail m)) k a z (omega arith) small
