-- The best value of some rows, found from the front on. Assumes nothing.
-- Holds: later, later-below, later-end, later-row, best_in, bound-yes, bound-no, bound-first, bound-end, least-is, greatest-is
use mathlib.Core.Path.{◌≡◌, refl, sym, ap, ◌∙◌}
use mathlib.Core.Bool.{Bool, true, false, cond}
use mathlib.Core.List.{List, [], ◌∷◌, map}
use Prim.Native.Nat.{ℕ, ◌+◌, ◌-◌, ◌≤◌, ◌<◌}
use native.Mathlib.Nat.{not-suc-le-zero}
use native.Mathlib.Omega.{arith}
use lib.ListN.{length, get_or, take, drop, length-map, length-drop}
use lib.Seq.{take_all, length-take-le, get_or-take, get_or-drop}
use lib.Ieee.{Float, nan, lt}
use Rattle.lists.specs.Lists.{best}
use Rattle.lists.proofs.Map.{get_d-map-in}
use Rattle.lists.proofs.Best.{best-yes, best-no}
use Rattle.definition.specs.Points.{least_of, greatest_of}
use Rattle.extents.specs.Bests.{best_of}

-- The rows behind the first, as they are lent.
module _ (rows : List ℕ) (k : ℕ) where
  abbrev pub later : List ℕ
  later = take (length rows - 1) (drop 1 rows)

  length-later : length later ≡ length rows - 1
  length-later = length-take-le (length rows - 1) (drop 1 rows) (omega (arith, length-drop 1 rows))

  pub later-below : k < length later → k + 1 < length rows
  later-below h = omega (arith, length-later)

  pub later-end : length later ≤ k → length rows ≤ k + 1
  later-end h = omega (arith, length-later)

  pub later-row : k < length later → get_or later k 0 ≡ get_or rows (k + 1) 0
  later-row h =
      let e : 1 + k ≡ k + 1 = omega arith in
      get_or-take (length rows - 1) (drop 1 rows) k 0 (omega (arith, length-later)) ∙ get_or-drop 1 rows k 0 ∙ ap (λ (i : ℕ). get_or rows i 0) e

either : {A : Type 0} (b : Bool) (x : A) → cond b x x ≡ x
either true x = refl
either false x = refl

-- The best value of the rows, by the values f. The first row's value is compared with itself too, which changes nothing.
module _ (better : Float → Float → Bool) (f : ℕ → Float) (rows : List ℕ) where
  -- the best of the first t rows
  abbrev pub best_in : ℕ → Float
  best_in t = best better (f (get_or rows 0 0)) (take t (map f rows))

  here : (t : ℕ) → t < length rows → get_or (map f rows) t nan ≡ f (get_or rows t 0)
  here t h = get_d-map-in f rows t 0 nan h

  inside : (t : ℕ) → t < length rows → t < length (map f rows)
  inside t h = rw (length-map rows f) h

  pub bound-yes : (t : ℕ) (m : Float) → t < length rows → m ≡ best_in t → better (f (get_or rows t 0)) m ≡ true → f (get_or rows t 0) ≡ best_in (t + 1)
  bound-yes t m h e y =
      let z : better (get_or (map f rows) t nan) (best_in t) ≡ true = rw (here t h, ← e) y in
      sym (best-yes better (f (get_or rows 0 0)) (map f rows) t nan (inside t h) z ∙ here t h)

  pub bound-no : (t : ℕ) (m : Float) → t < length rows → m ≡ best_in t → better (f (get_or rows t 0)) m ≡ false → m ≡ best_in (t + 1)
  bound-no t m h e y =
      let z : better (get_or (map f rows) t nan) (best_in t) ≡ false = rw (here t h, ← e) y in
      e ∙ sym (best-no better (f (get_or rows 0 0)) (map f rows) t nan (inside t h) z)

pub bound-first : (better : Float → Float → Bool) (f : ℕ → Float) (rows : List ℕ) → 0 < length rows → f (get_or rows 0 0) ≡ best_in better f rows 1
unfolding best
bound-first better f [] h = absurd (not-suc-le-zero h)
bound-first better f (r ∷ rows) h = sym (either (better (f r) (f r)) (f r))

best-whole : (better : Float → Float → Bool) (f : ℕ → Float) (rows : List ℕ) (t : ℕ) → length rows ≤ t → best_in better f rows t ≡ best better (f (get_or rows 0 0)) (map f rows)
best-whole better f rows t h = ap (best better (f (get_or rows 0 0))) (take_all t (map f rows) (rw (length-map rows f) h))

again : (better : Float → Float → Bool) (x : Float) (xs : List Float) → best better x (x ∷ xs) ≡ best better x xs
unfolding best
again better x xs = ap (λ (y : Float). best better y xs) (either (better x x) x)

-- a comparison's best of them all
pub bound-end : (better : Float → Float → Bool) (f : ℕ → Float) (rows : List ℕ) (t : ℕ) (m : Float) → 0 < length rows → length rows ≤ t
    → m ≡ best_in better f rows t → m ≡ best_of better (map f rows)
bound-end better f [] t m p h e = absurd (not-suc-le-zero p)
bound-end better f (r ∷ rows) t m p h e = e ∙ best-whole better f (r ∷ rows) t h ∙ again better (f r) (map f rows)

-- the two comparisons that the definition has
pub least-is : (xs : List Float) → best_of (λ v w. lt v w) xs ≡ least_of xs
unfolding least_of
least-is [] = refl
least-is (x ∷ xs) = refl

pub greatest-is : (xs : List Float) → best_of (λ v w. lt w v) xs ≡ greatest_of xs
unfolding greatest_of
greatest-is [] = refl
greatest-is (x ∷ xs) = refl
