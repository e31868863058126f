-- The best of some elements: it is one of them, none of them is better, and one more element. Assumes nothing.
-- Holds: best-append, best-snoc, best-more, best-yes, best-no, best-in, best-stays, best-is, best-map, best-from-suc,
--   best-from-yes, best-from-no, best-below-first, best-below-yes, best-below-no
use mathlib.Core.Path.{◌≡◌, refl, ap, ◌∙◌, sym}
use mathlib.Core.Bool.{Bool, true, false, cond}
use mathlib.Core.List.{List, [], ◌∷◌, ◌++◌, map}
use Prim.Native.Nat.{ℕ, ◌+◌, ◌<◌, ◌-◌, ◌≤◌}
use native.Mathlib.Numerals.{add-one}
use native.Mathlib.Omega.{arith}
use lib.ListN.{length, get_or, take}
use lib.Seq.{take-suc}
use Rattle.lists.specs.Lists.{best, from}
use Rattle.lists.specs.Ascends.{All}
use Rattle.lists.proofs.Tests.{clash, cond-true, cond-false}
use Rattle.lists.proofs.From.{from_suc}

module _ {A : Type 0} (better : A → A → Bool) where
  -- ---- of two lists, and one more element: the turn of a loop that finds the best
  pub best-append : (x : A) (ys zs : List A) → best better x (ys ++ zs) ≡ best better (best better x ys) zs
  unfolding best
  best-append x [] zs = refl
  best-append x (y ∷ ys) zs = best-append (cond (better y x) y x) ys zs

  pub best-snoc : (x : A) (ys : List A) (y : A) → best better x (ys ++ y ∷ []) ≡ cond (better y (best better x ys)) y (best better x ys)
  unfolding best
  best-snoc x ys y = best-append x ys (y ∷ [])

  pub best-more : (x : A) (l : List A) (t : ℕ) (d : A) → t < length l → best better x (take (t + 1) l) ≡ cond (better (get_or l t d) (best better x (take t l))) (get_or l t d) (best better x (take t l))
  best-more x l t d h = ap (λ (k : ℕ). best better x (take k l)) (add-one t) ∙ ap (best better x) (take-suc l t d h) ∙ best-snoc x (take t l) (get_or l t d)

  pub best-yes : (x : A) (l : List A) (t : ℕ) (d : A) → t < length l → better (get_or l t d) (best better x (take t l)) ≡ true → best better x (take (t + 1) l) ≡ get_or l t d
  best-yes x l t d h e = best-more x l t d h ∙ cond-true _ (get_or l t d) (best better x (take t l)) e

  pub best-no : (x : A) (l : List A) (t : ℕ) (d : A) → t < length l → better (get_or l t d) (best better x (take t l)) ≡ false → best better x (take (t + 1) l) ≡ best better x (take t l)
  best-no x l t d h e = best-more x l t d h ∙ cond-false _ (get_or l t d) (best better x (take t l)) e

  -- ---- it is one of them
  pub best-in : (P : A → Type 0) (x : A) (ys : List A) → P x → All P ys → P (best better x ys)
  unfolding best All
  best-in P x [] h k = h
  best-in P x (y ∷ ys) h k = best-in P (cond (better y x) y x) ys (go (better y x)) k.1
    where
      go : (b : Bool) → P (cond b y x)
      go true = k.0
      go false = h

  -- ---- an element that is better than those before it, and that none behind it is better than, is the best
  pub best-stays : (x : A) (ys : List A) → All (λ z. better z x ≡ false) ys → best better x ys ≡ x
  unfolding best All
  best-stays x [] h = refl
  best-stays x (y ∷ ys) h = ap (λ (z : A). best better z ys) (cond-false (better y x) y x h.0) ∙ best-stays x ys h.1

  pub best-is : (x : A) (ys : List A) (y : A) (zs : List A) → better y x ≡ true → All (λ z. better y z ≡ true) ys → All (λ z. better z y ≡ false) zs → best better x (ys ++ y ∷ zs) ≡ y
  unfolding best
  best-is x ys y zs h f g =
      best-append x ys (y ∷ zs)
      ∙ ap (λ (z : A). best better z zs) (cond-true (better y (best better x ys)) y (best better x ys) (best-in (λ z. better y z ≡ true) x ys h f))
      ∙ best-stays y zs g

  -- ---- none of them is better, where `better` is a strict weak order
  module _ (asym : (a b : A) → better a b ≡ true → better b a ≡ false)
      (weak : (a b c : A) → better a b ≡ false → better b c ≡ false → better a c ≡ false) where
    irr : (a : A) → better a a ≡ false
    irr a = go (better a a) refl
      where
        go : (t : Bool) → better a a ≡ t → t ≡ false
        go true e = clash e (asym a a e)
        go false e = refl

-- ---- by values
pub best-map : {A B : Type 0} (f : A → B) (better : B → B → Bool) (x : A) (ys : List A) → best better (f x) (map f ys) ≡ f (best (λ a b. better (f a) (f b)) x ys)
unfolding best
best-map f better x [] = refl
best-map f better x (y ∷ ys) =
    ap (λ (z : _). best better z (map f ys)) (go (better (f y) (f x))) ∙ best-map f better (cond (better (f y) (f x)) y x) ys
  where
    go : (b : Bool) → cond b (f y) (f x) ≡ f (cond b y x)
    go true = refl
    go false = refl

-- ---- the best of x and the n numbers from a on
module _ (better : ℕ → ℕ → Bool) where
  pub best-from-suc : (x a n : ℕ) → best better x (from a (n + 1)) ≡ cond (better (a + n) (best better x (from a n))) (a + n) (best better x (from a n))
  best-from-suc x a n = ap (best better x) (from_suc a n) ∙ best-snoc better x (from a n) (a + n)

  pub best-from-yes : (x a n : ℕ) → better (a + n) (best better x (from a n)) ≡ true → best better x (from a (n + 1)) ≡ a + n
  best-from-yes x a n e = best-from-suc x a n ∙ cond-true _ (a + n) (best better x (from a n)) e

  pub best-from-no : (x a n : ℕ) → better (a + n) (best better x (from a n)) ≡ false → best better x (from a (n + 1)) ≡ best better x (from a n)
  best-from-no x a n e = best-from-suc x a n ∙ cond-false _ (a + n) (best better x (from a n)) e

-- ---- the best of the numbers below a, and below a + 1
module _ (better : ℕ → ℕ → Bool) where
  pub best-below-first : 0 ≡ best better 0 (from 1 (1 - 1))
  unfolding best from
  best-below-first = refl

  module _ (a x : ℕ) (h : 1 ≤ a) (e : x ≡ best better 0 (from 1 (a - 1))) where
    at_a : 1 + (a - 1) ≡ a
    at_a = omega arith

    more : a + 1 - 1 ≡ a - 1 + 1
    more = omega arith

    pub best-below-yes : better a x ≡ true → a ≡ best better 0 (from 1 (a + 1 - 1))
    best-below-yes t = let z : better (1 + (a - 1)) (best better 0 (from 1 (a - 1))) ≡ true = rw (at_a, ← e) t in rw more (sym (best-from-yes better 0 1 (a - 1) z ∙ at_a))

    pub best-below-no : better a x ≡ false → x ≡ best better 0 (from 1 (a + 1 - 1))
    best-below-no t = let z : better (1 + (a - 1)) (best better 0 (from 1 (a - 1))) ≡ false = rw (at_a, ← e) t in rw more (e ∙ sym (best-from-no better 0 1 (a - 1) z))
