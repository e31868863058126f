-- A test that each element of a list passes, and a list that ascends by a test. Assumes nothing.
-- Holds: all-pass-nil, all-pass-cons, all-pass-each, each-all-pass, all-passed, all_pass, ascending-ascends, ascends-ascending
use mathlib.Core.Path.{◌≡◌, refl, ◌∙◌}
use Prim.Native.Nat.{ℕ, ◌<◌}
use mathlib.Core.Bool.{Bool, true, false, not, ◌&&◌, ◌||◌}
use mathlib.Core.List.{List, [], ◌∷◌, Memᴰ}
use lib.Dec.{ltb}
use borrow.Author.Tests.{ltb-true, lt-ltb, not-true, not-false}
use Rattle.lists.specs.Lists.{any_of}
use Rattle.lists.specs.Ascends.{All, Ascends}
use Rattle.lists.proofs.Tests.{and-of, and-fst, and-snd}
use Rattle.lists.proofs.All.{all-mem, all-of}
use Rattle.lists.proofs.Members.{none_any}
use Rattle.stored.specs.Sound.{all_of, ascending}

-- not either of two, the first of which is denied
neither : (a b : Bool) → not (not a || b) ≡ a && not b
neither true b = refl
neither false b = refl

module _ {A : Type 0} where
  -- ---- element by element
  pub all-pass-nil : (p : A → Bool) → all_of p [] ≡ true
  unfolding any_of
  all-pass-nil p = refl

  pub all-pass-cons : (p : A → Bool) (x : A) (xs : List A) → all_of p (x ∷ xs) ≡ p x && all_of p xs
  unfolding any_of
  all-pass-cons p x xs = neither (p x) (any_of (λ y. not (p y)) xs)

  -- ---- the test of the list, and of each member
  pub all-pass-each : (p : A → Bool) (l : List A) → all_of p l ≡ true → (x : A) → Memᴰ x l → p x ≡ true
  all-pass-each p l h x m = not-false (p x) (none_any (λ y. not (p y)) l (not-true (any_of (λ y. not (p y)) l) h) m)

  pub each-all-pass : (p : A → Bool) (l : List A) → ((x : A) → Memᴰ x l → p x ≡ true) → all_of p l ≡ true
  each-all-pass p [] h = all-pass-nil p
  each-all-pass p (x ∷ l) h =
      all-pass-cons p x l ∙ and-of (h x (Memᴰ.head refl)) (each-all-pass p l (λ y m. h y (Memᴰ.tail m)))

  -- the same by `All`
  pub all-passed : (p : A → Bool) (l : List A) → all_of p l ≡ true → All (λ x. p x ≡ true) l
  all-passed p l h = all-of (λ x. p x ≡ true) l (all-pass-each p l h)

  pub all_pass : (p : A → Bool) (l : List A) → All (λ x. p x ≡ true) l → all_of p l ≡ true
  all_pass p l h = each-all-pass p l (all-mem (λ x. p x ≡ true) l h)

-- ---- a list that ascends
pub ascending-ascends : (l : List ℕ) → ascending l ≡ true → Ascends l
unfolding ascending Ascends
ascending-ascends [] h = tt
ascending-ascends (x ∷ xs) h =
    let a = all_of (ltb x) xs in (
      all-of (λ y. x < y) xs (λ y m. ltb-true x y (all-pass-each (ltb x) xs (and-fst a (ascending xs) h) y m)),
      ascending-ascends xs (and-snd a (ascending xs) h),
    )

pub ascends-ascending : (l : List ℕ) → Ascends l → ascending l ≡ true
unfolding ascending Ascends
ascends-ascending [] h = refl
ascends-ascending (x ∷ xs) h =
    and-of (each-all-pass (ltb x) xs (λ y m. lt-ltb x y (all-mem (λ z. x < z) xs h.0 y m))) (ascends-ascending xs h.1)
