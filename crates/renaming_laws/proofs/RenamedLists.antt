-- Tests, counts and choices over the image of a list, where the image's elements are judged as the list's own. Assumes nothing.
-- Holds: keep-image, count-image, any-image, best-same, zip-image
use mathlib.Core.Path.{◌≡◌, refl, ap, ap₂, ◌∙◌}
use mathlib.Core.Bool.{Bool, true, false, cond, ◌||◌}
use mathlib.Core.List.{List, [], ◌∷◌, map, zip_with, Memᴰ}
use Prim.Native.Nat.{ℕ, suc, ◌<◌}
use native.Mathlib.Omega.{arith}
use lib.ListN.{length, get_or}
use Rattle.lists.specs.Lists.{keep, count, any_of, best}
use Rattle.lists.specs.Ascends.{All}
use Rattle.lists.proofs.Count.{count_map, count_same, keep-map, keep_same}

module _ {A B : Type 0} (f : A → B) where
  -- ---- tests
  module _ (p : A → Bool) (q : B → Bool) where
    pub keep-image : (xs : List A) → ((x : A) → Memᴰ x xs → q (f x) ≡ p x) → keep q (map f xs) ≡ map f (keep p xs)
    keep-image xs h = keep-map f q xs ∙ ap (map f) (keep_same (λ x. q (f x)) p xs h)

    pub count-image : (xs : List A) → ((x : A) → Memᴰ x xs → q (f x) ≡ p x) → count q (map f xs) ≡ count p xs
    count-image xs h = count_map f q xs ∙ count_same (λ x. q (f x)) p xs h

    pub any-image : (xs : List A) → ((x : A) → Memᴰ x xs → q (f x) ≡ p x) → any_of q (map f xs) ≡ any_of p xs
    unfolding any_of
    any-image [] h = refl
    any-image (x ∷ xs) h = ap₂ (λ (b c : Bool). b || c) (h x (Memᴰ.head refl)) (any-image xs (λ y m. h y (Memᴰ.tail m)))

-- ---- the best of elements with a property, on which two ways to compare agree
pub best-same : {A : Type 0} (P : A → Type 0) (better better' : A → A → Bool) → ((x y : A) → P x → P y → better' x y ≡ better x y)
    → (x : A) (xs : List A) → P x → All P xs → best better' x xs ≡ best better x xs
unfolding best All
best-same P better better' same x [] p h = refl
best-same P better better' same x (y ∷ xs) p h =
    ap (λ (b : Bool). best better' (cond b y x) xs) (same y x h.0 p) ∙ best-same P better better' same (cond (better y x) y x) xs (go (better y x)) h.1
  where
    go : (b : Bool) → P (cond b y x)
    go true = h.0
    go false = p

-- ---- two lists taken together, element by element
module _ {A B C A' B' C' : Type 0} (F : A → B → C) (G : A' → B' → C') (g : A → A') (k : B → B') (h : C → C') (a : A) (b : B) where
  pub zip-image : (xs : List A) (ys : List B)
      → ((i : ℕ) → i < length xs → i < length ys → G (g (get_or xs i a)) (k (get_or ys i b)) ≡ h (F (get_or xs i a) (get_or ys i b)))
      → zip_with G (map g xs) (map k ys) ≡ map h (zip_with F xs ys)
  unfolding zip_with
  zip-image [] ys same = refl
  zip-image (x ∷ xs) [] same = refl
  zip-image (x ∷ xs) (y ∷ ys) same = ap₂ (λ (z : C') (zs : List C'). z ∷ zs) (same 0 (omega arith) (omega arith)) (zip-image xs ys (λ i l m. same (suc i) (omega arith) (omega arith)))
