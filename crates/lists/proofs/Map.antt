-- The image of a list, element by element. Assumes nothing.
-- Holds: map_snoc, take-map, get_d-map-in, map-set, map-joined, map_same, zip-map, zip_length, zip_first, zip-at
use mathlib.Core.Path.{◌≡◌, refl, ap, ◌∙◌}
use Prim.Native.Nat.{ℕ, zero, suc, ◌<◌}
use native.Mathlib.Nat.{not-suc-le-zero, le_of_suc-le-suc}
use native.Mathlib.Omega.{arith}
use mathlib.Core.List.{List, [], ◌∷◌, ◌++◌, map, map-append, Memᴰ, zip_with}
use lib.ListN.{length, get_or, set, take}
use Rattle.lists.specs.Lists.{joined}

module _ {A B : Type 0} (f : A → B) where
  -- ---- one more element, and stretches
  pub map_snoc : (xs : List A) (x : A) → map f (xs ++ x ∷ []) ≡ map f xs ++ f x ∷ []
  map_snoc xs x = map-append f xs (x ∷ [])

  pub take-map : (n : ℕ) (l : List A) → take n (map f l) ≡ map f (take n l)
  take-map zero l = refl
  take-map (suc n) [] = refl
  take-map (suc n) (x ∷ l) = ap (λ (t : List B). f x ∷ t) (take-map n l)

  -- ---- by index
  pub get_d-map-in : (l : List A) (i : ℕ) (d : A) (e : B) → i < length l → get_or (map f l) i e ≡ f (get_or l i d)
  get_d-map-in [] i d e h = absurd (not-suc-le-zero h)
  get_d-map-in (x ∷ l) zero d e h = refl
  get_d-map-in (x ∷ l) (suc i) d e h = get_d-map-in l i d e (le_of_suc-le-suc h)

  pub map-set : (l : List A) (i : ℕ) (x : A) → map f (set l i x) ≡ set (map f l) i (f x)
  map-set [] i x = refl
  map-set (y ∷ l) zero x = refl
  map-set (y ∷ l) (suc i) x = ap (λ (t : List B). f y ∷ t) (map-set l i x)

  -- ---- some element of the image passes a test
  -- ---- lists of lists
  pub map-joined : (ls : List (List A)) → map f (joined ls) ≡ joined (map (map f) ls)
  unfolding joined
  map-joined [] = refl
  map-joined (l ∷ ls) = map-append f l (joined ls) ∙ ap (λ (t : List B). map f l ++ t) (map-joined ls)

-- ---- two functions that agree on the elements
pub map_same : {A B : Type 0} (f g : A → B) (l : List A) → ((x : A) → Memᴰ x l → f x ≡ g x) → map f l ≡ map g l
map_same f g [] h = refl
map_same f g (x ∷ l) h = rw (h x (Memᴰ.head refl), map_same f g l (λ y m. h y (Memᴰ.tail m)))

-- ---- two lists taken together, of which the first is an image
module _ {A B C E : Type 0} (f : B → C → E) (g : A → B) where
  pub zip-map : (xs : List A) (ys : List C) → zip_with (λ x y. f (g x) y) xs ys ≡ zip_with f (map g xs) ys
  unfolding zip_with
  zip-map [] ys = refl
  zip-map (x ∷ xs) [] = refl
  zip-map (x ∷ xs) (y ∷ ys) = rw (zip-map xs ys)

-- ---- two lists of one length, taken together
module _ {A B C : Type 0} (f : A → B → C) where
  pub zip_length : (xs : List A) (ys : List B) → length ys ≡ length xs → length (zip_with f xs ys) ≡ length xs
  unfolding zip_with
  zip_length [] ys e = refl
  zip_length (x ∷ xs) [] e = absurd (omega arith)
  zip_length (x ∷ xs) (y ∷ ys) e = ap suc (zip_length xs ys (omega arith))

  -- what looks at the first of two alone
  pub zip_first : {E : Type 0} (g : C → E) (h : A → E) → ((x : A) (y : B) → g (f x y) ≡ h x)
      → (xs : List A) (ys : List B) → length ys ≡ length xs → map g (zip_with f xs ys) ≡ map h xs
  unfolding zip_with
  zip_first g h same [] ys e = refl
  zip_first g h same (x ∷ xs) [] e = absurd (omega arith)
  zip_first g h same (x ∷ xs) (y ∷ ys) e = rw (same x y, zip_first g h same xs ys (omega arith))

  pub zip-at : (xs : List A) (ys : List B) → length ys ≡ length xs → (i : ℕ) (x : A) (y : B) (z : C) → i < length xs
      → get_or (zip_with f xs ys) i z ≡ f (get_or xs i x) (get_or ys i y)
  unfolding zip_with
  zip-at [] ys e i x y z l = absurd (omega arith)
  zip-at (p ∷ xs) [] e i x y z l = absurd (omega arith)
  zip-at (p ∷ xs) (q ∷ ys) e zero x y z l = refl
  zip-at (p ∷ xs) (q ∷ ys) e (suc i) x y z l = zip-at xs ys (omega arith) i x y z (omega arith)
