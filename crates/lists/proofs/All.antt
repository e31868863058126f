-- What holds of each element of a list: of two lists together, by index, by membership, of what is kept. Assumes nothing.
-- Holds: all_append, all_left, all_right, all_keep, all_take, all_drop, all-at, all-by-index, all-mem, all-of, mem-by-index,
--   all-joined, joined-all, all-imp, all_map, map-all, all-zip, all_replicate
use mathlib.Core.Path.{refl, sym, subst}
use Prim.Native.Nat.{ℕ, zero, suc, ◌<◌}
use native.Mathlib.Nat.{not-suc-le-zero, le_of_suc-le-suc}
use native.Mathlib.Omega.{arith}
use mathlib.Core.Bool.{Bool, true, false}
use mathlib.Core.List.{List, [], ◌∷◌, ◌++◌, map, Memᴰ, zip_with}
use lib.ListN.{length, get_or, take, drop, replicate}
use Rattle.lists.specs.Lists.{cons_if, keep, joined}
use Rattle.lists.specs.Ascends.{All}

module _ {A : Type 0} (P : A → Type 0) where
  -- ---- two lists together
  pub all_append : (xs ys : List A) → All P xs → All P ys → All P (xs ++ ys)
  unfolding All
  all_append [] ys h g = g
  all_append (x ∷ xs) ys h g = (h.0, all_append xs ys h.1 g)

  pub all_left : (xs ys : List A) → All P (xs ++ ys) → All P xs
  unfolding All
  all_left [] ys h = tt
  all_left (x ∷ xs) ys h = (h.0, all_left xs ys h.1)

  pub all_right : (xs ys : List A) → All P (xs ++ ys) → All P ys
  unfolding All
  all_right [] ys h = h
  all_right (x ∷ xs) ys h = all_right xs ys h.1

  -- ---- what is kept, and a stretch
  pub all_keep : (p : A → Bool) (l : List A) → All P l → All P (keep p l)
  unfolding All keep
  all_keep p [] h = tt
  all_keep p (x ∷ l) h = go (p x) (all_keep p l h.1)
    where
      go : (b : Bool) → All P (keep p l) → All P (cons_if b x (keep p l))
      go true k = (h.0, k)
      go false k = k

  pub all_take : (n : ℕ) (l : List A) → All P l → All P (take n l)
  unfolding All
  all_take zero l h = tt
  all_take (suc n) [] h = tt
  all_take (suc n) (x ∷ l) h = (h.0, all_take n l h.1)

  pub all_drop : (n : ℕ) (l : List A) → All P l → All P (drop n l)
  unfolding All
  all_drop zero l h = h
  all_drop (suc n) [] h = tt
  all_drop (suc n) (x ∷ l) h = all_drop n l h.1

  -- ---- by index
  pub all-at : (l : List A) (i : ℕ) (d : A) → All P l → i < length l → P (get_or l i d)
  unfolding All
  all-at [] i d h g = absurd (not-suc-le-zero g)
  all-at (x ∷ l) zero d h g = h.0
  all-at (x ∷ l) (suc i) d h g = all-at l i d h.1 (le_of_suc-le-suc g)

  pub all-by-index : (l : List A) (d : A) → ((i : ℕ) → i < length l → P (get_or l i d)) → All P l
  unfolding All
  all-by-index [] d f = tt
  all-by-index (x ∷ l) d f = (f 0 (omega arith), all-by-index l d (λ i h. f (suc i) (omega arith)))

  -- ---- by membership
  pub all-mem : (l : List A) → All P l → (x : A) → Memᴰ x l → P x
  unfolding All
  all-mem [] h x x4 = elim x4 [ ]
  all-mem (y ∷ l) h x (Memᴰ.head e) = subst P (sym e) h.0
  all-mem (y ∷ l) h x (Memᴰ.tail m) = all-mem l h.1 x m

  pub all-of : (l : List A) → ((x : A) → Memᴰ x l → P x) → All P l
  unfolding All
  all-of [] f = tt
  all-of (x ∷ l) f = (f x (Memᴰ.head refl), all-of l (λ y m. f y (Memᴰ.tail m)))

  -- what holds at each index holds of each member
  pub mem-by-index : (l : List A) (d : A) → ((i : ℕ) → i < length l → P (get_or l i d)) → (x : A) → Memᴰ x l → P x
  mem-by-index l d f = all-mem l (all-by-index l d f)

  -- ---- lists of lists
  pub all-joined : (ls : List (List A)) → All (λ l. All P l) ls → All P (joined ls)
  unfolding All joined
  all-joined [] h = tt
  all-joined (l ∷ ls) h = all_append l (joined ls) h.0 (all-joined ls h.1)

  pub joined-all : (ls : List (List A)) → All P (joined ls) → All (λ l. All P l) ls
  unfolding All joined
  joined-all [] h = tt
  joined-all (l ∷ ls) h = (all_left l (joined ls) h, joined-all ls (all_right l (joined ls) h))

-- ---- what holds gives something else
pub all-imp : {A : Type 0} (P Q : A → Type 0) (l : List A) → ((x : A) → P x → Q x) → All P l → All Q l
unfolding All
all-imp P Q [] f h = tt
all-imp P Q (x ∷ l) f h = (f x h.0, all-imp P Q l f h.1)

-- ---- the image of a list
pub all_map : {A B : Type 0} (P : B → Type 0) (f : A → B) (l : List A) → All (λ x. P (f x)) l → All P (map f l)
unfolding All
all_map P f [] h = tt
all_map P f (x ∷ l) h = (h.0, all_map P f l h.1)

pub map-all : {A B : Type 0} (P : B → Type 0) (f : A → B) (l : List A) → All P (map f l) → All (λ x. P (f x)) l
unfolding All
map-all P f [] h = tt
map-all P f (x ∷ l) h = (h.0, map-all P f l h.1)

-- ---- two lists taken together
pub all-zip : {A B C : Type 0} (Q : A → Type 0) (P : C → Type 0) (f : A → B → C) → ((x : A) (y : B) → Q x → P (f x y))
    → (xs : List A) (ys : List B) → All Q xs → All P (zip_with f xs ys)
unfolding All zip_with
all-zip Q P f each [] ys h = tt
all-zip Q P f each (x ∷ xs) [] h = tt
all-zip Q P f each (x ∷ xs) (y ∷ ys) h = (each x y h.0, all-zip Q P f each xs ys h.1)

-- ---- each element of a list of one value
pub all_replicate : {A : Type 0} (P : A → Type 0) (n : ℕ) (x : A) → P x → All P (replicate n x)
unfolding All
all_replicate P zero x h = tt
all_replicate P (suc n) x h = (h, all_replicate P n x h)
