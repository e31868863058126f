-- The n numbers from a on: their members, how many they are, one more at the end; lists written by index. Assumes nothing.
-- Holds: from-mem, mem-from, all_from, length_from, get_d-from, from-append, from-snoc, from_suc, below-snoc, below_suc,
--   count-below-nil, count-below-snoc, count-below-suc, count-below-yes, count-below-no, count-below-same, map-from-nil,
--   map-below-snoc, map-below-suc, length-map-from, get_d-map-from, get_d-map-below, map-from-shift, front-below-suc, noted_more,
--   list-below, map-below-same, list_at, map_at, map-from-at, zip-from-at, fill_more, numbered_more, front_read
use mathlib.Core.Path.{◌≡◌, refl, sym, ap, ap₂, ◌∙◌}
use mathlib.Core.Logic.{⊎_elim}
use Prim.Native.Nat.{ℕ, zero, suc, ◌+◌, ◌≤◌, ◌<◌}
use native.Mathlib.Omega.{arith}
use native.Mathlib.Nat.{add-zero, zero-add, not-suc-le-zero, eq-or-lt_of_le}
use native.Mathlib.Numerals.{add-one}
use mathlib.Core.Bool.{Bool, true, false}
use mathlib.Core.List.Memᴰ
use mathlib.Core.List.{List, [], ◌∷◌, ◌++◌, map, zip_with, append_assoc, Memᴰ}
use lib.ListN.{length, get_or, set, drop, length-map, take}
use lib.Seq.{ext_get_or, get_or-set_same, get_or-set_other, drop-cons, set_at, take-suc-set, get_or-append-add, get_or-drop}
use lib.Dec.{eqb}
use borrow.Author.Tests.{eqb-true, eqb-false}
use Rattle.lists.specs.Lists.{one_if, count, from, put}
use Rattle.lists.specs.Ascends.{All}
use Rattle.lists.proofs.All.{all-of}
use Rattle.lists.proofs.Count.{count-snoc, count_same, count-nil}
use Rattle.lists.proofs.Map.{map_snoc, map_same, get_d-map-in}
use Rattle.lists.proofs.Put.{put-snoc}

-- ---- members
pub from-mem : (a n : ℕ) {x : ℕ} → Memᴰ x (from a n) → (a ≤ x) × (x < a + n)
unfolding from
from-mem a zero m = absurd (Memᴰ.not-nil m)
from-mem a (suc n) m = ⊎_elim (λ e. (omega arith, omega arith)) (λ o. let r = from-mem (suc a) n o in (omega (arith, r), omega (arith, r))) (Memᴰ.cases_cons m)

pub mem-from : (a n : ℕ) {x : ℕ} → a ≤ x → x < a + n → Memᴰ x (from a n)
unfolding from
mem-from a zero h g = absurd (omega arith)
mem-from a (suc n) {x} h g = go (eqb x a) refl (λ k. mem-from (suc a) n k (omega arith))
  where
    go : (b : Bool) → eqb x a ≡ b → (suc a ≤ x → Memᴰ x (from (suc a) n)) → Memᴰ x (a ∷ from (suc a) n)
    go true e f = Memᴰ.head (eqb-true x a e)
    go false e f = Memᴰ.tail (f (above (eqb-false x a e)))
      where
        above : (x ≡ a → ⊥) → suc a ≤ x
        above q = omega arith

-- what holds of each number from a on and below a + n
pub all_from : (P : ℕ → Type 0) (a n : ℕ) → ((i : ℕ) → a ≤ i → i < a + n → P i) → All P (from a n)
all_from P a n f = all-of P (from a n) (λ i m. let r = from-mem a n m in f i r.0 r.1)

-- ---- how many they are, and which stands where
pub length_from : (a n : ℕ) → length (from a n) ≡ n
unfolding from
length_from a zero = refl
length_from a (suc n) = ap suc (length_from (suc a) n)

pub get_d-from : (a n i d : ℕ) → i < n → get_or (from a n) i d ≡ a + i
unfolding from
get_d-from a zero i d h = absurd (not-suc-le-zero h)
get_d-from a (suc n) zero d h = sym (add-zero a)
get_d-from a (suc n) (suc i) d h = omega (arith, get_d-from (suc a) n i d (omega arith))

-- ---- one more at the end
pub from-append : (a n m : ℕ) → from a (n + m) ≡ from a n ++ from (a + n) m
unfolding from
from-append a zero m = rw (zero-add, add-zero)
from-append a (suc n) m =
    let e : suc n + m ≡ suc (n + m) = omega arith in
    let g : suc a + n ≡ a + suc n = omega arith in
    ap (from a) e ∙ ap (λ (l : List ℕ). a ∷ l) (from-append (suc a) n m ∙ ap (λ (k : ℕ). from (suc a) n ++ from k m) g)

pub from-snoc : (a n : ℕ) → from a (suc n) ≡ from a n ++ (a + n) ∷ []
unfolding from
from-snoc a n = ap (from a) (sym (add-one n)) ∙ from-append a n 1

-- the same with the code's n + 1
pub from_suc : (a n : ℕ) → from a (n + 1) ≡ from a n ++ (a + n) ∷ []
from_suc a n = ap (from a) (add-one n) ∙ from-snoc a n

-- and from 0 on
pub below-snoc : (n : ℕ) → from 0 (suc n) ≡ from 0 n ++ n ∷ []
below-snoc n = from-snoc 0 n ∙ rw (zero-add n)

pub below_suc : (n : ℕ) → from 0 (n + 1) ≡ from 0 n ++ n ∷ []
below_suc n = ap (from 0) (add-one n) ∙ below-snoc n

-- ---- how many of the numbers below n pass a test, and which
pub count-below-nil : (p : ℕ → Bool) → count p (from 0 0) ≡ 0
unfolding from
count-below-nil p = count-nil p

pub count-below-snoc : (n : ℕ) (p : ℕ → Bool) → count p (from 0 (suc n)) ≡ count p (from 0 n) + one_if (p n)
count-below-snoc n p = ap (count p) (below-snoc n) ∙ count-snoc p (from 0 n) n

-- the same with the code's n + 1
pub count-below-suc : (p : ℕ → Bool) (n : ℕ) → count p (from 0 (n + 1)) ≡ count p (from 0 n) + one_if (p n)
count-below-suc p n = ap (count p) (below_suc n) ∙ count-snoc p (from 0 n) n

pub count-below-yes : (p : ℕ → Bool) (n : ℕ) → p n ≡ true → count p (from 0 (n + 1)) ≡ count p (from 0 n) + 1
count-below-yes p n e = count-below-suc p n ∙ rw e

pub count-below-no : (p : ℕ → Bool) (n : ℕ) → p n ≡ false → count p (from 0 (n + 1)) ≡ count p (from 0 n)
count-below-no p n e = count-below-suc p n ∙ rw (e, add-zero)

pub count-below-same : (p q : ℕ → Bool) (n : ℕ) → ((i : ℕ) → i < n → p i ≡ q i) → count p (from 0 n) ≡ count q (from 0 n)
count-below-same p q n h = count_same p q (from 0 n) (λ i m. h i (omega (arith, from-mem 0 n m)))

-- ---- the values f 0, f 1, .., f (n - 1)
module _ {B : Type 0} (f : ℕ → B) where
  pub map-from-nil : (a : ℕ) → map f (from a 0) ≡ []
  unfolding from
  map-from-nil a = refl

  pub map-below-snoc : (n : ℕ) → map f (from 0 (suc n)) ≡ map f (from 0 n) ++ f n ∷ []
  map-below-snoc n = ap (map f) (below-snoc n) ∙ map_snoc f (from 0 n) n

  pub map-below-suc : (n : ℕ) → map f (from 0 (n + 1)) ≡ map f (from 0 n) ++ f n ∷ []
  map-below-suc n = ap (λ (k : ℕ). map f (from 0 k)) (add-one n) ∙ map-below-snoc n

  pub length-map-from : (a n : ℕ) → length (map f (from a n)) ≡ n
  length-map-from a n = length-map (from a n) f ∙ length_from a n

  pub get_d-map-from : (a n i : ℕ) (d : B) → i < n → get_or (map f (from a n)) i d ≡ f (a + i)
  get_d-map-from a n i d h = get_d-map-in f (from a n) i 0 d (omega (arith, length_from a n)) ∙ ap f (get_d-from a n i 0 h)

  pub get_d-map-below : (n i : ℕ) (d : B) → i < n → get_or (map f (from 0 n)) i d ≡ f i
  get_d-map-below n i d h = get_d-map-from 0 n i d h ∙ ap f (zero-add i)

  -- the numbers from a + b on are those from b on, each a further
  pub map-from-shift : (a b n : ℕ) → map f (from (a + b) n) ≡ map (λ i. f (a + i)) (from b n)
  unfolding from
  map-from-shift a b zero = refl
  map-from-shift a b (suc n) =
      let e : suc (a + b) ≡ a + suc b = omega arith in
      ap (λ (l : List B). f (a + b) ∷ l) (ap (λ (k : ℕ). map f (from k n)) e ∙ map-from-shift a (suc b) n)

  pub front-below-suc : (n : ℕ) (d : List B) (v z : B) → n < length d → v ≡ f n → set (map f (from 0 n) ++ drop n d) n v ≡ map f (from 0 (n + 1)) ++ drop (n + 1) d
  front-below-suc n d v z h e =
      rw (map-below-suc n, e, add-one n)
      (ap (λ (t : List B). set (map f (from 0 n) ++ t) n (f n)) (drop-cons d n z h)
      ∙ set_at (map f (from 0 n)) (get_or d n z) (drop (suc n) d) (f n) n (length-map-from 0 n)
      ∙ simp append_assoc)

  -- one more entry of a list that agrees with f so far
  pub noted_more : (l : List B) (i : ℕ) (v d : B) → i < length l → ((j : ℕ) → j < i → get_or l j d ≡ f j) → v ≡ f i → (j : ℕ) → j < i + 1 → get_or (set l i v) j d ≡ f j
  noted_more l i v d h below at j k =
      ⊎_elim
      (λ (e : j ≡ i). rw e (get_or-set_same l i v d h ∙ at))
      (λ (s : j < i). get_or-set_other l i j v d (λ e. omega arith) ∙ below j s)
      (eq-or-lt_of_le (omega arith))

  -- a list with those entries
  pub list-below : (l : List B) (n : ℕ) (d : B) → length l ≡ n → ((i : ℕ) → i < n → get_or l i d ≡ f i) → l ≡ map f (from 0 n)
  list-below l n d e h = ext_get_or d l (map f (from 0 n)) (e ∙ sym (length-map-from 0 n)) (λ i g. h i (omega arith) ∙ sym (get_d-map-below n i d (omega arith)))

-- two functions that agree below n
pub map-below-same : {B : Type 0} (f g : ℕ → B) (n : ℕ) → ((i : ℕ) → i < n → f i ≡ g i) → map f (from 0 n) ≡ map g (from 0 n)
map-below-same f g n h = map_same f g (from 0 n) (λ i m. h i (omega (arith, from-mem 0 n m)))

-- ---- a list is what stands at its indices
module _ {A : Type 0} where
  pub list_at : (l : List A) (d : A) → l ≡ map (λ i. get_or l i d) (from 0 (length l))
  list_at l d = list-below (λ i. get_or l i d) l (length l) d refl (λ i h. refl)

  pub map_at : {B : Type 0} (f : A → B) (l : List A) (d : A) → map f l ≡ map (λ i. f (get_or l i d)) (from 0 (length l))
  map_at {B} f l d =
      ext_get_or (f d) (map f l) (map (λ i. f (get_or l i d)) (from 0 (length l)))
      (length-map l f ∙ sym (length-map-from (λ i. f (get_or l i d)) 0 (length l)))
      (λ i h.
      let k : i < length l = omega (arith, length-map l f) in
      get_d-map-in f l i d (f d) k ∙ sym (get_d-map-below (λ j. f (get_or l j d)) (length l) i (f d) k))

  -- the same for a list of values of the numbers from j on
  pub map-from-at : {B : Type 0} (f : ℕ → B) (g : A → B) (d : A) (l : List A) (j : ℕ) → ((i : ℕ) → i < length l → f (j + i) ≡ g (get_or l i d)) → map f (from j (length l)) ≡ map g l
  map-from-at f g d l j h =
      ap (λ (k : ℕ). map f (from k (length l))) (sym (add-zero j)) ∙ map-from-shift f j 0 (length l)
      ∙ map-below-same (λ i. f (j + i)) (λ i. g (get_or l i d)) (length l) h ∙ sym (map_at g l d)

-- ---- two lists of one length, taken together element by element
pub zip-from-at : {A B C : Type 0} (f : ℕ → C) (g : A → B → C) (x : A) (z : B) (xs : List A) (ws : List B) (j : ℕ) → length ws ≡ length xs
    → ((i : ℕ) → i < length xs → f (j + i) ≡ g (get_or xs i x) (get_or ws i z)) → map f (from j (length xs)) ≡ zip_with g xs ws
unfolding from zip_with
zip-from-at f g x z [] [] j e h = refl
zip-from-at f g x z [] (w ∷ ws) j e h = absurd (omega arith)
zip-from-at f g x z (y ∷ ys) [] j e h = absurd (omega arith)
zip-from-at f g x z (y ∷ ys) (w ∷ ws) j e h =
    ap₂ (λ (a : _) (l : List _). a ∷ l) (ap f (sym (add-zero j)) ∙ h 0 (omega arith))
    (zip-from-at f g x z ys ws (suc j) (omega arith) (λ i l. ap f (shift i) ∙ h (suc i) (omega arith)))
  where
    shift : (i : ℕ) → suc j + i ≡ j + suc i
    shift i = omega arith

-- ---- one more value, or number, at the front of a list
pub fill_more : {A : Type 0} (f : ℕ → A) (m : List A) (k : ℕ) (v : A) → k < length m → v ≡ f k → take k m ≡ map f (from 0 k) → take (k + 1) (set m k v) ≡ map f (from 0 (k + 1))
fill_more f m k v h e p = rw (add-one, take-suc-set m k v h, p, e, map-below-snoc f k)

pub numbered_more : (l m : List ℕ) (i : ℕ) → i < length l → m ≡ put l 0 (from 0 i) → set m i i ≡ put l 0 (from 0 (i + 1))
numbered_more l m i h e =
    ap (λ (x : List ℕ). set x i i) e
    ∙ put-snoc l 0 (from 0 i) i i (omega (arith, length_from 0 i)) h
    ∙ ap (put l 0) (sym (below_suc i))

-- ---- values written one after the other, from the front on
module _ {A : Type 0} where
  -- what is read next is still what stood there, and at the end all are written
  front-next : (f : ℕ → A) (n : ℕ) (old : List A) (z : A) → get_or (map f (from 0 n) ++ drop n old) n z ≡ get_or old n z
  front-next f n old z =
      let e : length (map f (from 0 n)) ≡ n = length-map-from f 0 n in
      let g : length (map f (from 0 n)) + 0 ≡ n = omega arith in
      ap (λ (k : ℕ). get_or (map f (from 0 n) ++ drop n old) k z) (sym g)
      ∙ get_or-append-add (map f (from 0 n)) (drop n old) 0 z ∙ get_or-drop n old 0 z ∙ ap (λ (k : ℕ). get_or old k z) (add-zero n)

  pub front_read : (f : ℕ → A) (n : ℕ) (old now : List A) (z : A) → now ≡ map f (from 0 n) ++ drop n old → get_or now n z ≡ get_or old n z
  front_read f n old now z e = ap (λ (l : List A). get_or l n z) e ∙ front-next f n old z
