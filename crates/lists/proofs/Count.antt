-- How many elements pass a test, and which are kept by it. Assumes nothing.
-- Holds: one-le, one-mono, count-nil, count-cons, count-append, count-halves, count-snoc, count-more, count_yes, count_no,
--   count_set, count-len, count-not, count_none, count-all, count_same, keep_same, count-le, count-lt, count-or, count-some,
--   keep_append, keep-in, keep_out, keep-yes, keep-no, keep-none, length-keep, length_both, count-sides, count-keep, count_map,
--   keep-map, count_next, one-or-le, count-or-le
use mathlib.Core.Path.{◌≡◌, refl, sym, ap, ap₂, ◌∙◌}
use Prim.Native.Nat.{ℕ, zero, suc, ◌+◌, ◌≤◌, ◌<◌, zero-le}
use native.Mathlib.Nat.{not-suc-le-zero, le_of_suc-le-suc, zero-add, add-zero, add_assoc, le_refl}
use native.Mathlib.Numerals.{add-one}
use native.Mathlib.Omega.{arith}
use native.Mathlib.Decide.{dec_lt, ℕ_discrete}
use mathlib.Core.Bool.{Bool, true, false, not, ◌&&◌, ◌||◌}
use mathlib.Core.List.{List, [], ◌∷◌, ◌++◌, map, append-nil, Memᴰ}
use lib.ListN.{length, get_or, set, take, drop, take-append-drop}
use lib.Seq.{take-suc}
use lib.Dec.{ltb, eqb}
use borrow.Author.Tests.{lt-ltb, le-ltb, eq-eqb, ne_eqb}
use Rattle.lists.specs.Lists.{one_if, cons_if, keep, count}

-- ---- one test
pub one-le : (b : Bool) → one_if b ≤ 1
one-le true = omega arith
one-le false = zero-le

pub one-mono : (a b : Bool) → (a ≡ true → b ≡ true) → one_if a ≤ one_if b
one-mono true b h = rw (h refl) (le_refl 1)
one-mono false b h = zero-le

one-both : (b : Bool) → one_if b + one_if (not b) ≡ 1
one-both true = refl
one-both false = refl

module _ {A : Type 0} where
  -- ---- the counts of two lists
  pub count-nil : (p : A → Bool) → count p [] ≡ 0
  unfolding count
  count-nil p = refl

  pub count-cons : (p : A → Bool) (x : A) (xs : List A) → count p (x ∷ xs) ≡ one_if (p x) + count p xs
  unfolding count
  count-cons p x xs = refl

  pub count-append : (p : A → Bool) (xs ys : List A) → count p (xs ++ ys) ≡ count p xs + count p ys
  unfolding count
  count-append p [] ys = sym (zero-add (count p ys))
  count-append p (x ∷ xs) ys = rw (count-append p xs ys) (sym (add_assoc (one_if (p x)) (count p xs) (count p ys)))

  pub count-halves : (p : A → Bool) (n : ℕ) (l : List A) → count p (take n l) + count p (drop n l) ≡ count p l
  count-halves p n l = sym (count-append p (take n l) (drop n l)) ∙ ap (count p) (take-append-drop n l)

  -- ---- one more element: the turn of a loop that counts
  pub count-snoc : (p : A → Bool) (xs : List A) (x : A) → count p (xs ++ x ∷ []) ≡ count p xs + one_if (p x)
  count-snoc p xs x = omega (arith, count-append p xs (x ∷ []), count-cons p x [], count-nil p)

  pub count-more : (p : A → Bool) (l : List A) (k : ℕ) (d : A) → k < length l → count p (take (suc k) l) ≡ count p (take k l) + one_if (p (get_or l k d))
  count-more p l k d h = ap (count p) (take-suc l k d h) ∙ count-snoc p (take k l) (get_or l k d)

  -- the same with the code's t + 1
  pub count_yes : (p : A → Bool) (l : List A) (t : ℕ) (d : A) → t < length l → p (get_or l t d) ≡ true → count p (take (t + 1) l) ≡ count p (take t l) + 1
  count_yes p l t d h b = rw (add-one t, count-more p l t d h, b)

  pub count_no : (p : A → Bool) (l : List A) (t : ℕ) (d : A) → t < length l → p (get_or l t d) ≡ false → count p (take (t + 1) l) ≡ count p (take t l)
  count_no p l t d h b = rw (add-one t, count-more p l t d h, b, add-zero)

  -- ---- one element changed
  pub count_set : (p : A → Bool) (l : List A) (k : ℕ) (v d : A) → k < length l → count p (set l k v) + one_if (p (get_or l k d)) ≡ count p l + one_if (p v)
  unfolding count
  count_set p [] k v d h = absurd (not-suc-le-zero h)
  count_set p (x ∷ l) zero v d h = omega arith
  count_set p (x ∷ l) (suc k) v d h = omega (arith, count_set p l k v d (le_of_suc-le-suc h))

  -- ---- a count and the length
  pub count-len : (p : A → Bool) (l : List A) → count p l ≤ length l
  unfolding count
  count-len p [] = zero-le
  count-len p (x ∷ l) = omega (arith, one-le (p x), count-len p l)

  pub count-not : (p : A → Bool) (l : List A) → count p l + count (λ x. not (p x)) l ≡ length l
  unfolding count
  count-not p [] = refl
  count-not p (x ∷ l) = omega (arith, one-both (p x), count-not p l)

  pub count_none : (p : A → Bool) (l : List A) → ((x : A) → Memᴰ x l → p x ≡ false) → count p l ≡ 0
  unfolding count
  count_none p [] h = refl
  count_none p (x ∷ l) h = rw (h x (Memᴰ.head refl), count_none p l (λ y m. h y (Memᴰ.tail m)))

  pub count-all : (p : A → Bool) (l : List A) → ((x : A) → Memᴰ x l → p x ≡ true) → count p l ≡ length l
  unfolding count
  count-all p [] h = refl
  count-all p (x ∷ l) h = rw (h x (Memᴰ.head refl), count-all p l (λ y m. h y (Memᴰ.tail m))) (omega arith)

  -- ---- two tests that agree on the elements, or of which one gives the other
  pub count_same : (p q : A → Bool) (l : List A) → ((x : A) → Memᴰ x l → p x ≡ q x) → count p l ≡ count q l
  unfolding count
  count_same p q [] h = refl
  count_same p q (x ∷ l) h = rw (h x (Memᴰ.head refl), count_same p q l (λ y m. h y (Memᴰ.tail m)))

  pub keep_same : (p q : A → Bool) (l : List A) → ((x : A) → Memᴰ x l → p x ≡ q x) → keep p l ≡ keep q l
  unfolding keep
  keep_same p q [] h = refl
  keep_same p q (x ∷ l) h = rw (h x (Memᴰ.head refl), keep_same p q l (λ y m. h y (Memᴰ.tail m)))

  pub count-le : (p q : A → Bool) (l : List A) → ((x : A) → Memᴰ x l → p x ≡ true → q x ≡ true) → count p l ≤ count q l
  unfolding count
  count-le p q [] h = zero-le
  count-le p q (x ∷ l) h = omega (arith, one-mono (p x) (q x) (h x (Memᴰ.head refl)), count-le p q l (λ y m. h y (Memᴰ.tail m)))

  pub count-lt : (p q : A → Bool) (l : List A) → ((x : A) → Memᴰ x l → p x ≡ true → q x ≡ true)
      → (x : A) → Memᴰ x l → p x ≡ false → q x ≡ true → count p l < count q l
  unfolding count
  count-lt p q [] h x x6 u v = elim x6 [ ]
  count-lt p q (y ∷ l) h x (Memᴰ.head e) u v =
      let a : one_if (p y) ≡ 0 = rw (← e, u) in
      let b : one_if (q y) ≡ 1 = rw (← e, v) in
      omega (arith, count-le p q l (λ z m. h z (Memᴰ.tail m)))
  count-lt p q (y ∷ l) h x (Memᴰ.tail m) u v =
      omega (arith, one-mono (p y) (q y) (h y (Memᴰ.head refl)), count-lt p q l (λ z n. h z (Memᴰ.tail n)) x m u v)

  -- two tests that never pass together
  pub count-or : (p q : A → Bool) (l : List A) → ((x : A) → Memᴰ x l → p x ≡ true → q x ≡ false) → count (λ x. p x || q x) l ≡ count p l + count q l
  unfolding count
  count-or p q [] h = omega arith
  count-or p q (x ∷ l) h = go (p x) refl (count-or p q l (λ y m. h y (Memᴰ.tail m)))
    where
      go : (b : Bool) → p x ≡ b → count (λ x. p x || q x) l ≡ count p l + count q l
          → one_if (b || q x) + count (λ x. p x || q x) l ≡ one_if b + count p l + (one_if (q x) + count q l)
      go true e k = rw (h x (Memᴰ.head refl) e) (omega arith)
      go false e k = omega arith

  -- ---- an element that passes is counted
  pub count-some : (p : A → Bool) (l : List A) (x : A) → Memᴰ x l → p x ≡ true → 0 < count p l
  unfolding count
  count-some p [] x x4 h = elim x4 [ ]
  count-some p (y ∷ l) x (Memᴰ.head e) h = let a : one_if (p y) ≡ 1 = rw (← e, h) in omega arith
  count-some p (y ∷ l) x (Memᴰ.tail m) h = omega (arith, count-some p l x m h)

  -- ---- a count that is not 0, and one that is the length, by index
  -- ---- what is kept of two lists
  cons_if-append : (b : Bool) (x : A) (xs ys : List A) → cons_if b x (xs ++ ys) ≡ cons_if b x xs ++ ys
  cons_if-append true x xs ys = refl
  cons_if-append false x xs ys = refl

  pub keep_append : (p : A → Bool) (xs ys : List A) → keep p (xs ++ ys) ≡ keep p xs ++ keep p ys
  unfolding keep
  keep_append p [] ys = refl
  keep_append p (x ∷ xs) ys = rw (keep_append p xs ys) (cons_if-append (p x) x (keep p xs) (keep p ys))

  -- one more element: the turn of a loop that keeps some of what it reads
  pub keep-in : (p : A → Bool) (xs : List A) (x : A) → p x ≡ true → keep p (xs ++ x ∷ []) ≡ keep p xs ++ x ∷ []
  unfolding keep
  keep-in p xs x e = keep_append p xs (x ∷ []) ∙ rw e

  pub keep_out : (p : A → Bool) (xs : List A) (x : A) → p x ≡ false → keep p (xs ++ x ∷ []) ≡ keep p xs
  unfolding keep
  keep_out p xs x e = keep_append p xs (x ∷ []) ∙ rw (e, append-nil)

  -- the same with the code's t + 1
  pub keep-yes : (p : A → Bool) (l : List A) (t : ℕ) (d : A) → t < length l → p (get_or l t d) ≡ true → keep p (take (t + 1) l) ≡ keep p (take t l) ++ get_or l t d ∷ []
  keep-yes p l t d h e = rw (add-one t, take-suc l t d h) (keep-in p (take t l) (get_or l t d) e)

  pub keep-no : (p : A → Bool) (l : List A) (t : ℕ) (d : A) → t < length l → p (get_or l t d) ≡ false → keep p (take (t + 1) l) ≡ keep p (take t l)
  keep-no p l t d h e = rw (add-one t, take-suc l t d h) (keep_out p (take t l) (get_or l t d) e)

  -- ---- all of a list is kept, or none
  pub keep-none : (p : A → Bool) (l : List A) → ((x : A) → Memᴰ x l → p x ≡ false) → keep p l ≡ []
  unfolding keep
  keep-none p [] h = refl
  keep-none p (x ∷ l) h = rw (h x (Memᴰ.head refl)) (keep-none p l (λ y m. h y (Memᴰ.tail m)))

  -- ---- how many are kept
  length-cons_if : (b : Bool) (x : A) (xs : List A) → length (cons_if b x xs) ≡ one_if b + length xs
  length-cons_if true x xs = omega arith
  length-cons_if false x xs = omega arith

  pub length-keep : (p : A → Bool) (l : List A) → length (keep p l) ≡ count p l
  unfolding keep count
  length-keep p [] = refl
  length-keep p (x ∷ l) = length-cons_if (p x) x (keep p l) ∙ rw (length-keep p l)

  -- both sides of a stable partition are as many as the whole
  pub length_both : (p : A → Bool) (l : List A) → length (keep p l) + length (keep (λ x. not (p x)) l) ≡ length l
  length_both p l = ap₂ (λ (a b : ℕ). a + b) (length-keep p l) (length-keep (λ x. not (p x)) l) ∙ count-not p l

  count-cons_if : (q : A → Bool) (b : Bool) (x : A) (xs ys : List A) → count q (cons_if b x xs) + count q (cons_if (not b) x ys) ≡ one_if (q x) + (count q xs + count q ys)
  unfolding count
  count-cons_if q true x xs ys = omega arith
  count-cons_if q false x xs ys = omega arith

  -- and hold each element as often
  pub count-sides : (q p : A → Bool) (l : List A) → count q (keep p l) + count q (keep (λ x. not (p x)) l) ≡ count q l
  unfolding keep count
  count-sides q p [] = refl
  count-sides q p (x ∷ l) =
      count-cons_if q (p x) x (keep p l) (keep (λ y. not (p y)) l) ∙ rw (count-sides q p l)

  -- ---- a test on what another test kept
  pub count-keep : (q p : A → Bool) (l : List A) → count q (keep p l) ≡ count (λ x. p x && q x) l
  unfolding keep count
  count-keep q p [] = refl
  count-keep q p (x ∷ l) = go (p x) (count-keep q p l)
    where
      go : (b : Bool) → count q (keep p l) ≡ count (λ x. p x && q x) l → count q (cons_if b x (keep p l)) ≡ one_if (b && q x) + count (λ x. p x && q x) l
      go true e = omega arith
      go false e = omega arith

-- ---- the image of a list
module _ {A B : Type 0} (f : A → B) where
  pub count_map : (p : B → Bool) (xs : List A) → count p (map f xs) ≡ count (λ x. p (f x)) xs
  unfolding count
  count_map p [] = refl
  count_map p (x ∷ xs) = ap (λ (n : ℕ). one_if (p (f x)) + n) (count_map p xs)

  map-cons_if : (b : Bool) (x : A) (xs : List A) → cons_if b (f x) (map f xs) ≡ map f (cons_if b x xs)
  map-cons_if true x xs = refl
  map-cons_if false x xs = refl

  pub keep-map : (p : B → Bool) (xs : List A) → keep p (map f xs) ≡ map f (keep (λ x. p (f x)) xs)
  unfolding keep
  keep-map p [] = refl
  keep-map p (x ∷ xs) = rw (keep-map p xs) (map-cons_if (p (f x)) x (keep (λ y. p (f y)) xs))

-- ---- of the elements with a number below m + 1, some have one below m, and the others have m
one-next : (a m : ℕ) → one_if (ltb a (suc m)) ≡ one_if (ltb a m) + one_if (eqb a m)
one-next a m = go (dec_lt a m) (ℕ_discrete a m)
  where
    go : Dec (a < m) → Dec (a ≡ m) → one_if (ltb a (suc m)) ≡ one_if (ltb a m) + one_if (eqb a m)
    go (yes h) (yes e) = absurd (omega arith)
    go (yes h) (no e) = rw (lt-ltb a (suc m) (omega arith), lt-ltb a m h, ne_eqb a m e)
    go (no h) (yes e) = rw (lt-ltb a (suc m) (omega arith), le-ltb a m (omega arith), eq-eqb a m e)
    go (no h) (no e) = rw (le-ltb a (suc m) (omega arith), le-ltb a m (omega arith), ne_eqb a m e)

pub count_next : {A : Type 0} (f : A → ℕ) (m : ℕ) (l : List A) → count (λ x. ltb (f x) (suc m)) l ≡ count (λ x. ltb (f x) m) l + count (λ x. eqb (f x) m) l
unfolding count
count_next f m [] = refl
count_next f m (x ∷ l) = omega (arith, one-next (f x) m, count_next f m l)

-- ---- counts under one test or another
pub one-or-le : (a b : Bool) → one_if (a || b) ≤ one_if a + one_if b
one-or-le true b = omega arith
one-or-le false b = omega arith

pub count-or-le : {A : Type 0} (p q : A → Bool) (l : List A) → count (λ x. p x || q x) l ≤ count p l + count q l
unfolding count
count-or-le p q [] = omega arith
count-or-le p q (x ∷ l) = omega (arith, one-or-le (p x) (q x), count-or-le p q l)
