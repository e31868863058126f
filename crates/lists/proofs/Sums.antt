-- Sums of lists of numbers, and of values over a list or over the numbers below n. Assumes nothing.
-- Holds: total-nil, total-cons, total-append, total-halves, total-snoc, total-more, total-step, total-front, total-longer,
--   total-below, total-at, sum_same, sum-le, sum-add, sum-mul, sum-const, sum-none, count-sum, sum-below-nil, sum-below-snoc,
--   sum-below-suc, sum-below-same, sum-below-le, sum-below-part, sum-below-at, total-index, sum-nil, sum-cons, sum-append,
--   sum-two, sum-swap, sum-most, count-any, count-below-le, count-below-two, count-below-two-le, count-below-le-two
use mathlib.Core.Path.{◌≡◌, refl, sym, ap, ◌∙◌}
use Prim.Native.Nat.{ℕ, zero, suc, ◌+◌, ◌-◌, ◌*◌, ◌≤◌, ◌<◌, zero-le}
use native.Mathlib.Nat.{zero-add, mul-zero, mul-add, suc-mul, not-suc-le-zero, le_of_suc-le-suc}
use native.Mathlib.Numerals.{add-one}
use native.Mathlib.Omega.{arith}
use mathlib.Core.Bool.{Bool, false}
use mathlib.Core.List.{List, [], ◌∷◌, ◌++◌, map, map-append, Memᴰ}
use lib.ListN.{length, get_or, take, drop, take-append-drop}
use Rattle.lists.specs.Lists.{one_if, count, total, from, any_of}
use Rattle.lists.proofs.From.{from-mem, list_at, from-append, map-below-suc, map-below-snoc}
use Rattle.lists.proofs.Count.{count-or-le, count_none}

-- ---- the sums of two lists
pub total-nil : total [] ≡ 0
unfolding total
total-nil = refl

pub total-cons : (x : ℕ) (xs : List ℕ) → total (x ∷ xs) ≡ x + total xs
unfolding total
total-cons x xs = refl

pub total-append : (xs ys : List ℕ) → total (xs ++ ys) ≡ total xs + total ys
unfolding total
total-append [] ys = sym (zero-add (total ys))
total-append (x ∷ xs) ys = omega (arith, total-append xs ys)

pub total-halves : (n : ℕ) (xs : List ℕ) → total (take n xs) + total (drop n xs) ≡ total xs
total-halves n xs = sym (total-append (take n xs) (drop n xs)) ∙ ap total (take-append-drop n xs)

-- ---- one more element: the turn of a loop that adds
pub total-snoc : (xs : List ℕ) (x : ℕ) → total (xs ++ x ∷ []) ≡ total xs + x
total-snoc xs x = omega (arith, total-append xs (x ∷ []), total-cons x [], total-nil)

pub total-more : (xs : List ℕ) (t : ℕ) → total (take (suc t) xs) ≡ total (take t xs) + get_or xs t 0
unfolding total
total-more [] zero = refl
total-more [] (suc t) = refl
total-more (x ∷ xs) zero = omega arith
total-more (x ∷ xs) (suc t) = omega (arith, total-more xs t)

-- the same with the code's t + 1
pub total-step : (xs : List ℕ) (t : ℕ) → total (take (t + 1) xs) ≡ total (take t xs) + get_or xs t 0
total-step xs t = ap (λ (k : ℕ). total (take k xs)) (add-one t) ∙ total-more xs t

-- ---- a front's sum, and one element
pub total-front : (n : ℕ) (xs : List ℕ) → total (take n xs) ≤ total xs
total-front n xs = omega (arith, total-halves n xs)

pub total-longer : (xs : List ℕ) (t n : ℕ) → t ≤ n → total (take t xs) ≤ total (take n xs)
unfolding total
total-longer xs zero n h = zero-le
total-longer xs (suc t) zero h = absurd (not-suc-le-zero h)
total-longer [] (suc t) (suc n) h = zero-le
total-longer (x ∷ xs) (suc t) (suc n) h = omega (arith, total-longer xs t n (le_of_suc-le-suc h))

pub total-below : (xs : List ℕ) (t n : ℕ) → t < n → total (take t xs) + get_or xs t 0 ≤ total (take n xs)
total-below xs t n h = omega (arith, total-more xs t, total-longer xs (suc t) n h)

pub total-at : (xs : List ℕ) (i : ℕ) → get_or xs i 0 ≤ total xs
total-at xs i = omega (arith, total-more xs i, total-front (suc i) xs)

-- ---- sums of values over a list
module _ {A : Type 0} where
  pub sum_same : (f g : A → ℕ) (l : List A) → ((x : A) → Memᴰ x l → f x ≡ g x) → total (map f l) ≡ total (map g l)
  unfolding total
  sum_same f g [] h = refl
  sum_same f g (x ∷ l) h = omega (arith, h x (Memᴰ.head refl), sum_same f g l (λ y m. h y (Memᴰ.tail m)))

  pub sum-le : (f g : A → ℕ) (l : List A) → ((x : A) → Memᴰ x l → f x ≤ g x) → total (map f l) ≤ total (map g l)
  unfolding total
  sum-le f g [] h = zero-le
  sum-le f g (x ∷ l) h = omega (arith, h x (Memᴰ.head refl), sum-le f g l (λ y m. h y (Memᴰ.tail m)))

  pub sum-add : (f g : A → ℕ) (l : List A) → total (map (λ x. f x + g x) l) ≡ total (map f l) + total (map g l)
  unfolding total
  sum-add f g [] = refl
  sum-add f g (x ∷ l) = omega (arith, sum-add f g l)

  pub sum-mul : (k : ℕ) (f : A → ℕ) (l : List A) → total (map (λ x. k * f x) l) ≡ k * total (map f l)
  unfolding total
  sum-mul k f [] = sym (mul-zero k)
  sum-mul k f (x ∷ l) = rw (mul-add k (f x) (total (map f l))) (omega (arith, sum-mul k f l))

  pub sum-const : (k : ℕ) (l : List A) → total (map (λ x. k) l) ≡ length l * k
  unfolding total
  sum-const k [] = omega arith
  sum-const k (x ∷ l) = rw (suc-mul (length l) k) (omega (arith, sum-const k l))

  pub sum-none : (f : A → ℕ) (l : List A) → ((x : A) → Memᴰ x l → f x ≡ 0) → total (map f l) ≡ 0
  unfolding total
  sum-none f [] h = refl
  sum-none f (x ∷ l) h = omega (arith, h x (Memᴰ.head refl), sum-none f l (λ y m. h y (Memᴰ.tail m)))

  -- a count is a sum of ones
  pub count-sum : (p : A → Bool) (l : List A) → count p l ≡ total (map (λ x. one_if (p x)) l)
  unfolding count total
  count-sum p [] = refl
  count-sum p (x ∷ l) = ap (λ (n : ℕ). one_if (p x) + n) (count-sum p l)

-- ---- sums over the numbers below n: f 0 + f 1 + .. + f (n - 1)
pub sum-below-nil : (f : ℕ → ℕ) → total (map f (from 0 0)) ≡ 0
unfolding total from
sum-below-nil f = refl

pub sum-below-snoc : (n : ℕ) (f : ℕ → ℕ) → total (map f (from 0 (suc n))) ≡ total (map f (from 0 n)) + f n
sum-below-snoc n f = ap total (map-below-snoc f n) ∙ total-snoc (map f (from 0 n)) (f n)

-- the same with the code's n + 1
pub sum-below-suc : (n : ℕ) (f : ℕ → ℕ) → total (map f (from 0 (n + 1))) ≡ total (map f (from 0 n)) + f n
sum-below-suc n f = ap total (map-below-suc f n) ∙ total-snoc (map f (from 0 n)) (f n)

pub sum-below-same : (n : ℕ) (f g : ℕ → ℕ) → ((j : ℕ) → j < n → f j ≡ g j) → total (map f (from 0 n)) ≡ total (map g (from 0 n))
sum-below-same n f g h = sum_same f g (from 0 n) (λ j m. h j (omega (arith, from-mem 0 n m)))

pub sum-below-le : (n : ℕ) (f g : ℕ → ℕ) → ((j : ℕ) → j < n → f j ≤ g j) → total (map f (from 0 n)) ≤ total (map g (from 0 n))
sum-below-le n f g h = sum-le f g (from 0 n) (λ j m. h j (omega (arith, from-mem 0 n m)))

pub sum-below-part : (i n : ℕ) (f : ℕ → ℕ) → i ≤ n → total (map f (from 0 i)) ≤ total (map f (from 0 n))
sum-below-part i n f h =
    let d = n - i in
    let e : i + d ≡ n = omega arith in
    let s : total (map f (from 0 (i + d))) ≡ total (map f (from 0 i)) + total (map f (from (0 + i) d)) =
    ap (λ (l : List ℕ). total (map f l)) (from-append 0 i d) ∙ ap total (map-append f (from 0 i) (from (0 + i) d)) ∙ total-append (map f (from 0 i)) (map f (from (0 + i) d)) in
    omega (arith, ap (λ (k : ℕ). total (map f (from 0 k))) e)

pub sum-below-at : (i n : ℕ) (f : ℕ → ℕ) → i < n → f i ≤ total (map f (from 0 n))
sum-below-at i n f h = omega (arith, sum-below-part (suc i) n f h, sum-below-snoc i f)

-- ---- a list's sum is the sum over its indices
pub total-index : (xs : List ℕ) → total xs ≡ total (map (λ i. get_or xs i 0) (from 0 (length xs)))
total-index xs = ap total (list_at xs 0)

-- ---- sums of values over two lists
module _ {A : Type 0} (f : A → ℕ) where
  pub sum-nil : total (map f []) ≡ 0
  unfolding total
  sum-nil = refl

  pub sum-cons : (x : A) (xs : List A) → total (map f (x ∷ xs)) ≡ f x + total (map f xs)
  unfolding total
  sum-cons x xs = refl

  pub sum-append : (xs ys : List A) → total (map f (xs ++ ys)) ≡ total (map f xs) + total (map f ys)
  sum-append xs ys = ap total (map-append f xs ys) ∙ total-append (map f xs) (map f ys)

  -- two more at the end
  pub sum-two : (xs : List A) (x y : A) → total (map f (xs ++ x ∷ y ∷ [])) ≡ total (map f xs) + (f x + f y)
  sum-two xs x y = omega (arith, sum-append xs (x ∷ y ∷ []), sum-cons x (y ∷ []), sum-cons y [], sum-nil)

-- ---- sums of sums, in either order
pub sum-swap : {A B : Type 0} (f : A → B → ℕ) (xs : List A) (ys : List B)
    → total (map (λ x. total (map (f x) ys)) xs) ≡ total (map (λ y. total (map (λ x. f x y) xs)) ys)
unfolding total
sum-swap f [] ys = sym (sum-none (λ y. 0) ys (λ y m. refl))
sum-swap f (x ∷ xs) ys = omega (arith, sum-swap f xs ys, sum-add (f x) (λ y. total (map (λ x. f x y) xs)) ys)

-- a sum whose terms are at most k
pub sum-most : {A : Type 0} (f : A → ℕ) (k : ℕ) (l : List A) → ((x : A) → Memᴰ x l → f x ≤ k) → total (map f l) ≤ length l * k
sum-most f k l h = omega (arith, sum-le f (λ x. k) l h, sum-const k l)

-- ---- counts under some test of a list
pub count-any : {A B : Type 0} (p : B → A → Bool) (es : List B) (l : List A) → count (λ x. any_of (λ e. p e x) es) l ≤ total (map (λ e. count (p e) l) es)
unfolding any_of total
count-any p [] l = omega (arith, count_none (λ x. false) l (λ x m. refl))
count-any p (e ∷ es) l = omega (arith, count-or-le (p e) (λ x. any_of (λ e. p e x) es) l, count-any p es l)

-- ---- counts over the numbers below n, compared test by test
module _ (n : ℕ) (p q : ℕ → Bool) where
  pub count-below-le : ((j : ℕ) → j < n → one_if (p j) ≤ one_if (q j)) → count p (from 0 n) ≤ count q (from 0 n)
  count-below-le h =
      omega (arith, count-sum p (from 0 n), count-sum q (from 0 n), sum-below-le n (λ j. one_if (p j)) (λ j. one_if (q j)) h)

  -- ---- one test against two
  module _ (r : ℕ → Bool) where
    pub count-below-two : ((j : ℕ) → j < n → one_if (r j) ≡ one_if (p j) + one_if (q j)) → count r (from 0 n) ≡ count p (from 0 n) + count q (from 0 n)
    count-below-two h =
        omega (
          arith,
          count-sum p (from 0 n),
          count-sum q (from 0 n),
          count-sum r (from 0 n),
          sum-add (λ j. one_if (p j)) (λ j. one_if (q j)) (from 0 n),
          sum-below-same n (λ j. one_if (r j)) (λ j. one_if (p j) + one_if (q j)) h,
        )

    pub count-below-two-le : ((j : ℕ) → j < n → one_if (p j) + one_if (q j) ≤ one_if (r j)) → count p (from 0 n) + count q (from 0 n) ≤ count r (from 0 n)
    count-below-two-le h =
        omega (
          arith,
          count-sum p (from 0 n),
          count-sum q (from 0 n),
          count-sum r (from 0 n),
          sum-add (λ j. one_if (p j)) (λ j. one_if (q j)) (from 0 n),
          sum-below-le n (λ j. one_if (p j) + one_if (q j)) (λ j. one_if (r j)) h,
        )

    pub count-below-le-two : ((j : ℕ) → j < n → one_if (r j) ≤ one_if (p j) + one_if (q j)) → count r (from 0 n) ≤ count p (from 0 n) + count q (from 0 n)
    count-below-le-two h =
        omega (
          arith,
          count-sum p (from 0 n),
          count-sum q (from 0 n),
          count-sum r (from 0 n),
          sum-add (λ j. one_if (p j)) (λ j. one_if (q j)) (from 0 n),
          sum-below-le n (λ j. one_if (r j)) (λ j. one_if (p j) + one_if (q j)) h,
        )
