-- From finite coordinates no NaN arises: a squared distance, of rows or from a centroid, and a distance of rows is +0, a positive
-- number or +infinity, and a centroid's coordinate is a number (an infinity where the sum overflows). Assumes nothing.
-- Holds: distance-sq-good, finite-sq-good, add-number, over-number, sum_number, rows-sq-good, rows-apart-good, centroid-number,
--   centroid-sq-good, good-known, rows-known
use mathlib.Core.Path.{◌≡◌, refl, sym}
use mathlib.Core.Bool.{true, false, true≢false}
use mathlib.Core.List.{List, [], ◌∷◌, Memᴰ}
use Prim.Native.Nat.{ℕ, zero, suc, ◌*◌, ◌^◌, ◌≤◌, ◌<◌}
use native.Mathlib.Omega.{arith}
use borrow.Author.Tests.{ne_eqb}
use lib.Dec.{T, ltb→lt}
use lib.IntN.{pos}
use lib.ListN.{length}
use lib.Ieee.{Float, nan, inf, fin, up, down, unlike, binary64, round, sub, neg, div, of_int, of_bits, is_nan}
use lib.Ieee.Scale.{finite}
use lib.Ieee.Positive.{positive, positive_of_value}
use lib.Ieee.Back.{round_whole}
use Rattle.lists.proofs.Tests.{clash}
use Rattle.lists.proofs.Members.{map-mem}
use Rattle.definition.specs.Number.{plus_zero, plus, minus, product, over}
use Rattle.definition.specs.Points.{coordinate, column, distance_sq_lem, distance, rows_sq, rows_apart}
use Rattle.definition.specs.Sampling.{sum_from, centroid}
use Rattle.root_laws.specs.Sorts.{is_number, good}
use Rattle.root_laws.proofs.Operations.{round_number, square-good, add-good, zero-good, sub_number, finite_number}
use Rattle.root_laws.proofs.Values.{root-good}
use Rattle.rows.specs.Rows.{FiniteRow}

-- ---- distances

-- of a point of numbers and a point of finite coordinates
pub distance-sq-good : (d : ℕ) (p q : ℕ → Float) → ((a : ℕ) → a < d → is_number (p a) ≡ true) → ((a : ℕ) → a < d → finite (q a) ≡ true) → good (distance_sq_lem d p q) ≡ true
unfolding distance_sq_lem
distance-sq-good zero p q f g = zero-good
distance-sq-good (suc d) p q f g =
    let t = minus (p d) (q d) in
    add-good (distance_sq_lem d p q) (product t t)
    (distance-sq-good d p q (λ a h. f a (omega arith)) (λ a h. g a (omega arith)))
    (square-good t (sub_number (p d) (q d) (f d (omega arith)) (g d (omega arith))))

-- of two points of finite coordinates
pub finite-sq-good : (d : ℕ) (p q : ℕ → Float) → ((a : ℕ) → a < d → finite (p a) ≡ true) → ((a : ℕ) → a < d → finite (q a) ≡ true) → good (distance_sq_lem d p q) ≡ true
finite-sq-good d p q f g = distance-sq-good d p q (λ a h. finite_number (p a) (f a h)) g

-- ---- sums and quotients

-- a number and a finite one
pub add-number : (x y : Float) → is_number x ≡ true → finite y ≡ true → is_number (plus x y) ≡ true
unfolding sub neg
add-number x nan h k = absurd (true≢false (sym k))
add-number x (inf t) h k = absurd (true≢false (sym k))
add-number x (fin true n e) h k = sub_number x (fin false n e) h refl
add-number x (fin false n e) h k = sub_number x (fin true n e) h refl

positive-count : (n : ℕ) → 0 < n → n ≤ 2 ^ 53 → T (positive (of_int binary64 (pos n)))
unfolding of_int
positive-count n h l = positive_of_value (round binary64 false n 1) n 1 (round_whole binary64 false n l) h

not-zero : (n : ℕ) → 0 < n → n ≡ 0 → ⊥
not-zero n h e = omega arith

div-number : (x y : Float) → is_number x ≡ true → T (positive y) → is_number (div binary64 x y) ≡ true
unfolding div
div-number x nan h p = absurd p
div-number x (inf t) h p = absurd p
div-number x (fin true n d) h p = absurd p
div-number nan (fin false n d) h p = absurd (true≢false (sym h))
div-number (inf s) (fin false n d) h p = refl
div-number (fin s m e) (fin false n d) h p =
    rw (ne_eqb n 0 (not-zero n (ltb→lt 0 n p)))
    (round_number binary64 (unlike s false) (m * up e * down d) (n * up d * down e))

-- a number divided by a count
pub over-number : (x : Float) (n : ℕ) → is_number x ≡ true → 0 < n → n ≤ 2 ^ 53 → is_number (over x n) ≡ true
over-number x n h a b = div-number x (of_int binary64 (pos n)) h (positive-count n a b)

-- a sum of finite values
pub sum_number : (s : Float) (xs : List Float) → is_number s ≡ true → ((x : Float) → Memᴰ x xs → finite x ≡ true) → is_number (sum_from s xs) ≡ true
unfolding sum_from
sum_number s [] h f = h
sum_number s (x ∷ xs) h f =
    sum_number (plus s x) xs (add-number s x h (f x (Memᴰ.head refl))) (λ y m. f y (Memᴰ.tail m))

-- ---- rows with finite coordinates
module _ (d : ℕ) (cs : List Float) where
  pub rows-sq-good : (i j : ℕ) → FiniteRow d cs i → FiniteRow d cs j → good (rows_sq d cs i j) ≡ true
  unfolding rows_sq
  rows-sq-good i j h k = finite-sq-good d (coordinate d cs i) (coordinate d cs j) h k

  pub rows-apart-good : (i j : ℕ) → FiniteRow d cs i → FiniteRow d cs j → good (rows_apart d cs i j) ≡ true
  unfolding rows_apart distance rows_sq
  rows-apart-good i j h k = root-good (rows_sq d cs i j) (rows-sq-good i j h k)

  module _ (rows : List ℕ) (g : (i : ℕ) → Memᴰ i rows → FiniteRow d cs i) where
    column-finite : (a : ℕ) → a < d → (x : Float) → Memᴰ x (column d cs rows a) → finite x ≡ true
    column-finite a b x m = let (i, n, e) = map-mem (λ i. coordinate d cs i a) rows m in rw e (g i n a b)

    module _ (some-row : 0 < length rows) (few : length rows ≤ 2 ^ 53) where
      pub centroid-number : (a : ℕ) → a < d → is_number (centroid d cs rows a) ≡ true
      unfolding centroid of_bits
      centroid-number a b =
          over-number (sum_from plus_zero (column d cs rows a)) (length rows)
          (sum_number plus_zero (column d cs rows a) refl (column-finite a b)) some-row few

      pub centroid-sq-good : (i : ℕ) → FiniteRow d cs i → good (distance_sq_lem d (centroid d cs rows) (coordinate d cs i)) ≡ true
      centroid-sq-good i h = distance-sq-good d (centroid d cs rows) (coordinate d cs i) centroid-number h

-- ---- no NaN, as a test
pub good-known : (x : Float) → good x ≡ true → is_nan x ≡ false
unfolding is_nan
good-known nan h = clash h refl
good-known (inf s) h = refl
good-known (fin s m e) h = refl

-- the squared distance of two rows with finite coordinates
pub rows-known : (d : ℕ) (cs : List Float) (i j : ℕ) → FiniteRow d cs i → FiniteRow d cs j → is_nan (rows_sq d cs i j) ≡ false
rows-known d cs i j f g = good-known (rows_sq d cs i j) (rows-sq-good d cs i j f g)
