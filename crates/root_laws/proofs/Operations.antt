-- Which operations give numbers, and which give values that are not negative. Assumes nothing.
-- Holds: round_number, round-nn, square-good, add-good, zero-good, inf-good, sub_number, finite_number
use mathlib.Core.Path.{◌≡◌, refl, sym}
use mathlib.Core.Bool.{Bool, true, false, not, ◌&&◌, beq, cond, true≢false}
use Prim.Native.Nat.{ℕ, zero, suc, ◌+◌, ◌-◌, ◌*◌, ◌^◌}
use lib.Dec.{ltb}
use lib.IntN.{ℤ}
use lib.Ieee.{Float, nan, inf, fin, Format, prec, emax, low, unlike, up, down, binary64, odd, units, round, sum, add, sub, neg, mul, of_bits, fits}
use lib.Ieee.Fits.{round_is, add-fits, mul-fits}
use lib.Ieee.Scale.{finite}
use Rattle.definition.specs.Number.{plus_zero, plus, minus, product}
use Rattle.root_laws.specs.Sorts.{is_number, not_negative_lem, good}
use Rattle.root_laws.proofs.Order.{GoodFloat, top, num, view, both}

-- ---- a test that passes every value of the sign s passes what is rounded with that sign
cond-passes : (P : Float → Bool) (b : Bool) (x y : Float) → P x ≡ true → P y ≡ true → P (cond b x y) ≡ true
cond-passes P true x y h k = h
cond-passes P false x y h k = k

module _ (P : Float → Bool) (s : Bool) (i : P (inf s) ≡ true) (n : (m : ℕ) (e : ℤ) → P (fin s m e) ≡ true) where
  odd-passes : (d q k l : ℕ) → P (odd d s q k l) ≡ true
  unfolding odd
  odd-passes d zero k l = n _ _
  odd-passes d (suc q) k l = n _ _

  units-passes : (f : Format) (q k : ℕ) → P (units f s q k) ≡ true
  unfolding units
  units-passes f q k =
      cond-passes P (ltb (q * 2 ^ k) (2 ^ (low f + suc (emax f)))) (odd (suc (prec f)) s q k (low f)) (inf s)
      (odd-passes (suc (prec f)) q k (low f)) i

  rounded : (f : Format) (a b : ℕ) → P (round f s a b) ≡ true
  rounded f a b = rw (round_is f s a b) (units-passes f _ _)

-- no rounding gives a NaN
pub round_number : (f : Format) (s : Bool) (a b : ℕ) → is_number (round f s a b) ≡ true
round_number f s a b = rounded is_number s refl (λ m e. refl) f a b

-- nor, without a sign, a negative value
pub round-nn : (f : Format) (a b : ℕ) → not_negative_lem (round f false a b) ≡ true
round-nn f a b = rounded not_negative_lem false refl (λ m e. refl) f a b

sum_number : (f : Format) (s : Bool) (a : ℕ) (t : Bool) (b c : ℕ) → is_number (sum f s a t b c) ≡ true
unfolding sum
sum_number f s a t b c =
    cond-passes is_number (beq s t) (round f s (a + b) c)
    (cond (ltb a b) (round f t (b - a) c) (round f (s && ltb b a) (a - b) c)) (round_number f s (a + b) c)
    (cond-passes is_number (ltb a b) (round f t (b - a) c) (round f (s && ltb b a) (a - b) c) (round_number f t (b - a) c) (round_number f (s && ltb b a) (a - b) c))

-- ---- which operations give a value that is not negative
unlike-self : (s : Bool) → unlike s s ≡ false
unlike-self true = refl
unlike-self false = refl

square-nn : (x : Float) → is_number x ≡ true → not_negative_lem (product x x) ≡ true
unfolding mul
square-nn nan h = absurd (true≢false (sym h))
square-nn (inf s) h = simp unlike-self
square-nn (fin s m e) h = simp unlike-self (round-nn binary64 (m * up e * (m * up e)) (down e * down e))

-- a square
pub square-good : (x : Float) → is_number x ≡ true → good (product x x) ≡ true
square-good x h = both (not_negative_lem (product x x)) (fits binary64 (product x x)) (square-nn x h) (mul-fits binary64 x x)

add-nn : {x y : Float} → GoodFloat x → GoodFloat y → not_negative_lem (plus x y) ≡ true
unfolding add sum
add-nn top top = refl
add-nn top (num n d) = refl
add-nn (num m e) top = refl
add-nn (num m e) (num n d) = round-nn binary64 (m * up e * down d + n * up d * down e) (down e * down d)

-- a sum of two
pub add-good : (x y : Float) → good x ≡ true → good y ≡ true → good (plus x y) ≡ true
add-good x y g h =
    both (not_negative_lem (plus x y)) (fits binary64 (plus x y)) (add-nn (view x g) (view y h)) (add-fits binary64 x y)

-- +0 and +infinity
pub zero-good : good plus_zero ≡ true
unfolding fits of_bits
zero-good = refl

pub inf-good : good (inf false) ≡ true
unfolding fits
inf-good = refl

-- a number minus a finite one is a number
pub sub_number : (x y : Float) → is_number x ≡ true → finite y ≡ true → is_number (minus x y) ≡ true
unfolding sub add neg
sub_number nan y h k = absurd (true≢false (sym h))
sub_number (inf s) nan h k = absurd (true≢false (sym k))
sub_number (inf s) (inf t) h k = absurd (true≢false (sym k))
sub_number (inf s) (fin t n d) h k = refl
sub_number (fin s m e) nan h k = absurd (true≢false (sym k))
sub_number (fin s m e) (inf t) h k = absurd (true≢false (sym k))
sub_number (fin s m e) (fin t n d) h k =
    sum_number binary64 s (m * up e * down d) (not t) (n * up d * down e) (down e * down d)

-- a finite value is a number
pub finite_number : (x : Float) → finite x ≡ true → is_number x ≡ true
finite_number nan h = h
finite_number (inf s) h = refl
finite_number (fin s m e) h = refl
