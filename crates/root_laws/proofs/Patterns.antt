-- The bit pattern of a finite value above zero, and the value's size in units of 2 ^ -1074 by the pattern's two fields.
-- Assumes nothing.
use mathlib.Core.Path.{◌≡◌, refl, sym, ap, ◌∙◌, subst}
use mathlib.Core.Logic.{inl, inr}
use mathlib.Core.Bool.{Bool, true, false, cond, not, true≢false}
use Prim.Native.Nat.{ℕ, zero, suc, ◌+◌, ◌*◌, ◌/◌, ◌%◌, ◌^◌, ◌≤◌, ◌<◌}
use native.Mathlib.Nat.{mul-one, zero-mul, mul-pos, zero-lt-suc, mul-div_cancel, mod-eq_of_lt, lt_irrefl, eq-zero-or-pos}
use native.Mathlib.Omega.{arith}
use lib.IntN.{ℤ}
use lib.Dec.{T, leb, eqb, nleb→lt, eqb→eq, not_T}
use lib.Arith.{le→nltb}
use lib.Pow.{pow_pos}
use lib.Ieee.{Float, nan, inf, fin, binary64, fits, up, down, odd, of_fields, of_bits, to_bits, nan_bits}
use lib.Ieee.Fits.{down_pos, up_pos}
use lib.Ieee.Exact.{HasValue, odd_sign}
use lib.Ieee.Bits.{of_bits-to_bits, cond_no, nan_bits_above}
use lib.Ieee.Scale.{finite}
use Rattle.definition.specs.Number.{units_of}
use Rattle.root_laws.specs.Steps.{field_units, bit_units}

fields_value : (s : Bool) (x t : ℕ) → (x ≡ 2047 → ⊥) → HasValue (of_fields binary64 s x t) s (field_units x t) (2 ^ 1074)
unfolding of_fields
fields_value s zero t h =
    subst (λ (z : ℕ). HasValue (odd 53 s t 0 1074) s z (2 ^ 1074)) (mul-one t) (odd_sign 53 s t 0 1074)
fields_value s (suc x) t h =
    subst (λ (z : Float). HasValue z s ((2 ^ 52 + t) * 2 ^ x) (2 ^ 1074))
    (sym (cond_no (eqb (suc x) 2047) (cond (eqb t 0) (inf s) nan) (odd 53 s (2 ^ 52 + t) x 1074) (not_T (eqb (suc x) 2047) (λ u. h (eqb→eq (suc x) 2047 u)))))
    (odd_sign 53 s (2 ^ 52 + t) x 1074)

top-fields : (s : Bool) (t : ℕ) → finite (of_fields binary64 s 2047 t) ≡ false
unfolding of_fields
top-fields s t = go (eqb t 0)
  where
    go : (b : Bool) → finite (cond b (inf s) nan) ≡ false
    go true = refl
    go false = refl

of-bits : (b : ℕ) → of_bits binary64 b ≡ of_fields binary64 (leb (2 ^ 63) b) (b % 2 ^ 63 / 2 ^ 52) (b % 2 ^ 52)
unfolding of_bits
of-bits b = refl

finite-is : (s : Bool) (m : ℕ) (e : ℤ) → finite (fin s m e) ≡ true
finite-is s m e = refl

-- what the pattern b of a finite value above zero says
pub record Finite (m : ℕ) (e : ℤ) (b : ℕ) : Type 0 where
  pub positive : 0 < b
  pub below : b < 2047 * 2 ^ 52
  pub size : units_of (fin false (suc m) e) ≡ bit_units b
  pub exact : suc m * up e * 2 ^ 1074 ≡ bit_units b * down e

not_top : (b : ℕ) → b < 2 ^ 63 → (b / 2 ^ 52 ≡ 2047 → ⊥) → b < 2047 * 2 ^ 52
not_top b h k = omega arith

pub read : (m : ℕ) (e : ℤ) → T (fits binary64 (fin false (suc m) e)) → Finite m e (to_bits binary64 (fin false (suc m) e))
read m e h = record { positive = pos'; below = not_top b low top'; size = sz; exact = eqn }
  where
    x : Float
    x = fin false (suc m) e

    b : ℕ
    b = to_bits binary64 x

    y : ℕ
    y = b % 2 ^ 63 / 2 ^ 52

    is : of_fields binary64 (leb (2 ^ 63) b) y (b % 2 ^ 52) ≡ x
    is = sym (of-bits b) ∙ of_bits-to_bits binary64 x h

    top : y ≡ 2047 → ⊥
    top g =
        true≢false
        (sym (finite-is false (suc m) e) ∙ ap finite (sym is ∙ ap (λ (z : ℕ). of_fields binary64 (leb (2 ^ 63) b) z (b % 2 ^ 52)) g) ∙ top-fields (leb (2 ^ 63) b) (b % 2 ^ 52))

    val : HasValue x (leb (2 ^ 63) b) (field_units y (b % 2 ^ 52)) (2 ^ 1074)
    val =
        subst (λ (z : Float). HasValue z (leb (2 ^ 63) b) (field_units y (b % 2 ^ 52)) (2 ^ 1074)) is
        (fields_value (leb (2 ^ 63) b) y (b % 2 ^ 52) top)

    low : b < 2 ^ 63
    low = nleb→lt (2 ^ 63) b (subst (λ (z : Bool). T (not z)) val.0 tt)

    whole : b % 2 ^ 63 ≡ b
    whole = mod-eq_of_lt low

    top' : b / 2 ^ 52 ≡ 2047 → ⊥
    top' g = top (ap (λ (z : ℕ). z / 2 ^ 52) whole ∙ g)

    eqn : suc m * up e * 2 ^ 1074 ≡ bit_units b * down e
    eqn = val.1 ∙ ap (λ (z : ℕ). field_units (z / 2 ^ 52) (b % 2 ^ 52) * down e) whole

    sz : units_of x ≡ bit_units b
    sz = ap (λ (z : ℕ). z / down e) eqn ∙ mul-div_cancel (bit_units b) (down_pos e)

    pos' : 0 < b
    pos' = elim (eq-zero-or-pos b) [
      | inl z ↦
          absurd
          (lt_irrefl 0 (subst (λ (w : ℕ). 0 < w) (eqn ∙ ap (λ (w : ℕ). bit_units w * down e) z ∙ zero-mul (down e)) (mul-pos (mul-pos (zero-lt-suc m) (up_pos e)) (pow_pos 1074))))
      | inr p ↦ p
    ]

-- ---- a pattern below the infinity's is no NaN's
pub no_nan : (b : ℕ) → b < 2047 * 2 ^ 52 → T (not (nan_bits binary64 b))
no_nan b h =
    subst (λ (z : Bool). T (not z)) (sym (nan_bits_above binary64 b)) (le→nltb (2047 * 2 ^ 52) (b % 2 ^ 63) (under b h))
  where
    under : (b : ℕ) → b < 2047 * 2 ^ 52 → b % 2 ^ 63 ≤ 2047 * 2 ^ 52
    under b h = omega arith
