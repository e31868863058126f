-- The significand and the exponent of a pattern: the two fields of a pattern, and the shift that brings a short
-- significand's leading digit to bit 52. Assumes nothing.
-- Holds: Short, short, small-field, lead-small, lead-large, lead-any
use mathlib.Core.Path.{◌≡◌, refl, sym, ap, ◌∙◌, subst}
use mathlib.Core.Logic.{inl, inr}
use Prim.Native.Nat.{ℕ, zero, suc, ◌+◌, ◌-◌, ◌*◌, ◌/◌, ◌%◌, ◌^◌, ◌≤◌, ◌<◌}
use native.Mathlib.Nat.{le_trans, le_of_eq, lt_of_lt_of_le, lt_of_not-le, not-le_of_lt, eq-zero-or-pos, mul_assoc, add_comm, mul-le-mul_right, mul-lt-mul_of_pos_right, mod-eq_of_lt, mod-lt}
use native.Mathlib.Omega.{arith}
use lib.Dec.{lit≤}
use lib.Pow.{pow_pos, pow-add, pow_mono}
use lib.Count.{count_leading_zeros, leading_top}
use Rattle.root_laws.specs.Steps.{Leading, bit_units, field_units}

-- z is the shift that gives t, of fewer than 53 digits, its 53
pub record Short (t z : ℕ) : Type 0 where
  pub least : 1 ≤ z
  pub most : z ≤ 52
  pub low : 2 ^ 52 ≤ t * 2 ^ z
  pub high : t * 2 ^ z < 2 ^ 53

pub short : (t : ℕ) → 0 < t → t < 2 ^ 52 → Short t (count_leading_zeros 64 t - 11)
short t p h =
    let l = leading_top 64 t p (lt_of_lt_of_le h (lit≤ tt)) in
    let j = l.0 in
    let j-lt : j < 52 = lt_of_not-le (λ (k : 52 ≤ j). not-le_of_lt h (le_trans (pow_mono k) l.2)) in
    let z = count_leading_zeros 64 t - 11 in
    let e : j + z ≡ 52 = sum (count_leading_zeros 64 t) j l.1 j-lt in
    record {
      least = one (count_leading_zeros 64 t) j l.1 j-lt;
      most = top (count_leading_zeros 64 t) j l.1;
      low = le_trans (le_of_eq (ap (λ (x : ℕ). 2 ^ x) (sym e) ∙ pow-add 2 j z)) (mul-le-mul_right (2 ^ z) l.2);
      high =
          lt_of_lt_of_le (mul-lt-mul_of_pos_right l.3 (pow_pos z))
          (le_of_eq (sym (pow-add 2 (suc j) z) ∙ ap (λ (x : ℕ). 2 ^ x) (up j z e)));
    }
  where
    sum : (lz j : ℕ) → lz + suc j ≡ 64 → j < 52 → j + (lz - 11) ≡ 52
    sum lz j a b = omega arith

    one : (lz j : ℕ) → lz + suc j ≡ 64 → j < 52 → 1 ≤ lz - 11
    one lz j a b = omega arith

    top : (lz j : ℕ) → lz + suc j ≡ 64 → lz - 11 ≤ 52
    top lz j a = omega arith

    up : (j z : ℕ) → j + z ≡ 52 → suc j + z ≡ 53
    up j z e = omega arith

pub small-field : (b : ℕ) → 0 < b → b / 2 ^ 52 ≡ 0 → 0 < b % 2 ^ 52
small-field b p h = omega arith

pub lead-small :
    (b t : ℕ) → t ≡ b % 2 ^ 52 → 0 < b → b / 2 ^ 52 ≡ 0 →
    Leading b (t * 2 ^ (count_leading_zeros 64 t - 11) % 2 ^ 64) (1074 - (count_leading_zeros 64 t - 11))
lead-small b t e p h =
    let z = count_leading_zeros 64 t - 11 in
    let t-pos : 0 < t = subst (λ (x : ℕ). 0 < x) (sym e) (small-field b p h) in
    let t-lt : t < 2 ^ 52 = subst (λ (x : ℕ). x < 2 ^ 52) (sym e) (mod-lt b (pow_pos 52)) in
    let s = short t t-pos t-lt in
    let w : t * 2 ^ z % 2 ^ 64 ≡ t * 2 ^ z = mod-eq_of_lt (lt_of_lt_of_le s.high (lit≤ tt)) in
    let u : bit_units b ≡ t = ap (λ (x : ℕ). field_units x (b % 2 ^ 52)) h ∙ sym e in
    let least : 1000 ≤ 1074 - z = far z s.most in
    subst (λ (m : ℕ). Leading b m (1074 - z)) (sym w)
    (record {
      low = s.low;
      high = s.high;
      least = least;
      most = near z;
      size =
          ap (λ (x : ℕ). x * 2 ^ 1074) u
          ∙ ap (λ (x : ℕ). t * x) (ap (λ (x : ℕ). 2 ^ x) (sym (back z s.most)) ∙ pow-add 2 z (1074 - z))
          ∙ sym (mul_assoc t (2 ^ z) (2 ^ (1074 - z)));
    })
  where
    far : (z : ℕ) → z ≤ 52 → 1000 ≤ 1074 - z
    far z h = omega arith

    near : (z : ℕ) → 1074 - z ≤ 3200
    near z = omega arith

    back : (z : ℕ) → z ≤ 52 → z + (1074 - z) ≡ 1074
    back z h = omega arith

by_field : (x t m : ℕ) → (x ≡ 0 → ⊥) → m ≡ 2 ^ 52 + t → field_units x t * 2 ^ 1074 ≡ m * 2 ^ (x + 1073)
by_field zero t m h e = absurd (h refl)
by_field (suc x) t m h e =
    mul_assoc (2 ^ 52 + t) (2 ^ x) (2 ^ 1074)
    ∙ ap (λ (y : ℕ). (2 ^ 52 + t) * y) (sym (pow-add 2 x 1074) ∙ ap (λ (y : ℕ). 2 ^ y) (shift x))
    ∙ ap (λ (y : ℕ). y * 2 ^ (suc x + 1073)) (sym e)
  where
    shift : (x : ℕ) → x + 1074 ≡ suc x + 1073
    shift x = omega arith

pub lead-large :
    (b t : ℕ) → t ≡ b % 2 ^ 52 → b < 2047 * 2 ^ 52 → (b / 2 ^ 52 ≡ 0 → ⊥) → Leading b (t + 2 ^ 52) (b / 2 ^ 52 + 1073)
lead-large b t e l h =
    let t-lt : t < 2 ^ 52 = subst (λ (x : ℕ). x < 2 ^ 52) (sym e) (mod-lt b (pow_pos 52)) in
    record {
      low = omega arith;
      high = omega arith;
      least = omega arith;
      most = omega arith;
      size = by_field (b / 2 ^ 52) (b % 2 ^ 52) (t + 2 ^ 52) h (add_comm t (2 ^ 52) ∙ ap (λ (x : ℕ). 2 ^ 52 + x) e);
    }

-- each pattern of a finite value above zero has them
pub lead-any : (b : ℕ) → 0 < b → b < 2047 * 2 ^ 52 → (m : ℕ) × (e : ℕ) × Leading b m e
lead-any b p l = elim (eq-zero-or-pos (b / 2 ^ 52)) [
  | inl z ↦ (_, _, lead-small b (b % 2 ^ 52) refl p z)
  | inr z ↦ (_, _, lead-large b (b % 2 ^ 52) refl l (λ (w : b / 2 ^ 52 ≡ 0). no (b / 2 ^ 52) z w))
]
  where
    no : (x : ℕ) → 0 < x → x ≡ 0 → ⊥
    no x h e = omega arith
