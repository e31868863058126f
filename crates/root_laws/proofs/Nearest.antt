-- The root is the value nearest to the exact root, said by whole-number squares. Assumes nothing.
use mathlib.Core.Path.{◌≡◌, refl, sym, ap, ◌∙◌, subst}
use mathlib.Core.Bool.{true, false}
use mathlib.Core.Logic.{inl, inr}
use Prim.Native.Nat.{ℕ, zero, suc, ◌+◌, ◌-◌, ◌*◌, ◌/◌, ◌%◌, ◌^◌, ◌≤◌, ◌<◌}
use native.Mathlib.Nat.{le_trans, le_of_eq, le_of_lt, lt_of_lt_of_le, lt_of_le_of_lt, not-le_of_lt, mul_assoc, mul-le-mul, mul-le-mul_right, mul-le-mul_left, mul-lt-mul_of_pos_right, lt_of_mul-lt-mul_right, mul-one, zero-mul, mul-pos, add-mul, mul-div_cancel, zero-lt-suc, mod-lt, zero-div}
use native.Mathlib.Omega.{arith}
use lib.Dec.{T}
use lib.Pow.{pow-add, pow_pos, pow_mono}
use lib.Ieee.{Float, nan, inf, fin, binary64, fits, up, down, to_bits}
use lib.Ieee.Fits.{down_pos}
use lib.Ieee.Exact.{HasValue}
use lib.Ieee.Scale.{finite}
use lib.Ieee.Positive.{positive}
use Rattle.lists.proofs.Tests.{le-or-lt}
use Rattle.definition.specs.Number.{units_of, root_of_units, square_root_lem}
use Rattle.root_laws.specs.Sorts.{not_negative_lem, Nearer}
use Rattle.root_laws.specs.Steps.{NearRoot, field_units}
use Rattle.root_laws.proofs.Squares.{sq-one, sq-two, sq-lt, sq-back}
use Rattle.root_laws.proofs.Rounding.{sq-odd, sq-scaled}
use Rattle.root_laws.proofs.Patterns.{read}
use Rattle.root_laws.proofs.Rooted.{Rooted, rooted, value-is}

-- a value on a finer grid is below the least number of 53 digits on this one
finer : (a k K : ℕ) → a < 2 ^ 53 → k < K → a * 2 ^ k < 2 ^ 52 * 2 ^ K
finer a k K h l =
    lt_of_lt_of_le (mul-lt-mul_of_pos_right h (pow_pos k))
    (le_trans (le_of_eq (sym (pow-add 2 53 k))) (le_trans (pow_mono (room k K l)) (le_of_eq (pow-add 2 52 K))))
  where
    room : (k K : ℕ) → k < K → 53 + k ≤ 52 + K
    room k K l = omega arith

-- and on a coarser grid it is on this one too
coarser : (a k K : ℕ) → K ≤ k → a * 2 ^ k ≡ a * 2 ^ (k - K) * 2 ^ K
coarser a k K l =
    ap (λ (x : ℕ). a * x) (ap (λ (x : ℕ). 2 ^ x) (sym (back k K l)) ∙ pow-add 2 (k - K) K)
    ∙ sym (mul_assoc a (2 ^ (k - K)) (2 ^ K))
  where
    back : (k K : ℕ) → K ≤ k → k - K + K ≡ k
    back k K l = omega arith

sum-odd : (r p : ℕ) → r * p + (r + 1) * p ≡ (2 * r + 1) * p
sum-odd r p = let a = add-mul r 1 p in let b = add-mul (2 * r) 1 p in let c = mul_assoc 2 r p in omega arith

module _ (A q K a k : ℕ) (N : NearRoot A q) (h : a < 2 ^ 53) where
  area : 4 * (A * 2 ^ K * 2 ^ K) ≡ 4 * A * (2 ^ K * 2 ^ K)
  area = ap (λ (x : ℕ). 4 * x) (mul_assoc A (2 ^ K) (2 ^ K)) ∙ sym (mul_assoc 4 A (2 ^ K * 2 ^ K))

  at_most : (r : ℕ) → q ≡ r + 1 → 2 ^ 52 ≤ r → a * 2 ^ k < q * 2 ^ K → a * 2 ^ k ≤ r * 2 ^ K
  at_most r e l g = elim (le-or-lt K k) [
    | inl c ↦
        let d = coarser a k K c in
        let f : a * 2 ^ (k - K) < r + 1 =
        lt_of_mul-lt-mul_right (2 ^ K)
        (lt_of_le_of_lt (le_of_eq (sym d)) (lt_of_lt_of_le g (le_of_eq (ap (λ (x : ℕ). x * 2 ^ K) e)))) in
        le_trans (le_of_eq d) (mul-le-mul_right (2 ^ K) (less (a * 2 ^ (k - K)) r f))
    | inr c ↦ le_trans (le_of_lt (finer a k K h c)) (mul-le-mul_right (2 ^ K) l)
  ]
    where
      less : (x r : ℕ) → x < r + 1 → x ≤ r
      less x r h = omega arith

  at_least : q * 2 ^ K < a * 2 ^ k → (q + 1) * 2 ^ K ≤ a * 2 ^ k
  at_least g = elim (le-or-lt K k) [
    | inl c ↦
        let d = coarser a k K c in
        let f : q < a * 2 ^ (k - K) = lt_of_mul-lt-mul_right (2 ^ K) (lt_of_lt_of_le g (le_of_eq d)) in
        le_trans (mul-le-mul_right (2 ^ K) (more q (a * 2 ^ (k - K)) f)) (le_of_eq (sym d))
    | inr c ↦ absurd (not-le_of_lt (lt_of_lt_of_le (finer a k K h c) (mul-le-mul_right (2 ^ K) N.least)) (le_of_lt g))
  ]
    where
      more : (q x : ℕ) → q < x → q + 1 ≤ x
      more q x h = omega arith

  below : a * 2 ^ k < q * 2 ^ K → (a * 2 ^ k + q * 2 ^ K) * (a * 2 ^ k + q * 2 ^ K) < 4 * (A * 2 ^ K * 2 ^ K)
  below g = elim (le-or-lt (q * q) A) [
    | inl c ↦
        let R = q * 2 ^ K in
        let s : a * 2 ^ k + R < 2 * R = omega arith in
        lt_of_lt_of_le (sq-lt (a * 2 ^ k + R) (2 * R) s)
        (le_trans (le_of_eq (sq-two R ∙ ap (λ (x : ℕ). 4 * x) (sq-scaled q (2 ^ K)) ∙ sym (mul_assoc 4 (q * q) (2 ^ K * 2 ^ K))))
        (le_trans (mul-le-mul_right (2 ^ K * 2 ^ K) (mul-le-mul_left 4 c)) (le_of_eq (sym area))))
    | inr c ↦
        let b : 2 ^ 52 < q = sq-back (2 ^ 52) q (lt_of_le_of_lt N.large c) in
        let r = q - 1 in
        let e : q ≡ r + 1 = omega arith in
        let y = at_most r e (omega arith) g in
        let o = sum-odd r (2 ^ K) in
        let f : q * 2 ^ K ≡ (r + 1) * 2 ^ K = ap (λ (x : ℕ). x * 2 ^ K) e in
        let s : a * 2 ^ k + q * 2 ^ K ≤ (2 * r + 1) * 2 ^ K = omega arith in
        lt_of_le_of_lt (mul-le-mul s s)
        (lt_of_le_of_lt (le_of_eq (sq-scaled (2 * r + 1) (2 ^ K)))
        (lt_of_lt_of_le (mul-lt-mul_of_pos_right (odd-less A r (subst (λ (x : ℕ). x * x < A + x) e N.low)) (mul-pos (pow_pos K) (pow_pos K))) (le_of_eq (sym area))))
  ]
    where
      odd-less : (A r : ℕ) → (r + 1) * (r + 1) < A + (r + 1) → (2 * r + 1) * (2 * r + 1) < 4 * A
      odd-less A r h = let s = sq-one r in let t = sq-odd r in omega arith

  above : q * 2 ^ K < a * 2 ^ k → 4 * (A * 2 ^ K * 2 ^ K) < (a * 2 ^ k + q * 2 ^ K) * (a * 2 ^ k + q * 2 ^ K)
  above g =
      let y = at_least g in
      let o = sum-odd q (2 ^ K) in
      let s : (2 * q + 1) * 2 ^ K ≤ a * 2 ^ k + q * 2 ^ K = omega arith in
      let t = sq-odd q in
      let u : 4 * A < (2 * q + 1) * (2 * q + 1) = omega (arith, N.high) in
      lt_of_le_of_lt (le_of_eq area)
      (lt_of_lt_of_le (mul-lt-mul_of_pos_right u (mul-pos (pow_pos K) (pow_pos K))) (le_trans (le_of_eq (sym (sq-scaled (2 * q + 1) (2 ^ K)))) (mul-le-mul s s)))

-- ---- a value's units are a number of at most 53 digits times a power of two
grid-fields : (x t : ℕ) → t < 2 ^ 52 → (a : ℕ) × (k : ℕ) × (a < 2 ^ 53) × (field_units x t ≡ a * 2 ^ k)
grid-fields zero t h = (t, 0, omega arith, sym (mul-one t))
grid-fields (suc x) t h = (2 ^ 52 + t, x, omega arith, refl)

on-grid :
    (y : Float) → T (fits binary64 y) → T (finite y) → T (not_negative_lem y) →
    (a : ℕ) × (k : ℕ) × (a < 2 ^ 53) × (units_of y ≡ a * 2 ^ k)
on-grid nan f i p = absurd p
on-grid (inf s) f i p = absurd i
on-grid (fin true m e) f i p = absurd p
on-grid (fin false zero e) f i p =
    (0, 0, zero-lt-suc (2 ^ 53 - 1), ap (λ (x : ℕ). x * 2 ^ 1074 / down e) (zero-mul (up e)) ∙ ap (λ (x : ℕ). x / down e) (zero-mul (2 ^ 1074)) ∙ zero-div (down e))
on-grid (fin false (suc m) e) f i p =
    let r = read m e f in
    let b = to_bits binary64 (fin false (suc m) e) in
    let g = grid-fields (b / 2 ^ 52) (b % 2 ^ 52) (mod-lt b (pow_pos 52)) in
    (g.0, g.1, g.2, r.size ∙ g.3)

-- ---- the law
units-of-value : (r : Float) (n : ℕ) → HasValue r false n (2 ^ 1074) → units_of r ≡ n
units-of-value nan n v = absurd v
units-of-value (inf s) n v = absurd v
units-of-value (fin s m e) n v = ap (λ (x : ℕ). x / down e) v.1 ∙ mul-div_cancel n (down_pos e)

nearer :
    (u : ℕ) (y : Float) → Rooted u → T (fits binary64 y) → T (finite y) → T (not_negative_lem y) →
    Nearer (u * 2 ^ 1074) (units_of (root_of_units u)) (units_of y)
nearer u y r f i p =
    let g = on-grid y f i p in
    let K = suc r.j in
    subst (λ (w : ℕ). Nearer w (units_of (root_of_units u)) (units_of y)) (sym r.split)
    (subst (λ (w : ℕ). Nearer (r.A * 2 ^ K * 2 ^ K) w (units_of y)) (sym (units-of-value (root_of_units u) (r.q * 2 ^ K) r.value))
    (subst (λ (w : ℕ). Nearer (r.A * 2 ^ K * 2 ^ K) (r.q * 2 ^ K) w) (sym g.3)
    (below r.A r.q K g.0 g.1 r.near g.2, above r.A r.q K g.0 g.1 r.near g.2)))

-- For a finite x above zero the root is nearer to the exact root than any other finite value y that is not negative.
-- Sizes are in units of 2 ^ -1074, and the square of a size in units of 2 ^ -2148.
pub root-nearest :
    (x y : Float) → T (fits binary64 x) → T (positive x) → T (fits binary64 y) → T (finite y) → T (not_negative_lem y) →
    Nearer (units_of x * 2 ^ 1074) (units_of (square_root_lem x)) (units_of y)
root-nearest nan y f p g i n = absurd p
root-nearest (inf s) y f p g i n = absurd p
root-nearest (fin true m e) y f p g i n = absurd p
root-nearest (fin false zero e) y f p g i n = absurd p
root-nearest (fin false (suc m) e) y f p g i n =
    subst (λ (r : Float). Nearer (units_of (fin false (suc m) e) * 2 ^ 1074) (units_of r) (units_of y)) (sym (value-is m e))
    (nearer (units_of (fin false (suc m) e)) y (rooted m e f) g i n)
