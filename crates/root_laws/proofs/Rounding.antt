-- How `round` rounds a root: with a whole number q at most a half away from the root of A, the root of A * 4 ^ j
-- rounds to q * 2 ^ j units. Assumes nothing.
-- Holds: closest-is, size_is, sq-scaled, sq-odd, root-rounds, bits_of_value, root-value, root-of-pattern
use mathlib.Core.Path.{◌≡◌, sym, ap, ◌∙◌, subst}
use mathlib.Core.Logic.{inl, inr}
use mathlib.Core.Bool.{true, false, not, true≢false}
use Prim.Native.Nat.{ℕ, suc, ◌+◌, ◌-◌, ◌*◌, ◌/◌, ◌%◌, ◌^◌, ◌≤◌, ◌<◌, compare, Ordering}
use native.Mathlib.Nat.{le_trans, le_of_eq, le_of_lt, le_antisymm, lt_of_lt_of_le, lt_of_not-le, le_of_suc-le-suc, suc-mul, suc-add, mul-le-mul_right, mul-lt-mul_of_pos_right, lt_of_mul-lt-mul_right, mul-mul-mul_comm, mul-add, add-mul, mul-one, one-mul, mul_assoc, mul_comm, mul_left_comm, mul-pos, zero-lt-suc, zero-add, div-add-mod', mod-lt, mul-div_cancel, mul-div-mul_right, pow-succ', eq-or-lt_of_le}
use native.Mathlib.Omega.{arith}
use lib.Dec.{T, is_le, compare_is_eq, leb→le, nleb→lt, eqb→eq}
use lib.Pow.{pow-add, pow_pos, pow_mono, shl_lt}
use lib.IntN.{ℤ}
use lib.Ieee.{Float, nan, inf, fin, binary64, up, down, size, nearest, units, round, to_bits, of_bits}
use lib.Ieee.Digits.{size-lt, size-le}
use lib.Ieee.Fits.{round_is, round-fits, down_pos}
use lib.Ieee.Exact.{HasValue, units_val}
use lib.Ieee.Nearest.{closest}
use lib.Ieee.Bits.{of_bits-to_bits}
use Rattle.definition.specs.Number.{halves}
use Rattle.root_laws.specs.Steps.{NearRoot}
use Rattle.root_laws.proofs.Squares.{sq-one, halves-above, halves-below, halves-square}

-- ---- the nearest whole number is the one less than a half away
factor-le : (a b u : ℕ) → a * u < b * u + u → a ≤ b
factor-le a b u h = le_of_suc-le-suc (lt_of_mul-lt-mul_right u (subst (λ (x : ℕ). a * u < x) (sym (suc-mul b u)) h))

by_parts :
    (o : Ordering) (w r u q : ℕ) → (T (is_le o) → r * 2 ≤ u) → (T (not (is_le o)) → u < r * 2) → (T (compare_is_eq o) → r * 2 ≡ u) →
    r < u → 2 * (w * u + r) < 2 * (q * u) + u → 2 * (q * u) < 2 * (w * u + r) + u → nearest w o ≡ q
by_parts Ordering.lt w r u q f g e l h k =
    let c = f tt in
    let a : w ≤ q = factor-le w q u (omega arith) in
    let b : q ≤ w = factor-le q w u (omega arith) in
    omega arith
by_parts Ordering.eq w r u q f g e l h k =
    let c = e tt in
    let b : q ≤ w = factor-le q w u (omega arith) in
    let d = mul-le-mul_right u b in
    absurd (no (w * u) (q * u) r u c h d)
  where
    no : (P Q r u : ℕ) → r * 2 ≡ u → 2 * (P + r) < 2 * Q + u → Q ≤ P → ⊥
    no P Q r u c h d = omega arith
by_parts Ordering.gt w r u q f g t l h k =
    let c = g tt in
    let a : w < q = lt_of_mul-lt-mul_right u (omega arith) in
    let e = suc-mul w u in
    let b : q ≤ suc w = factor-le q (suc w) u (omega arith) in
    omega arith

pub closest-is : (n u q : ℕ) → 0 < u → 2 * n < 2 * (q * u) + u → 2 * (q * u) < 2 * n + u → closest n u ≡ q
closest-is n u q U h k =
    let e = div-add-mod' n u in
    by_parts (compare (n % u * 2) u) (n / u) (n % u) u q (leb→le (n % u * 2) u) (nleb→lt (n % u * 2) u)
    (eqb→eq (n % u * 2) u) (mod-lt n U) (omega arith) (omega arith)

-- ---- digits
pub size_is : (n j : ℕ) → 2 ^ j ≤ n → n < 2 ^ suc j → size n ≡ suc j
size_is n j lo hi =
    le_antisymm (size-le n (suc j) hi)
    (lt_of_not-le (λ (s : size n ≤ j). let p = pow_mono s in let l = size-lt n in omega arith))

-- ---- the square of a scaled number
pub sq-scaled : (a p : ℕ) → a * p * (a * p) ≡ a * a * (p * p)
sq-scaled a p = mul-mul-mul_comm a p a p

pub sq-odd : (p : ℕ) → (2 * p + 1) * (2 * p + 1) ≡ 4 * (p * p) + 4 * p + 1
sq-odd p =
    simp (mul-add, add-mul, mul-one, one-mul)
    (let e : 2 * p * (2 * p) ≡ 4 * (p * p) = mul-mul-mul_comm 2 p 2 p in omega arith)

four : (A p : ℕ) → A * (2 * p) * (2 * p) ≡ 4 * A * (p * p)
four A p =
    mul_assoc A (2 * p) (2 * p)
    ∙ ap (λ (z : ℕ). A * z) (mul-mul-mul_comm 2 p 2 p)
    ∙ mul_left_comm A 4 (p * p)
    ∙ sym (mul_assoc 4 A (p * p))

halves-ge : (n c : ℕ) → c * c ≤ n → 2 * c ≤ halves n
halves-ge n c h =
    elim (eq-or-lt_of_le h) [ inl e ↦ le_of_eq (sym (halves-square n c e)) | inr l ↦ le_of_lt (halves-above n c l) ]

odd-scaled : (q p : ℕ) → 2 * ((2 * q + 1) * p) ≡ 2 * q * (2 * p) + 2 * p
odd-scaled q p =
    let a = add-mul (2 * q) 1 p in
    let b = mul_left_comm (2 * q) 2 p in
    let c = one-mul p in
    omega arith

next-scaled : (r p : ℕ) → 2 * (r + 1) * p ≡ 2 * r * p + 2 * p
next-scaled r p = ap (λ (z : ℕ). z * p) (mul-add 2 r 1) ∙ add-mul (2 * r) 2 p

-- twice the root of A * 4 ^ (j + 1), against the two odd numbers next to 2 * q, scaled
odd-above :
    (A r j : ℕ) → (r + 1) * (r + 1) < A + (r + 1) → 2 * (r + 1) * 2 ^ suc j < halves (A * 2 ^ suc j * 2 ^ suc j) + 2 ^ suc j
odd-above A r j N =
    let p = 2 ^ j in
    let c = (2 * r + 1) * p in
    let e : 2 ^ suc j ≡ 2 * p = pow-succ' 2 j in
    let s = sq-odd r in
    let t = sq-one r in
    let g : c * c < A * 2 ^ suc j * 2 ^ suc j =
    rw (e, four, sq-scaled) (mul-lt-mul_of_pos_right (omega arith) (mul-pos (pow_pos j) (pow_pos j))) in
    let h = halves-above (A * 2 ^ suc j * 2 ^ suc j) c g in
    let k = odd-scaled r p in
    let l = next-scaled r (2 ^ suc j) in
    let m : 2 * r * 2 ^ suc j ≡ 2 * r * (2 * p) = ap (λ (z : ℕ). 2 * r * z) e in
    omega arith

odd-below : (A q j : ℕ) → A ≤ q * q + q → halves (A * 2 ^ suc j * 2 ^ suc j) < 2 * q * 2 ^ suc j + 2 ^ suc j
odd-below A q j N =
    let p = 2 ^ j in
    let d = (2 * q + 1) * p in
    let e : 2 ^ suc j ≡ 2 * p = pow-succ' 2 j in
    let s = sq-odd q in
    let g : A * 2 ^ suc j * 2 ^ suc j < d * d =
    rw (e, four, sq-scaled) (mul-lt-mul_of_pos_right (omega arith) (mul-pos (pow_pos j) (pow_pos j))) in
    let h = halves-below (A * 2 ^ suc j * 2 ^ suc j) d g in
    let k = odd-scaled q p in
    let m : 2 * q * 2 ^ suc j ≡ 2 * q * (2 * p) = ap (λ (z : ℕ). 2 * q * z) e in
    omega arith

-- how many digits the root has
scaled-sq : (B j : ℕ) → B * B * 2 ^ j * 2 ^ j ≡ B * 2 ^ j * (B * 2 ^ j)
scaled-sq B j = mul_assoc (B * B) (2 ^ j) (2 ^ j) ∙ mul-mul-mul_comm B B (2 ^ j) (2 ^ j)

root-size : (A j : ℕ) → 2 ^ 52 * 2 ^ 52 ≤ A → A < 2 ^ 53 * 2 ^ 53 → size (halves (A * 2 ^ j * 2 ^ j) / 2) ≡ suc (52 + j)
root-size A j lo hi =
    let W = A * 2 ^ j * 2 ^ j in
    let a : 2 ^ 52 * 2 ^ j * (2 ^ 52 * 2 ^ j) ≤ W =
    le_trans (le_of_eq (sym (scaled-sq (2 ^ 52) j))) (mul-le-mul_right (2 ^ j) (mul-le-mul_right (2 ^ j) lo)) in
    let b : W < 2 ^ 53 * 2 ^ j * (2 ^ 53 * 2 ^ j) =
    lt_of_lt_of_le (mul-lt-mul_of_pos_right (mul-lt-mul_of_pos_right hi (pow_pos j)) (pow_pos j))
    (le_of_eq (scaled-sq (2 ^ 53) j)) in
    let c = halves-ge W (2 ^ 52 * 2 ^ j) a in
    let d = halves-below W (2 ^ 53 * 2 ^ j) b in
    size_is (halves W / 2) (52 + j)
    (subst (λ (z : ℕ). z ≤ halves W / 2) (sym (pow-add 2 52 j)) (at_least (2 ^ 52 * 2 ^ j) (halves W) c))
    (subst (λ (z : ℕ). halves W / 2 < z) (sym (pow-add 2 53 j) ∙ ap (λ (z : ℕ). 2 ^ z) (suc-add 52 j)) (at_most (2 ^ 53 * 2 ^ j) (halves W) d))
  where
    at_least : (x h : ℕ) → 2 * x ≤ h → x ≤ h / 2
    at_least x h l = omega arith

    at_most : (x h : ℕ) → h < 2 * x → h / 2 < x
    at_most x h l = omega arith

-- ---- the rounded root
prev : (q : ℕ) → 2 ^ 52 ≤ q → q ≡ q - 1 + 1
prev q h = omega arith

by-scale : (h p l q : ℕ) → 0 < p → 0 < l → 2 * q * p < h + p → h < 2 * q * p + p → closest (h * l) (2 * l * p) ≡ q
by-scale h p l q P L a b =
    let t : q * (2 * l * p) ≡ 2 * q * p * l = simp (mul_assoc, mul_comm, mul_left_comm) in
    let u : 2 * l * p ≡ 2 * (p * l) = simp (mul_assoc, mul_comm) in
    let x = mul-lt-mul_of_pos_right a L in
    let y = mul-lt-mul_of_pos_right b L in
    let v = add-mul h p l in
    let w = add-mul (2 * q * p) p l in
    closest-is (h * l) (2 * l * p) q (mul-pos (mul-pos (zero-lt-suc 1) L) P) (omega arith) (omega arith)

nearest-root :
    (A q j : ℕ) → NearRoot A q → closest (halves (A * 2 ^ suc j * 2 ^ suc j) * 2 ^ 1074) (2 * 2 ^ 1074 * 2 ^ suc j) ≡ q
nearest-root A q j N =
    by-scale (halves (A * 2 ^ suc j * 2 ^ suc j)) (2 ^ suc j) (2 ^ 1074) q (pow_pos (suc j)) (pow_pos 1074) lo
    (odd-below A q j N.high)
  where
    e : q ≡ q - 1 + 1
    e = prev q N.least

    lo : 2 * q * 2 ^ suc j < halves (A * 2 ^ suc j * 2 ^ suc j) + 2 ^ suc j
    lo =
        subst (λ (z : ℕ). 2 * z * 2 ^ suc j < halves (A * 2 ^ suc j * 2 ^ suc j) + 2 ^ suc j) (sym e)
        (odd-above A (q - 1) j (subst (λ (z : ℕ). z * z < A + z) e N.low))

dropped : (j z : ℕ) → z ≡ suc (52 + suc j) → z - 53 ≡ suc j
dropped j z e = omega arith

cut : (h l : ℕ) → 0 < l → h * l / (2 * l) ≡ h / 2
cut h l L = mul-div-mul_right h 2 L

pub root-rounds :
    (A q j : ℕ) → NearRoot A q →
    round binary64 false (halves (A * 2 ^ suc j * 2 ^ suc j)) (2 * 2 ^ 1074) ≡ units binary64 false q (suc j)
root-rounds A q j N =
    let H = halves (A * 2 ^ suc j * 2 ^ suc j) in
    let k : size (H * 2 ^ 1074 / (2 * 2 ^ 1074)) - 53 ≡ suc j =
    dropped j (size (H * 2 ^ 1074 / (2 * 2 ^ 1074)))
    (ap size (cut H (2 ^ 1074) (pow_pos 1074)) ∙ root-size A (suc j) N.large N.small) in
    round_is binary64 false H (2 * 2 ^ 1074)
    ∙ ap (λ (z : ℕ). units binary64 false (closest (H * 2 ^ 1074) (2 * 2 ^ 1074 * 2 ^ z)) z) k
    ∙ ap (λ (z : ℕ). units binary64 false z (suc j)) (nearest-root A q j N)

-- ---- its bit pattern
size-53 : (q k : ℕ) → 2 ^ 52 ≤ q → q < 2 ^ 53 → size (q * 2 ^ k) - 53 ≡ k
size-53 q k lo hi =
    let z = size_is (q * 2 ^ k) (52 + k)
    (subst (λ (x : ℕ). x ≤ q * 2 ^ k) (sym (pow-add 2 52 k)) (mul-le-mul_right (2 ^ k) lo))
    (subst (λ (x : ℕ). q * 2 ^ k < 2 ^ x) (suc-add 52 k) (shl_lt 53 k hi)) in
    omega arith

pattern :
    (m : ℕ) (e : ℤ) (q k : ℕ) → m * up e * 2 ^ 1074 ≡ q * 2 ^ k * down e → 2 ^ 52 ≤ q → q < 2 ^ 53 →
    to_bits binary64 (fin false m e) ≡ k * 2 ^ 52 + q
unfolding to_bits
pattern m e q k h lo hi =
    let n : m * up e * 2 ^ 1074 / down e ≡ q * 2 ^ k =
    ap (λ (x : ℕ). x / down e) h
    ∙ mul-div_cancel (q * 2 ^ k) (down_pos e) in
    ap (λ (x : ℕ). 0 + (size x - 53) * 2 ^ 52 + x / 2 ^ (size x - 53)) n
    ∙ ap (λ (x : ℕ). 0 + x * 2 ^ 52 + q * 2 ^ k / 2 ^ x) (size-53 q k lo hi)
    ∙ ap (λ (x : ℕ). 0 + k * 2 ^ 52 + x) (mul-div_cancel q (pow_pos k))
    ∙ ap (λ (x : ℕ). x + q) (zero-add (k * 2 ^ 52))

pub bits_of_value :
    (r : Float) (q k : ℕ) → HasValue r false (q * 2 ^ k) (2 ^ 1074) → 2 ^ 52 ≤ q → q < 2 ^ 53 →
    to_bits binary64 r ≡ k * 2 ^ 52 + q
bits_of_value nan q k v lo hi = absurd v
bits_of_value (inf s) q k v lo hi = absurd v
bits_of_value (fin true m e) q k v lo hi = absurd (true≢false v.0)
bits_of_value (fin false m e) q k v lo hi = pattern m e q k v.1 lo hi

-- ---- the root as a value, and from its pattern
pub root-value :
    (A q j : ℕ) → NearRoot A q → j < 1600 →
    HasValue (round binary64 false (halves (A * 2 ^ suc j * 2 ^ suc j)) (2 * 2 ^ 1074)) false (q * 2 ^ suc j) (2 ^ 1074)
root-value A q j N J =
    subst (λ (z : Float). HasValue z false (q * 2 ^ suc j) (2 ^ 1074)) (sym (root-rounds A q j N))
    (units_val binary64 false q (suc j) (lt_of_lt_of_le (shl_lt 53 (suc j) N.most) (pow_mono (room j J))))
  where
    room : (j : ℕ) → j < 1600 → 53 + suc j ≤ 2098
    room j h = omega arith

pub root-of-pattern :
    (A q j : ℕ) → NearRoot A q → j < 1600 →
    of_bits binary64 (suc j * 2 ^ 52 + q) ≡ round binary64 false (halves (A * 2 ^ suc j * 2 ^ suc j)) (2 * 2 ^ 1074)
root-of-pattern A q j N J =
    let R = round binary64 false (halves (A * 2 ^ suc j * 2 ^ suc j)) (2 * 2 ^ 1074) in
    ap (of_bits binary64) (sym (bits_of_value R q (suc j) (root-value A q j N J) N.least N.most))
    ∙ of_bits-to_bits binary64 R (round-fits binary64 false (halves (A * 2 ^ suc j * 2 ^ suc j)) (2 * 2 ^ 1074))
