-- Whole-number squares and roots: what `whole_root` and `halves` are. Assumes nothing.
-- Holds: sq-one, sq-two, sq-back, sq-lt, sq-back-le, IsWhole, whole-root, the-root, RootKind, half-root, halves-above,
--   halves-below, halves-square, halves-mono
use mathlib.Core.Path.{◌≡◌, refl, sym, ap, ◌∙◌, subst}
use mathlib.Core.Logic.{◌⊎◌, inl, inr}
use mathlib.Core.Bool.{Bool, true, false, cond, not}
use Prim.Native.Nat.{ℕ, zero, suc, ◌+◌, ◌*◌, ◌/◌, ◌^◌, ◌≤◌, ◌<◌}
use native.Mathlib.Nat.{le_of_eq, le_of_lt, lt_of_lt_of_le, lt_of_le_of_lt, lt_of_not-le, not-le_of_lt, le_of_suc-le-suc, mul-le-mul, mul-add, add-mul, mul-one, one-mul, mul_assoc, mul_left_comm, pow-suc, pow-le-pow_left, div-lt_iff_lt-mul, zero-lt-suc, eq-or-lt_of_le}
use native.Mathlib.Omega.{arith}
use lib.Dec.{T, leb, eqb, leb→le, nleb→lt, eqb→eq, lit≤}
use lib.Arith.{lt_of_le-ne}
use lib.Ieee.{size}
use lib.Ieee.Fits.{eq→eqb}
use lib.Ieee.Digits.{size-lt}
use Rattle.definition.specs.Number.{digit, whole_root, between, halves}

-- ---- squares
pub sq-one : (a : ℕ) → (a + 1) * (a + 1) ≡ a * a + 2 * a + 1
sq-one a = simp (mul-add, add-mul, mul-one, one-mul) (omega arith)

pub sq-two : (a : ℕ) → 2 * a * (2 * a) ≡ 4 * (a * a)
sq-two a = mul_assoc 2 a (2 * a) ∙ ap (λ (z : ℕ). 2 * z) (mul_left_comm a 2 a) ∙ sym (mul_assoc 2 2 (a * a))

-- of two squares the larger has the larger root
pub sq-back : (a b : ℕ) → a * a < b * b → a < b
sq-back a b h = lt_of_not-le (λ (g : b ≤ a). not-le_of_lt h (mul-le-mul g g))

pub sq-lt : (a b : ℕ) → a < b → a * a < b * b
sq-lt a b h =
    let g : a + 1 ≤ b = omega arith in
    let k = mul-le-mul g g in
    let e = sq-one a in
    omega arith

pub sq-back-le : (a b : ℕ) → a * a ≤ b * b → a ≤ b
sq-back-le a b h = le_of_suc-le-suc (lt_of_not-le (λ (g : suc b ≤ a). not-le_of_lt (sq-lt b a g) h))

abbrev pub IsWhole : ℕ → ℕ → Type 0
IsWhole s n = (s * s ≤ n) × (n < (s + 1) * (s + 1))

step : (r n : ℕ) → IsWhole r (n / 4) → IsWhole (digit (2 * r) n) n
step r n h =
    go (leb ((2 * r + 1) * (2 * r + 1)) n) (leb→le ((2 * r + 1) * (2 * r + 1)) n) (nleb→lt ((2 * r + 1) * (2 * r + 1)) n)
  where
    low : 2 * r * (2 * r) ≤ n
    low = let e = sq-two r in let f = h.0 in omega arith

    high : n < (2 * r + 1 + 1) * (2 * r + 1 + 1)
    high =
        let e = sq-two r in
        let f : n / 4 < r * r + 2 * r + 1 = subst (λ (z : ℕ). n / 4 < z) (sq-one r) h.1 in
        let g = sq-one (2 * r) in
        let k = sq-one (2 * r + 1) in
        omega arith

    go :
        (b : Bool) → (T b → (2 * r + 1) * (2 * r + 1) ≤ n) → (T (not b) → n < (2 * r + 1) * (2 * r + 1)) →
        IsWhole (cond b (2 * r + 1) (2 * r)) n
    go true p q = (p tt, high)
    go false p q = (low, q tt)

none : (n : ℕ) → n < 1 → IsWhole 0 n
none n h = (omega arith, omega arith)

pub whole-root : (d n : ℕ) → n < 4 ^ d → IsWhole (whole_root d n) n
unfolding whole_root
whole-root zero n h = none n h
whole-root (suc d) n h =
    step (whole_root d (n / 4)) n
    (whole-root d (n / 4) ((div-lt_iff_lt-mul (zero-lt-suc 3)).1 (subst (λ (x : ℕ). n < x) (pow-suc 4 d) h)))

pub the-root : (n : ℕ) → IsWhole (whole_root (size n) n) n
the-root n = whole-root (size n) n (lt_of_lt_of_le (size-lt n) (pow-le-pow_left (lit≤ tt) (size n)))

-- ---- `halves n` compares with an even number 2 * c as n compares with c * c
abbrev pub RootKind : ℕ → ℕ → ℕ → Type 0
RootKind s n h = ((s * s ≡ n) × (h ≡ 2 * s)) ⊎ ((s * s < n) × (h ≡ 2 * s + 1))

the-halves : (s n : ℕ) → IsWhole s n → RootKind s n (between s n)
the-halves s n w = go (eqb (s * s) n) (eqb→eq (s * s) n) (λ (e : s * s ≡ n). eq→eqb e)
  where
    go : (b : Bool) → (T b → s * s ≡ n) → (s * s ≡ n → T b) → RootKind s n (cond b (2 * s) (2 * s + 1))
    go true p q = inl (p tt, refl)
    go false p q = inr (lt_of_le-ne w.0 q, refl)

halves-is : (n : ℕ) → halves n ≡ between (whole_root (size n) n) n
unfolding halves
halves-is n = refl

-- the whole root, with what `halves` is by it
pub half-root : (n : ℕ) → (s : ℕ) × IsWhole s n × (RootKind s n (halves n))
half-root n =
    let s = whole_root (size n) n in
    (s, the-root n, rw halves-is (the-halves s n (the-root n)))

pub halves-above : (n c : ℕ) → c * c < n → 2 * c < halves n
halves-above n c h =
    let r = half-root n in
    let s = r.0 in
    let k : c < s + 1 = sq-back c (s + 1) (lt_of_lt_of_le h (le_of_lt r.1.1)) in
    go s k r.2
  where
    go : (s : ℕ) → c < s + 1 → RootKind s n (halves n) → 2 * c < halves n
    go s k (inl e) =
        let l : c < s = sq-back c s (lt_of_lt_of_le h (le_of_eq (sym e.0))) in
        omega arith
    go s k (inr e) = omega arith

pub halves-below : (n c : ℕ) → n < c * c → halves n < 2 * c
halves-below n c h =
    let r = half-root n in
    go r.0 (sq-back r.0 c (lt_of_le_of_lt r.1.0 h)) r.2
  where
    go : (s : ℕ) → s < c → RootKind s n (halves n) → halves n < 2 * c
    go s k (inl e) = omega arith
    go s k (inr e) = omega arith

pub halves-square : (n c : ℕ) → c * c ≡ n → halves n ≡ 2 * c
halves-square n c e =
    let r = half-root n in
    go r.0 r.1 r.2
  where
    go : (s : ℕ) → IsWhole s n → RootKind s n (halves n) → halves n ≡ 2 * c
    go s w (inl p) =
        let x : s ≤ c = sq-back-le s c (le_of_eq (p.0 ∙ sym e)) in
        let y : c ≤ s = sq-back-le c s (le_of_eq (e ∙ sym p.0)) in
        omega arith
    go s w (inr p) =
        let x : s < c = sq-back s c (lt_of_lt_of_le p.0 (le_of_eq (sym e))) in
        let y : c < s + 1 = sq-back c (s + 1) (lt_of_le_of_lt (le_of_eq e) w.1) in
        absurd (no s c x y)
      where
        no : (s c : ℕ) → s < c → c < s + 1 → ⊥
        no s c x y = omega arith

pub halves-mono : (m n : ℕ) → m ≤ n → halves m ≤ halves n
halves-mono m n h =
    let r = half-root m in
    go r.0 r.1 r.2
  where
    go : (s : ℕ) → IsWhole s m → RootKind s m (halves m) → halves m ≤ halves n
    go s w (inl p) = elim (eq-or-lt_of_le h) [
      | inl e ↦ le_of_eq (ap halves e)
      | inr l ↦ let k = halves-above n s (lt_of_le_of_lt (le_of_eq p.0) l) in omega arith
    ]
    go s w (inr p) = let k = halves-above n s (lt_of_lt_of_le p.0 h) in omega arith
