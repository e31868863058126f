-- A value's size m * 2 ^ e, in units of 2 ^ -2148, as a whole number n * 2 ^ 52 times a power of four: what the root is
-- taken of. Assumes nothing.
-- Holds: even-split, odd-split, root_is, near-any
use mathlib.Core.Path.{◌≡◌, refl, sym, ap, ◌∙◌}
use mathlib.Core.Bool.{false}
use mathlib.Core.Logic.{◌⊎◌, inl, inr}
use Prim.Native.Nat.{ℕ, suc, ◌+◌, ◌-◌, ◌*◌, ◌/◌, ◌%◌, ◌^◌, ◌≤◌, ◌<◌}
use native.Mathlib.Nat.{mul_assoc, mul-le-mul, lt_of_le_of_lt, pow-succ', lt_of_not-le}
use native.Mathlib.Omega.{arith}
use lib.Pow.{pow-add}
use lib.Ieee.{binary64, round, size}
use Rattle.lists.proofs.Tests.{le-or-lt}
use Rattle.definition.specs.Number.{halves, root_of_units, whole_root}
use Rattle.root_laws.proofs.Squares.{IsWhole, the-root, sq-one, sq-back}
use Rattle.root_laws.specs.Steps.{NearRoot}

-- ---- an even power of two
half-power : (h : ℕ) → 26 ≤ h → 2 ^ (h + h) ≡ 2 ^ 52 * 2 ^ (h - 26) * 2 ^ (h - 26)
half-power h l =
    let j = h - 26 in
    let p = 2 ^ j in
    ap (λ (x : ℕ). 2 ^ x) (regroup h l) ∙ pow-add 2 (52 + j) j ∙ ap (λ (x : ℕ). x * p) (pow-add 2 52 j)
  where
    regroup : (h : ℕ) → 26 ≤ h → h + h ≡ 52 + (h - 26) + (h - 26)
    regroup h l = omega arith

into : (n a p : ℕ) → n * (a * p * p) ≡ n * a * p * p
into n a p = sym (mul_assoc n (a * p) p) ∙ ap (λ (x : ℕ). x * p) (sym (mul_assoc n a p))

pub even-split : (m e : ℕ) → 1000 ≤ e → (e % 2 ≡ 1 → ⊥) → m * 2 ^ e ≡ m * 2 ^ 52 * 2 ^ (e / 2 - 26) * 2 ^ (e / 2 - 26)
even-split m e l o =
    let h : e ≡ e / 2 + e / 2 = omega arith in
    ap (λ (x : ℕ). m * x) (ap (λ (x : ℕ). 2 ^ x) h ∙ half-power (e / 2) (omega arith)) ∙ into m (2 ^ 52) (2 ^ (e / 2 - 26))

pub odd-split : (m e : ℕ) → 1000 ≤ e → e % 2 ≡ 1 → m * 2 ^ e ≡ m * 2 * 2 ^ 52 * 2 ^ (e / 2 - 26) * 2 ^ (e / 2 - 26)
odd-split m e l o =
    let h : e ≡ suc (e / 2 + e / 2) = omega arith in
    ap (λ (x : ℕ). m * x)
    (ap (λ (x : ℕ). 2 ^ x) h ∙ pow-succ' 2 (e / 2 + e / 2) ∙ ap (λ (x : ℕ). 2 * x) (half-power (e / 2) (omega arith)))
    ∙ sym (mul_assoc m 2 (2 ^ 52 * 2 ^ (e / 2 - 26) * 2 ^ (e / 2 - 26)))
    ∙ into (m * 2) (2 ^ 52) (2 ^ (e / 2 - 26))

pub root_is : (u : ℕ) → root_of_units u ≡ round binary64 false (halves (u * 2 ^ 1074)) (2 * 2 ^ 1074)
unfolding root_of_units
root_is u = refl

-- ---- a number n of 53 or 54 digits has a nearest root of 53
near_by :
    (A s : ℕ) → IsWhole s A → 2 ^ 52 * 2 ^ 52 ≤ A → A ≤ 2 ^ 53 * 2 ^ 53 - 2 ^ 53 → (A ≤ s * s + s) ⊎ (s * s + s < A) →
    (q : ℕ) × NearRoot A q
near_by A s w lo hi k =
    let a : 2 ^ 52 < s + 1 = sq-back (2 ^ 52) (s + 1) (lt_of_le_of_lt lo w.1) in
    let small : A < 2 ^ 53 * 2 ^ 53 = omega arith in
    let b : s < 2 ^ 53 = sq-back s (2 ^ 53) (lt_of_le_of_lt w.0 small) in
    elim k [
      | inl h ↦ (s, record { low = low s w.0 a; high = h; least = omega arith; most = b; large = lo; small = small })
      | inr h ↦ (
        s + 1,
        record {
          low = up s (sq-one s) h;
          high = over (s + 1) w.1;
          least = omega arith;
          most = lt_of_not-le (λ (g : 2 ^ 53 ≤ s + 1). far s (omega arith) h);
          large = lo;
          small = small;
        },
      )
    ]
  where
    low : (s : ℕ) → s * s ≤ A → 2 ^ 52 < s + 1 → s * s < A + s
    low s h g = omega arith

    up : (s : ℕ) → (s + 1) * (s + 1) ≡ s * s + 2 * s + 1 → s * s + s < A → (s + 1) * (s + 1) < A + (s + 1)
    up s e h = omega arith

    over : (t : ℕ) → A < t * t → A ≤ t * t + t
    over t h = omega arith

    far : (s : ℕ) → 2 ^ 53 - 1 ≤ s → s * s + s < A → ⊥
    far s g h = let k : (2 ^ 53 - 1) * (2 ^ 53 - 1) ≤ s * s = mul-le-mul g g in omega arith

pub near-any : (n : ℕ) → 2 ^ 52 ≤ n → n + 2 ≤ 2 ^ 54 → (q : ℕ) × NearRoot (n * 2 ^ 52) q
near-any n lo hi =
    let s = whole_root (size (n * 2 ^ 52)) (n * 2 ^ 52) in
    near_by (n * 2 ^ 52) s (the-root (n * 2 ^ 52)) (omega arith) (omega arith) (le-or-lt (n * 2 ^ 52) (s * s + s))
