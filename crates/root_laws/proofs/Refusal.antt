-- The refusal of a root: the values that it leaves are those that have a root. Assumes nothing.
-- Holds: zero-size, above_zero, negative-below, refused-test, root-refused, root-accepted, accepted-has-root, good-accepted
use mathlib.Core.Path.{◌≡◌, refl, sym, ap, ◌∙◌, subst}
use mathlib.Core.Bool.{Bool, true, false, not, ◌||◌, cond}
use Prim.Native.Nat.{ℕ, zero, suc, ◌+◌, ◌*◌, ◌≤◌, ◌<◌}
use native.Mathlib.Nat.{zero-mul, mul-one, mul-pos, zero-lt-suc}
use native.Mathlib.Omega.{arith}
use borrow.Author.Tests.{lt-ltb, le-ltb}
use lib.Dec.{T}
use lib.IntN.{ℤ}
use lib.Ieee.{Float, nan, inf, fin, up, down, lt, is_nan, of_bits}
use lib.Ieee.Fits.{up_pos}
use Rattle.definition.specs.Number.{plus_zero}
use Rattle.definition.specs.Refusals.{Verdict, accepted, refused, verdict, root_verdict}
use Rattle.root_laws.specs.Sorts.{has_root, good}
use Rattle.root_laws.proofs.Order.{GoodFloat, top, num, view}

-- ---- numbers against +0
pub zero-size : (e : ℤ) → 0 * up e * 1 ≡ 0
zero-size e = mul-one (0 * up e) ∙ zero-mul (up e)

pub above_zero : (m : ℕ) (e : ℤ) → 0 < suc m * up e * 1
above_zero m e = subst (λ (x : ℕ). 0 < x) (sym (mul-one (suc m * up e))) (mul-pos (zero-lt-suc m) (up_pos e))

not-below : (m : ℕ) (e : ℤ) → lt (fin false m e) plus_zero ≡ false
unfolding lt of_bits
not-below m e = le-ltb (m * up e * 1) (0 * down e) (least (m * up e * 1) (0 * down e) (zero-mul (down e)))
  where
    least : (a b : ℕ) → b ≡ 0 → b ≤ a
    least a b h = omega arith

minus-zero : (e : ℤ) → lt (fin true zero e) plus_zero ≡ false
unfolding lt of_bits
minus-zero e =
    le-ltb 0 (0 * up e * 1 + 0 * down e) (none (0 * up e * 1) (0 * down e) (zero-size e) (zero-mul (down e)))
  where
    none : (a b : ℕ) → a ≡ 0 → b ≡ 0 → a + b ≤ 0
    none a b p q = omega arith

pub negative-below : (m : ℕ) (e : ℤ) → lt (fin true (suc m) e) plus_zero ≡ true
unfolding lt of_bits
negative-below m e =
    lt-ltb 0 (suc m * up e * 1 + 0 * down e) (big (suc m * up e * 1) (0 * down e) (above_zero m e))
  where
    big : (a b : ℕ) → 0 < a → 0 < a + b
    big a b h = omega arith

-- ---- the test of the refusal
pub refused-test : (x : Float) → (is_nan x || lt x plus_zero) ≡ not (has_root x)
unfolding is_nan
refused-test nan = refl
refused-test (inf true) = unfold lt of_bits in refl
refused-test (inf false) = unfold lt of_bits in refl
refused-test (fin true zero e) = minus-zero e
refused-test (fin false zero e) = not-below zero e
refused-test (fin true (suc m) e) = negative-below m e
refused-test (fin false (suc m) e) = not-below (suc m) e

abbrev by_test : Bool → Verdict
by_test true = refused (record { number = 15; place = 0 })
by_test false = accepted

root-verdict : (x : Float) → root_verdict x ≡ by_test (not (has_root x))
unfolding root_verdict verdict
root-verdict x = go (is_nan x || lt x plus_zero) (not (has_root x)) (refused-test x)
  where
    go : (a b : Bool) → a ≡ b → cond a (refused (record { number = 15; place = 0 })) accepted ≡ by_test b
    go true b e = ap by_test e
    go false b e = ap by_test e

-- the root is refused where x has none, and otherwise not
pub root-refused : (x : Float) → has_root x ≡ false → root_verdict x ≡ refused (record { number = 15; place = 0 })
root-refused x h = root-verdict x ∙ ap (λ (t : Bool). by_test (not t)) h

pub root-accepted : (x : Float) → has_root x ≡ true → root_verdict x ≡ accepted
root-accepted x h = root-verdict x ∙ ap (λ (t : Bool). by_test (not t)) h

pub accepted-has-root : (x : Float) → root_verdict x ≡ accepted → T (has_root x)
accepted-has-root x h = go (has_root x) (sym (root-verdict x) ∙ h)
  where
    go : (t : Bool) → by_test (not t) ≡ accepted → T t
    go true e = tt
    go false e = let z : ◌≡◌ {A = ℕ} 0 1 = cc in absurd (no z)
      where
        no : ◌≡◌ {A = ℕ} 0 1 → ⊥
        no z = omega arith

good-root : {x : Float} → GoodFloat x → has_root x ≡ true
good-root top = refl
good-root (num zero e) = refl
good-root (num (suc m) e) = refl

-- a value that is not negative is accepted
pub good-accepted : (x : Float) → good x ≡ true → root_verdict x ≡ accepted
good-accepted x g = root-accepted x (good-root (view x g))
