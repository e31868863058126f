-- The cases of `root`, by its tests: NaN, a number below zero, a zero, the infinity, and a finite number above zero.
-- Assumes nothing.
-- Holds: nan-nan, negative-nan, zero-itself, FiniteCase, finite-left, infinite-itself
use mathlib.Core.Path.{◌≡◌, refl, sym, ap, ◌∙◌}
use mathlib.Core.Bool.{Bool, true, false, ◌&&◌, ◌||◌, beq, true≢false, false≢true}
use Prim.Native.Nat.{ℕ, zero, suc, ◌+◌, ◌*◌, ◌<◌}
use native.Mathlib.Nat.{zero-mul}
use native.Mathlib.Omega.{arith}
use borrow.Author.Tests.{ltb-true, eqb-true}
use lib.Dec.{eqb}
use lib.IntN.{ℤ}
use lib.Ieee.{Float, nan, inf, fin, up, down, lt, eq, of_bits, is_nan}
use Rattle.lists.proofs.Tests.{and-fst}
use Rattle.definition.specs.Number.{square_root_lem, plus_zero}
use Rattle.root_laws.proofs.Refusal.{zero-size, above_zero, negative-below}

not-below-zero : (a : ℕ) (e : ℤ) → a < 0 * down e → ⊥
not-below-zero a e h = let z = zero-mul (down e) in omega arith

-- ---- NaN, and numbers below zero
pub nan-nan : (x : Float) → is_nan x ≡ true → nan ≡ square_root_lem x
unfolding is_nan square_root_lem
nan-nan nan h = refl
nan-nan (inf s) h = absurd (false≢true h)
nan-nan (fin s m e) h = absurd (false≢true h)

pub negative-nan : (x : Float) → lt x plus_zero ≡ true → nan ≡ square_root_lem x
unfolding lt of_bits square_root_lem
negative-nan nan h = absurd (false≢true h)
negative-nan (inf true) h = refl
negative-nan (inf false) h = absurd (false≢true h)
negative-nan (fin false m e) h = absurd (not-below-zero (m * up e * 1) e (ltb-true (m * up e * 1) (0 * down e) h))
negative-nan (fin true zero e) h =
    absurd (none (0 * up e * 1) (0 * down e) (zero-size e) (zero-mul (down e)) (ltb-true 0 (0 * up e * 1 + 0 * down e) h))
  where
    none : (a b : ℕ) → a ≡ 0 → b ≡ 0 → 0 < a + b → ⊥
    none a b p q k = omega arith
negative-nan (fin true (suc m) e) h = refl

-- ---- zeros
pub zero-itself : (x : Float) → eq x plus_zero ≡ true → x ≡ square_root_lem x
unfolding eq of_bits square_root_lem
zero-itself nan h = absurd (false≢true h)
zero-itself (inf s) h = absurd (false≢true h)
zero-itself (fin s zero e) h = refl
zero-itself (fin s (suc m) e) h =
    absurd
    (clash (suc m * up e * 1) (0 * down e) (above_zero m e) (zero-mul (down e)) (eqb-true (suc m * up e * 1) (0 * down e) (and-fst (eqb (suc m * up e * 1) (0 * down e)) (beq s false || eqb (suc m * up e * 1) 0) h)))
  where
    clash : (a b : ℕ) → 0 < a → b ≡ 0 → a ≡ b → ⊥
    clash a b p q r = omega arith

-- ---- what is left
zero-equals : (s : Bool) (e : ℤ) → eq (fin s zero e) plus_zero ≡ true
unfolding eq of_bits
zero-equals s e =
    ap (λ (a : ℕ). eqb a (0 * down e) && (beq s false || eqb a 0)) (zero-size e)
    ∙ ap (λ (b : ℕ). eqb 0 b && (beq s false || eqb 0 0)) (zero-mul (down e))
    ∙ go s
  where
    go : (s : Bool) → (true && (beq s false || true)) ≡ true
    go true = refl
    go false = refl

-- a finite number above zero, with its parts
pub record FiniteCase (x : Float) : Type 0 where
  pub m : ℕ
  pub e : ℤ
  pub is : x ≡ fin false (suc m) e

-- a number that is not negative, no NaN, no zero and not the infinity
pub finite-left : (x : Float) → lt x plus_zero ≡ false → is_nan x ≡ false → eq x plus_zero ≡ false → eq x (inf false) ≡ false → FiniteCase x
unfolding lt eq of_bits is_nan
finite-left nan p n q r = absurd (true≢false n)
finite-left (inf true) p n q r = absurd (true≢false p)
finite-left (inf false) p n q r = absurd (true≢false r)
finite-left (fin s zero e) p n q r = absurd (true≢false (sym (zero-equals s e) ∙ q))
finite-left (fin true (suc m) e) p n q r = absurd (true≢false (sym (negative-below m e) ∙ p))
finite-left (fin false (suc m) e) p n q r = record { m = m; e = e; is = refl }

-- the infinity
pub infinite-itself : (x : Float) → eq x (inf false) ≡ true → x ≡ square_root_lem x
unfolding eq square_root_lem
infinite-itself nan r = absurd (false≢true r)
infinite-itself (inf true) r = absurd (false≢true r)
infinite-itself (inf false) r = refl
infinite-itself (fin s m e) r = absurd (false≢true r)
