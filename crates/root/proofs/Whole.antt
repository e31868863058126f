-- The root of a finite value above zero, from its bit pattern. Assumes nothing.
use mathlib.Core.Path.{◌≡◌, sym, ap, ◌∙◌, subst}
use Prim.Native.Nat.{ℕ, suc, ◌+◌, ◌-◌, ◌*◌, ◌/◌, ◌^◌, ◌≤◌, ◌<◌}
use native.Mathlib.Omega.{arith}
use mathlib.Core.Bool.{false}
use lib.Dec.{T}
use lib.Ieee.{Float, binary64, fits, round, of_bits, to_bits}
use Rattle.definition.specs.Number.{halves, root_of_units, square_root_lem}
use Rattle.root_laws.specs.Steps.{Leading, NearRoot, RootBits, bit_units}
use Rattle.root_laws.proofs.Rounding.{root-of-pattern}
use Rattle.root_laws.proofs.Scaling.{root_is}
use Rattle.root_laws.proofs.Rooted.{value-is}
use Rattle.root_laws.proofs.Patterns.{read}
use Rattle.root.proofs.Cases.{FiniteCase}

-- the pattern, from the nearest whole root of the significand
pub whole-rooted :
    (b m e n q : ℕ) → Leading b m e → m * 2 ^ e ≡ n * 2 ^ 52 * 2 ^ (e / 2 - 26) * 2 ^ (e / 2 - 26) →
    NearRoot (n * 2 ^ 52) q → RootBits b ((e / 2 - 26) * 2 ^ 52 + q)
whole-rooted b m e n q L s N =
    let j = e / 2 - 27 in
    let a = L.least in
    let z = L.most in
    let k : e / 2 - 26 ≡ suc j = step e a in
    record {
      below = small e q L.most N.most;
      value =
          ap (λ (x : ℕ). of_bits binary64 (x * 2 ^ 52 + q)) k
          ∙ root-of-pattern (n * 2 ^ 52) q j N (far e L.most)
          ∙ ap (λ (x : ℕ). round binary64 false (halves (n * 2 ^ 52 * 2 ^ x * 2 ^ x)) (2 * 2 ^ 1074)) (sym k)
          ∙ ap (λ (x : ℕ). round binary64 false (halves x) (2 * 2 ^ 1074)) (sym (L.size ∙ s))
          ∙ sym (root_is (bit_units b));
    }
  where
    step : (e : ℕ) → 1000 ≤ e → e / 2 - 26 ≡ suc (e / 2 - 27)
    step e l = omega arith

    small : (e q : ℕ) → e ≤ 3200 → q < 2 ^ 53 → (e / 2 - 26) * 2 ^ 52 + q < 2047 * 2 ^ 52
    small e q l h = omega arith

    far : (e : ℕ) → e ≤ 3200 → e / 2 - 27 < 1600
    far e l = omega arith

-- its pattern is one that `root_bits` takes, and the pattern that comes back is the root's
pub finite-bits :
    (x : Float) → FiniteCase x → T (fits binary64 x) → (0 < to_bits binary64 x) × (to_bits binary64 x < 2047 * 2 ^ 52)
finite-bits x F h =
    subst (λ (y : Float). (0 < to_bits binary64 y) × (to_bits binary64 y < 2047 * 2 ^ 52)) (sym F.is)
    (let r = read F.m F.e (subst (λ (y : Float). T (fits binary64 y)) F.is h) in (r.positive, r.below))

pub finite-root :
    (x : Float) (r : ℕ) → FiniteCase x → T (fits binary64 x) → RootBits (to_bits binary64 x) r → of_bits binary64 r ≡ square_root_lem x
finite-root x r F h b =
    let z = read F.m F.e (subst (λ (y : Float). T (fits binary64 y)) F.is h) in
    b.value
    ∙ ap (λ (w : Float). root_of_units (bit_units (to_bits binary64 w))) F.is
    ∙ ap root_of_units (sym z.size)
    ∙ sym (value-is F.m F.e)
    ∙ ap square_root_lem (sym F.is)
