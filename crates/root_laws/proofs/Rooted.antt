-- The root of a finite value above zero is q * 2 ^ K units, for the whole number q nearest to the root of A, where the
-- value is A * 4 ^ K in units of 2 ^ -2148. Assumes nothing.
use mathlib.Core.Path.{◌≡◌, refl, sym, ap, ◌∙◌, subst}
use mathlib.Core.Bool.{false}
use mathlib.Core.Logic.{◌⊎◌, inl, inr}
use Prim.Native.Nat.{ℕ, zero, suc, ◌-◌, ◌*◌, ◌/◌, ◌%◌, ◌^◌, ◌≤◌, ◌<◌}
use native.Mathlib.Nat.{lt_irrefl, eq-zero-or-pos}
use native.Mathlib.Omega.{arith}
use lib.Dec.{T}
use lib.IntN.{ℤ}
use lib.Ieee.{Float, fin, binary64, fits, round, to_bits}
use lib.Ieee.Exact.{HasValue}
use Rattle.definition.specs.Number.{halves, units_of, root_of_units, square_root_lem}
use Rattle.root_laws.specs.Steps.{Leading, NearRoot, bit_units}
use Rattle.root_laws.proofs.Rounding.{root-value}
use Rattle.root_laws.proofs.Patterns.{read}
use Rattle.root_laws.proofs.Digits.{lead-any}
use Rattle.root_laws.proofs.Scaling.{root_is, odd-split, even-split, near-any}

pub record Rooted (u : ℕ) : Type 0 where
  pub A : ℕ
  pub q : ℕ
  pub j : ℕ
  pub near : NearRoot A q
  pub split : u * 2 ^ 1074 ≡ A * 2 ^ suc j * 2 ^ suc j
  pub value : HasValue (root_of_units u) false (q * 2 ^ suc j) (2 ^ 1074)

rooted-by :
    (u n q k : ℕ) → u * 2 ^ 1074 ≡ n * 2 ^ 52 * 2 ^ k * 2 ^ k → NearRoot (n * 2 ^ 52) q → 1 ≤ k → k ≤ 1600 → Rooted u
rooted-by u n q zero s N a b = absurd (lt_irrefl 0 a)
rooted-by u n q (suc j) s N a b = record {
  A = n * 2 ^ 52;
  q = q;
  j = j;
  near = N;
  split = s;
  value =
      subst (λ (z : Float). HasValue z false (q * 2 ^ suc j) (2 ^ 1074))
      (sym (root_is u ∙ ap (λ (x : ℕ). round binary64 false (halves x) (2 * 2 ^ 1074)) s))
      (root-value (n * 2 ^ 52) q j N b);
}

parity : (e : ℕ) → (e % 2 ≡ 1) ⊎ (e % 2 ≡ 1 → ⊥)
parity e = elim (eq-zero-or-pos (e % 2)) [ inl z ↦ inr (λ (o : e % 2 ≡ 1). no (e % 2) z o) | inr p ↦ inl (one e p) ]
  where
    no : (x : ℕ) → x ≡ 0 → x ≡ 1 → ⊥
    no x a b = omega arith

    one : (e : ℕ) → 0 < e % 2 → e % 2 ≡ 1
    one e p = omega arith

by-lead : (b m e : ℕ) → Leading b m e → Rooted (bit_units b)
by-lead b m e L =
    let a = L.least in
    let z = L.most in
    let x = L.low in
    let y = L.high in
    elim (parity e) [
      | inl o ↦
          let N = near-any (m * 2) (omega arith) (omega arith) in rooted-by (bit_units b) (m * 2) N.0 (e / 2 - 26)
          (L.size ∙ odd-split m e a o) N.1 (omega arith) (omega arith)
      | inr o ↦
          let N = near-any m (omega arith) (omega arith) in rooted-by (bit_units b) m N.0 (e / 2 - 26)
          (L.size ∙ even-split m e a o) N.1 (omega arith) (omega arith)
    ]

pub rooted : (m : ℕ) (e : ℤ) → T (fits binary64 (fin false (suc m) e)) → Rooted (units_of (fin false (suc m) e))
rooted m e h =
    let r = read m e h in
    let l = lead-any (to_bits binary64 (fin false (suc m) e)) r.positive r.below in
    subst Rooted (sym r.size) (by-lead (to_bits binary64 (fin false (suc m) e)) l.0 l.1 l.2)

pub value-is : (m : ℕ) (e : ℤ) → square_root_lem (fin false (suc m) e) ≡ root_of_units (units_of (fin false (suc m) e))
unfolding square_root_lem
value-is m e = refl
