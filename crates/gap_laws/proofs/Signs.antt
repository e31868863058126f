-- The square of a rounded difference, by the size of the exact one: its sign is not seen. Assumes nothing.
use mathlib.Core.Path.{◌≡◌, refl, sym, ap, ◌∙◌}
use mathlib.Core.Bool.{Bool, true, false, not, ◌&&◌, beq, cond}
use Prim.Native.Nat.{ℕ, zero, suc, ◌+◌, ◌-◌, ◌*◌, ◌^◌}
use native.Mathlib.Omega.{arith}
use borrow.Author.Tests.{ltb-true, ltb-false}
use lib.Dec.{ltb}
use lib.IntN.{ℤ}
use lib.Ieee.{Float, inf, fin, prec, emax, low, up, down, binary64, odd, units, round, sum, add, sub, neg, mul}
use lib.Ieee.Fits.{round_is}
use Rattle.lists.proofs.Tests.{true-or-false}
use mathlib.Core.Logic.{⊎_elim}
use Rattle.definition.specs.Number.{minus, product}

-- |±a - ±b|
abbrev pub apart : Bool → ℕ → Bool → ℕ → ℕ
apart s a t b = cond (beq s t) ((a - b) + (b - a)) (a + b)

-- ---- a square does not see the sign
odd-square : (d : ℕ) (s : Bool) (q k l : ℕ) → product (odd d s q k l) (odd d s q k l) ≡ product (odd d false q k l) (odd d false q k l)
unfolding odd mul
odd-square d true zero k l = refl
odd-square d true (suc q) k l = refl
odd-square d false q k l = refl

inf-square : (s : Bool) → product (inf s) (inf s) ≡ product (inf false) (inf false)
unfolding mul
inf-square true = refl
inf-square false = refl

units-square : (s : Bool) (q k : ℕ) → product (units binary64 s q k) (units binary64 s q k) ≡ product (units binary64 false q k) (units binary64 false q k)
unfolding units
units-square s q k = go (ltb (q * 2 ^ k) (2 ^ (low binary64 + suc (emax binary64))))
  where
    go : (b : Bool) → product (cond b (odd (suc (prec binary64)) s q k (low binary64)) (inf s)) (cond b (odd (suc (prec binary64)) s q k (low binary64)) (inf s))
        ≡ product (cond b (odd (suc (prec binary64)) false q k (low binary64)) (inf false)) (cond b (odd (suc (prec binary64)) false q k (low binary64)) (inf false))
    go true = odd-square (suc (prec binary64)) s q k (low binary64)
    go false = inf-square s

-- the square of what a / c rounds to
abbrev pub squared : ℕ → ℕ → Float
squared a c = product (round binary64 false a c) (round binary64 false a c)

round-square : (s : Bool) (a c : ℕ) → product (round binary64 s a c) (round binary64 s a c) ≡ squared a c
round-square s a c =
    ap (λ (x : Float). product x x) (round_is binary64 s a c)
    ∙ units-square s _ _
    ∙ ap (λ (x : Float). product x x) (sym (round_is binary64 false a c))

-- ---- a rounded difference
size-of : (a b : ℕ) → cond (ltb a b) (b - a) (a - b) ≡ (a - b) + (b - a)
size-of a b =
    ⊎_elim
    (λ h. ap (λ (x : Bool). cond x (b - a) (a - b)) h ∙ omega (arith, ltb-true a b h))
    (λ h. ap (λ (x : Bool). cond x (b - a) (a - b)) h ∙ omega (arith, ltb-false a b h))
    (true-or-false (ltb a b))

apart-square : (p q : Bool) (a b c : ℕ) (x : Bool)
    → product (cond x (round binary64 p (b - a) c) (round binary64 q (a - b) c)) (cond x (round binary64 p (b - a) c) (round binary64 q (a - b) c))
    ≡ squared (cond x (b - a) (a - b)) c
apart-square p q a b c true = round-square p (b - a) c
apart-square p q a b c false = round-square q (a - b) c

sum-square : (s t : Bool) (a b c : ℕ) → product (sum binary64 s a (not t) b c) (sum binary64 s a (not t) b c) ≡ squared (apart s a t b) c
unfolding sum
sum-square true true a b c = apart-square false (true && ltb b a) a b c (ltb a b) ∙ ap (λ (n : ℕ). squared n c) (size-of a b)
sum-square true false a b c = round-square true (a + b) c
sum-square false true a b c = round-square false (a + b) c
sum-square false false a b c = apart-square true (false && ltb b a) a b c (ltb a b) ∙ ap (λ (n : ℕ). squared n c) (size-of a b)

-- the square of the rounded difference of two finite values
pub minus-square : (s : Bool) (m : ℕ) (e : ℤ) (t : Bool) (n : ℕ) (d : ℤ)
    → product (minus (fin s m e) (fin t n d)) (minus (fin s m e) (fin t n d))
    ≡ squared (apart s (m * up e * down d) t (n * up d * down e)) (down e * down d)
unfolding sub add neg
minus-square s m e t n d = sum-square s t (m * up e * down d) (n * up d * down e) (down e * down d)
