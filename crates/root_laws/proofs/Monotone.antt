-- A larger number has no smaller root. Assumes nothing.
use mathlib.Core.Path.{◌≡◌, sym, ap, ◌∙◌, subst}
use mathlib.Core.Bool.{Bool, true, false, ◌||◌, true≢false}
use mathlib.Core.Logic.{◌⊎◌, inl, inr}
use Prim.Native.Nat.{ℕ, zero, suc, ◌+◌, ◌*◌, ◌^◌, ◌≤◌, ◌<◌}
use native.Mathlib.Nat.{le_trans, le_of_eq, mul_right_comm, mul-le-mul_right, zero-mul, mul-pos, zero-lt-suc, eq-zero-or-pos}
use native.Mathlib.Omega.{arith}
use lib.Dec.{T, ltb, eqb, ltb→lt, lt→ltb, eqb→eq}
use lib.Pow.{pow_pos}
use borrow.Author.Tests.{lt-ltb}
use lib.IntN.{ℤ}
use lib.Ieee.{Float, nan, inf, fin, binary64, fits, up, down, round, le, below, level}
use lib.Ieee.Fits.{down_pos, up_pos, and_l}
use lib.Ieee.Exact.{HasValue}
use lib.Ieee.Nearest.{div_mono}
use lib.Ieee.Order.{round_mono}
use lib.Ieee.Positive.{le→cross}
use Rattle.definition.specs.Number.{halves, units_of, root_of_units, square_root_lem}
use Rattle.root_laws.specs.Sorts.{has_root}
use Rattle.root_laws.proofs.Squares.{halves-mono}
use Rattle.root_laws.proofs.Scaling.{root_is}
use Rattle.root_laws.proofs.Rooted.{rooted}

pub units-monotone : (u v : ℕ) → u ≤ v → T (le (root_of_units u) (root_of_units v))
units-monotone u v h =
    let D = 2 * 2 ^ 1074 in
    let P : 0 < D = mul-pos (zero-lt-suc 1) (pow_pos 1074) in
    subst (λ (z : Float). T (le z (root_of_units v))) (sym (root_is u))
    (subst (λ (z : Float). T (le (round binary64 false (halves (u * 2 ^ 1074)) D) z)) (sym (root_is v))
    (round_mono binary64 (halves (u * 2 ^ 1074)) D (halves (v * 2 ^ 1074)) D P P (mul-le-mul_right D (halves-mono (u * 2 ^ 1074) (v * 2 ^ 1074) (mul-le-mul_right (2 ^ 1074) h)))))

below-infinity : (r : Float) (n d : ℕ) → HasValue r false n d → T (le r (inf false))
unfolding le
below-infinity nan n d v = absurd v
below-infinity (inf s) n d v = absurd v
below-infinity (fin s m e) n d v = tt

zero-under : (a b : ℕ) (s : Bool) → a ≡ 0 → T (below s a false b || level s a false b)
zero-under a b s z = subst (λ (x : ℕ). T (below s x false b || level s x false b)) (sym z) (go s (eq-zero-or-pos b))
  where
    go : (s : Bool) → (b ≡ 0) ⊎ (0 < b) → T (below s 0 false b || level s 0 false b)
    go true (inl e) = subst (λ (x : ℕ). T (below true 0 false x || level true 0 false x)) (sym e) tt
    go true (inr p) = rw (lt-ltb 0 (0 + b) (omega arith)) tt
    go false (inl e) = subst (λ (x : ℕ). T (below false 0 false x || level false 0 false x)) (sym e) tt
    go false (inr p) = rw (lt-ltb 0 b p) tt

zero-below : (s : Bool) (e : ℤ) (r : Float) (n d : ℕ) → HasValue r false n d → T (le (fin s zero e) r)
unfolding le
zero-below s e nan n d v = absurd v
zero-below s e (inf t) n d v = absurd v
zero-below s e (fin true m g) n d v = absurd (true≢false v.0)
zero-below s e (fin false m g) n d v =
    zero-under (0 * up e * down g) (m * up g * down e) s (ap (λ (x : ℕ). x * down g) (zero-mul (up e)) ∙ zero-mul (down g))

-- nothing above zero is below a zero
neither : (a b : Bool) → (T a → ⊥) → (T b → ⊥) → T (a || b) → ⊥
neither true b f g = f
neither false b f g = g

not-under : (a b : ℕ) (t : Bool) → 0 < a → b ≡ 0 → T (below false a t b || level false a t b) → ⊥
not-under a b true p z h = no (eqb→eq a b (and_l (eqb a b) (false || eqb a 0) h))
  where
    no : a ≡ b → ⊥
    no e = omega arith
not-under a b false p z h =
    neither (ltb a b) (level false a false b) (λ c. no (ltb→lt a b c))
    (λ c. no' (eqb→eq a b (and_l (eqb a b) (true || eqb a 0) c))) h
  where
    no : a < b → ⊥
    no e = omega arith

    no' : a ≡ b → ⊥
    no' e = omega arith

above-no-zero : (m : ℕ) (e : ℤ) (t : Bool) (d : ℤ) → T (le (fin false (suc m) e) (fin t zero d)) → ⊥
unfolding le
above-no-zero m e t d h =
    not-under (suc m * up e * down d) (0 * up d * down e) t (mul-pos (mul-pos (zero-lt-suc m) (up_pos e)) (down_pos d))
    (ap (λ (x : ℕ). x * down e) (zero-mul (up d)) ∙ zero-mul (down e)) h

units-order :
    (m : ℕ) (e : ℤ) (n : ℕ) (d : ℤ) → T (le (fin false (suc m) e) (fin false (suc n) d)) →
    units_of (fin false (suc m) e) ≤ units_of (fin false (suc n) d)
units-order m e n d h =
    let c =
    le→cross (fin false (suc m) e) (fin false (suc n) d) (lt→ltb 0 (suc m) (zero-lt-suc m))
    (lt→ltb 0 (suc n) (zero-lt-suc n)) h in
    let l = 2 ^ 1074 in
    div_mono (suc m * up e * l) (down e) (suc n * up d * l) (down d) (down_pos e) (down_pos d)
    (le_trans (le_of_eq (mul_right_comm (suc m * up e) l (down d))) (le_trans (mul-le-mul_right l c) (le_of_eq (mul_right_comm (suc n * up d) (down e) l))))

-- of two values that have a root, the larger has the larger root, or an equal one
pub monotone :
    (x y : Float) → T (fits binary64 x) → T (fits binary64 y) → T (has_root x) → T (has_root y) →
    T (le x y) → T (le (square_root_lem x) (square_root_lem y))
unfolding square_root_lem
monotone nan y f g a b h = absurd a
monotone (inf true) y f g a b h = absurd a
monotone (inf false) nan f g a b h = absurd b
monotone (inf false) (inf true) f g a b h = absurd b
monotone (inf false) (inf false) f g a b h = h
monotone (inf false) (fin t zero d) f g a b h = absurd (unfold le in h)
monotone (inf false) (fin t (suc n) d) f g a b h = absurd (unfold le in h)
monotone (fin s zero e) nan f g a b h = absurd b
monotone (fin s zero e) (inf true) f g a b h = absurd b
monotone (fin s zero e) (inf false) f g a b h = h
monotone (fin s zero e) (fin t zero d) f g a b h = h
monotone (fin s zero e) (fin true (suc n) d) f g a b h = absurd b
monotone (fin s zero e) (fin false (suc n) d) f g a b h =
    let r = rooted n d g in
    zero-below s e (root_of_units (units_of (fin false (suc n) d))) (r.q * 2 ^ suc r.j) (2 ^ 1074) r.value
monotone (fin true (suc m) e) y f g a b h = absurd a
monotone (fin false (suc m) e) nan f g a b h = absurd b
monotone (fin false (suc m) e) (inf true) f g a b h = absurd b
monotone (fin false (suc m) e) (inf false) f g a b h =
    let r = rooted m e f in
    below-infinity (root_of_units (units_of (fin false (suc m) e))) (r.q * 2 ^ suc r.j) (2 ^ 1074) r.value
monotone (fin false (suc m) e) (fin t zero d) f g a b h = absurd (above-no-zero m e t d h)
monotone (fin false (suc m) e) (fin true (suc n) d) f g a b h = absurd b
monotone (fin false (suc m) e) (fin false (suc n) d) f g a b h =
    units-monotone (units_of (fin false (suc m) e)) (units_of (fin false (suc n) d)) (units-order m e n d h)
