-- Which values roots are, and their order, for values that are not negative. Assumes nothing.
-- Holds: root-fits, root-positive, root-monotone, root-good, root-order, root-inf
use mathlib.Core.Path.{◌≡◌, refl, sym, subst}
use mathlib.Core.Bool.{true, false, not, true≢false}
use Prim.Native.Nat.{zero, suc, ◌*◌, ◌^◌, ◌<◌}
use native.Mathlib.Nat.{lt_of_lt_of_le, mul-pos, zero-lt-suc}
use lib.Dec.{T, lt→ltb}
use lib.Pow.{pow_pos}
use lib.Ieee.{Float, nan, inf, fin, binary64, lt, le, fits, is_nan}
use lib.Ieee.Fits.{round-fits}
use lib.Ieee.Positive.{positive, positive_of_value}
use Rattle.definition.specs.Refusals.{accepted, root_verdict}
use Rattle.definition.specs.Number.{halves, units_of, root_of_units, square_root_lem}
use Rattle.root_laws.specs.Sorts.{not_negative_lem, good, has_root}
use Rattle.root_laws.proofs.Order.{GoodFloat, top, num, view, fits-of, both, not-lt→le, le→not-lt}
use Rattle.root_laws.proofs.Scaling.{root_is}
use Rattle.root_laws.proofs.Rooted.{rooted, value-is}
use Rattle.root_laws.proofs.Monotone.{monotone}
use Rattle.root_laws.proofs.Refusal.{accepted-has-root, good-accepted}

-- the root is a value of the format
pub root-fits : (x : Float) → T (fits binary64 x) → T (fits binary64 (square_root_lem x))
unfolding square_root_lem
root-fits nan f = unfold fits in tt
root-fits (inf true) f = unfold fits in tt
root-fits (inf false) f = f
root-fits (fin s zero e) f = f
root-fits (fin true (suc m) e) f = unfold fits in tt
root-fits (fin false (suc m) e) f =
    subst (λ (z : Float). T (fits binary64 z)) (sym (root_is (units_of (fin false (suc m) e))))
    (round-fits binary64 false (halves (units_of (fin false (suc m) e) * 2 ^ 1074)) (2 * 2 ^ 1074))

-- and of a finite value above zero it is one
pub root-positive : (x : Float) → T (fits binary64 x) → T (positive x) → T (positive (square_root_lem x))
root-positive nan f p = absurd p
root-positive (inf s) f p = absurd p
root-positive (fin true m e) f p = absurd p
root-positive (fin false zero e) f p = absurd p
root-positive (fin false (suc m) e) f p =
    let r = rooted m e f in
    let l : 0 < r.q = lt_of_lt_of_le (pow_pos 52) r.near.least in
    subst (λ (z : Float). T (positive z)) (sym (value-is m e))
    (positive_of_value (root_of_units (units_of (fin false (suc m) e))) (r.q * 2 ^ suc r.j) (2 ^ 1074) r.value (mul-pos l (pow_pos (suc r.j))))

-- ---- order
-- of two values whose roots are not refused, the larger has the larger root, or an equal one
pub root-monotone :
    (x y : Float) → T (fits binary64 x) → T (fits binary64 y) → root_verdict x ≡ accepted → root_verdict y ≡ accepted →
    T (le x y) → T (le (square_root_lem x) (square_root_lem y))
root-monotone x y f g a b = monotone x y f g (accepted-has-root x a) (accepted-has-root y b)

-- ---- roots of values that are not negative

positive-nn : (x : Float) → T (positive x) → not_negative_lem x ≡ true
positive-nn nan p = absurd p
positive-nn (inf s) p = absurd p
positive-nn (fin true m e) p = absurd p
positive-nn (fin false m e) p = refl

root-nn : {x : Float} → GoodFloat x → T (fits binary64 x) → not_negative_lem (square_root_lem x) ≡ true
root-nn top f = unfold square_root_lem in refl
root-nn (num zero e) f = unfold square_root_lem in refl
root-nn (num (suc m) e) f =
    positive-nn (square_root_lem (fin false (suc m) e))
    (root-positive (fin false (suc m) e) f (lt→ltb 0 (suc m) (zero-lt-suc m)))

-- the root of a value that is not negative is one
pub root-good : (x : Float) → good x ≡ true → good (square_root_lem x) ≡ true
root-good x g =
    both (not_negative_lem (square_root_lem x)) (fits binary64 (square_root_lem x)) (root-nn (view x g) (fits-of x g))
    (root-fits x (fits-of x g))

-- where y is not below x, its root is not below the root of x
pub root-order : (x y : Float) → good x ≡ true → good y ≡ true → lt y x ≡ false → lt (square_root_lem y) (square_root_lem x) ≡ false
root-order x y g h l =
    le→not-lt (view (square_root_lem x) (root-good x g)) (view (square_root_lem y) (root-good y h))
    (root-monotone x y (fits-of x g) (fits-of y h) (good-accepted x g) (good-accepted y h) (not-lt→le (view x g) (view y h) l))

pub root-inf : square_root_lem (inf false) ≡ inf false
unfolding square_root_lem
root-inf = refl

no-nan-of : (x : Float) → not_negative_lem x ≡ true → T (not (is_nan x))
unfolding is_nan
no-nan-of nan h = absurd (true≢false (sym h))
no-nan-of (inf s) h = tt
no-nan-of (fin s m e) h = tt

no_nan : (x : Float) → T (fits binary64 x) → T (has_root x) → T (not (is_nan (square_root_lem x)))
no_nan nan f h = absurd h
no_nan (inf true) f h = absurd h
no_nan (inf false) f h = no-nan-of (square_root_lem (inf false)) (root-nn top f)
no_nan (fin s zero e) f h = unfold square_root_lem is_nan in tt
no_nan (fin true (suc m) e) f h = absurd h
no_nan (fin false (suc m) e) f h = no-nan-of (square_root_lem (fin false (suc m) e)) (root-nn (num (suc m) e) f)
