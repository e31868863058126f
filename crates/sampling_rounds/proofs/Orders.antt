-- The order of the values that are kept for the rows. Assumes nothing.
-- Holds: good-same, one_below, none_below, one-not-good, kept_above, kept-irr, kept-le, kept-asym, kept-least, kept-good,
--   lesser-kept, lesser-one, lesser-inf, near_one, near-good
use mathlib.Core.Path.{◌≡◌, refl, sym, ap, ◌∙◌}
use mathlib.Core.Logic.{inl, inr}
use mathlib.Core.Bool.{Bool, true, false, cond, true≢false}
use Prim.Native.Nat.{ℕ, ◌+◌, ◌-◌, ◌*◌, ◌/◌, ◌^◌}
use native.Mathlib.Nat.{le_antisymm, mul_right_comm}
use native.Mathlib.Omega.{arith}
use borrow.Author.Tests.{lt-ltb, ltb-false}
use lib.Dec.{T}
use lib.IntN.{ℤ, negsuc}
use lib.Ieee.{Float, inf, fin, binary64, up, down, size, lt, neg, mul, of_bits, to_bits, fits}
use lib.Ieee.Bits.{of_bits-to_bits}
use lib.Ieee.Fits.{down_pos, mul-fits}
use lib.Ieee.Nearest.{div_same}
use Rattle.lists.proofs.Tests.{clash}
use Rattle.definition.specs.Number.{product}
use Rattle.root_laws.specs.Sorts.{not_negative_lem, good}
use Rattle.root_laws.proofs.Operations.{round-nn}
use Rattle.root_laws.proofs.Order.{GoodFloat, top, num, view, fits-of, both, lt_irrefl, lt-asym, le-le}
use Rattle.sampling_rounds.specs.Rounds.{lesser, minus_one, KeptSquare}

-- ---- two squares neither of which is less are one

-- one number has one pattern
same_bits : (m : ℕ) (e : ℤ) (n : ℕ) (d : ℤ) → m * up e * down d ≡ n * up d * down e → to_bits binary64 (fin false m e) ≡ to_bits binary64 (fin false n d)
unfolding to_bits
same_bits m e n d h =
    let p = 2 ^ 1074 in
    let q : m * up e * p * down d ≡ n * up d * p * down e =
    mul_right_comm (m * up e) p (down d) ∙ ap (λ (x : ℕ). x * p) h ∙ mul_right_comm (n * up d) (down e) p in
    ap (λ (z : ℕ). let k = size z - 53 in 0 + k * 2 ^ 52 + z / 2 ^ k) (div_same (m * up e * p) (down e) (n * up d * p) (down d) (down_pos e) (down_pos d) q)

same_of : {x y : Float} → GoodFloat x → GoodFloat y → T (fits binary64 x) → T (fits binary64 y) → lt x y ≡ false → lt y x ≡ false → x ≡ y
unfolding lt
same_of top top f g h k = refl
same_of top (num n d) f g h k = absurd (true≢false k)
same_of (num m e) top f g h k = absurd (true≢false h)
same_of (num m e) (num n d) f g h k =
    sym (of_bits-to_bits binary64 (fin false m e) f)
    ∙ ap (of_bits binary64) (same_bits m e n d (le_antisymm (ltb-false (n * up d * down e) (m * up e * down d) k) (ltb-false (m * up e * down d) (n * up d * down e) h)))
    ∙ of_bits-to_bits binary64 (fin false n d) g

pub good-same : (x y : Float) → good x ≡ true → good y ≡ true → lt x y ≡ false → lt y x ≡ false → x ≡ y
good-same x y g h = same_of (view x g) (view y h) (fits-of x g) (fits-of y h)

-- ---- -1 and the squares

below_of : {x : Float} → GoodFloat x → lt minus_one x ≡ true
unfolding lt neg of_bits
below_of top = refl
below_of (num m e) = lt-ltb 0 (1 * down e + m * up e * 1) (omega (arith, down_pos e))

-- -1 is below every square, and none is below it
pub one_below : (x : Float) → good x ≡ true → lt minus_one x ≡ true
one_below x g = below_of (view x g)

above_of : {x : Float} → GoodFloat x → lt x minus_one ≡ false
unfolding lt neg of_bits
above_of top = refl
above_of (num m e) = refl

pub none_below : (x : Float) → good x ≡ true → lt x minus_one ≡ false
none_below x g = above_of (view x g)

one-itself : lt minus_one minus_one ≡ false
unfolding lt neg of_bits
one-itself = refl

pub one-not-good : good minus_one ≡ false
unfolding neg of_bits
one-not-good = refl

-- ---- on the kept values `lt` is a strict order of numbers

pub kept_above : (x : Float) → KeptSquare x → lt x minus_one ≡ false
kept_above x (inl e) = rw e one-itself
kept_above x (inr g) = none_below x g

pub kept-irr : (x : Float) → KeptSquare x → lt x x ≡ false
kept-irr x (inl e) = rw e one-itself
kept-irr x (inr g) = lt_irrefl x g

-- x ≤ y ≤ z
pub kept-le : (x y z : Float) → KeptSquare x → KeptSquare y → KeptSquare z → lt y x ≡ false → lt z y ≡ false → lt z x ≡ false
kept-le x y z (inl e) b c h k = rw e (kept_above z c)
kept-le x y z (inr f) (inl e) c h k = clash (one_below x f) (rw e at h)
kept-le x y z (inr f) (inr g) (inl e) h k = clash (one_below y g) (rw e at k)
kept-le x y z (inr f) (inr g) (inr i) h k = le-le x y z f g i h k

pub kept-asym : (x y : Float) → KeptSquare x → KeptSquare y → lt x y ≡ true → lt y x ≡ false
kept-asym x y (inl e) b h = rw e (kept_above y b)
kept-asym x y (inr f) (inl e) h = clash h (rw e (none_below x f))
kept-asym x y (inr f) (inr g) h = lt-asym x y f g h

-- a kept value that -1 is not below is -1
pub kept-least : (x : Float) → KeptSquare x → lt minus_one x ≡ false → x ≡ minus_one
kept-least x (inl e) h = e
kept-least x (inr g) h = clash (one_below x g) h

-- a kept value above another one is a square
pub kept-good : (x y : Float) → KeptSquare x → KeptSquare y → lt x y ≡ true → good y ≡ true
kept-good x y k (inl e) h = clash h (rw e (kept_above x k))
kept-good x y k (inr g) h = g

-- ---- the lesser of a square and a kept value

pub lesser-kept : (x y : Float) → good x ≡ true → KeptSquare y → KeptSquare (lesser x y)
lesser-kept x y g k = go (lt x y)
  where
    go : (b : Bool) → KeptSquare (cond b x y)
    go true = inr g
    go false = k

-- a chosen row stays chosen
pub lesser-one : (x : Float) → good x ≡ true → lesser x minus_one ≡ minus_one
lesser-one x g = rw (none_below x g)

inf-of : {x : Float} → GoodFloat x → lesser x (inf false) ≡ x
unfolding lt
inf-of top = refl
inf-of (num m e) = refl

-- each square is the lesser of itself and infinity
pub lesser-inf : (x : Float) → good x ≡ true → lesser x (inf false) ≡ x
lesser-inf x g = inf-of (view x g)

-- ---- a value a little below a square

-- the literal 0.999999999999999
abbrev pub near_one : Float
near_one = of_bits binary64 0x3fef_ffff_ffff_fff7

near_of : {x : Float} → GoodFloat x → not_negative_lem (product x near_one) ≡ true
unfolding mul of_bits
near_of top = refl
near_of (num m e) = round-nn binary64 (m * up e * (0x1f_ffff_ffff_fff7 * up (negsuc 52))) (down e * down (negsuc 52))

pub near-good : (x : Float) → good x ≡ true → good (product x near_one) ≡ true
near-good x g =
    both (not_negative_lem (product x near_one)) (fits binary64 (product x near_one)) (near_of (view x g)) (mul-fits binary64 x near_one)
