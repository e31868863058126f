-- Rounded squares and sums of values that are not negative keep their order. Assumes nothing.
use mathlib.Core.Path.{◌≡◌, refl, sym}
use mathlib.Core.Bool.{true, false}
use Prim.Native.Nat.{ℕ, ◌+◌, ◌*◌, ◌≤◌}
use native.Mathlib.Nat.{le_trans, le_of_eq, mul-le-mul, mul-pos, mul_assoc, mul_comm, mul_left_comm, add-mul, add-le-add}
use borrow.Author.Tests.{ltb-false}
use lib.Dec.{T}
use lib.IntN.{ℤ}
use lib.Ieee.{Float, inf, fin, binary64, up, down, round, sum, add, mul, lt, le}
use lib.Ieee.Fits.{down_pos, round-fits}
use lib.Ieee.Order.{round_mono}
use Rattle.definition.specs.Number.{plus, product}
use Rattle.root_laws.specs.Sorts.{good}
use Rattle.root_laws.proofs.Order.{GoodFloat, top, num, view, both, le→not-lt}
use Rattle.root_laws.proofs.Operations.{round-nn, add-good}

-- what is rounded without a sign is such a value
pub round-good : (a b : ℕ) → good (round binary64 false a b) ≡ true
round-good a b = both _ _ (round-nn binary64 a b) (round-fits binary64 false a b)

-- each is at most +infinity
le-top : {x : Float} → GoodFloat x → T (le x (inf false))
unfolding le lt
le-top top = tt
le-top (num m e) = tt

top-most : (x : Float) → good x ≡ true → T (le x (inf false))
top-most x g = le-top (view x g)

-- the order of two numbers, by their fractions
cross : (m : ℕ) (e : ℤ) (n : ℕ) (d : ℤ) → T (le (fin false m e) (fin false n d)) → m * up e * down d ≤ n * up d * down e
unfolding lt
cross m e n d h = ltb-false (n * up d * down e) (m * up e * down d) (le→not-lt (num m e) (num n d) h)

-- ---- squares
square-of : {x y : Float} → GoodFloat x → GoodFloat y → T (le x y) → T (le (product x x) (product y y))
unfolding mul le lt
square-of top top h = tt
square-of top (num n d) h = absurd h
square-of (num m e) top h = top-most (round binary64 false (m * up e * (m * up e)) (down e * down e)) (round-good (m * up e * (m * up e)) (down e * down e))
square-of (num m e) (num n d) h =
    let c : m * up e * down d ≤ n * up d * down e = cross m e n d h in
    round_mono binary64 (m * up e * (m * up e)) (down e * down e) (n * up d * (n * up d)) (down d * down d)
    (mul-pos (down_pos e) (down_pos e)) (mul-pos (down_pos d) (down_pos d))
    (squares (m * up e) (down e) (n * up d) (down d) c)
  where
    squares : (x p y q : ℕ) → x * q ≤ y * p → x * x * (q * q) ≤ y * y * (p * p)
    squares x p y q l = le_trans (le_of_eq (turn x q)) (le_trans (mul-le-mul l l) (le_of_eq (sym (turn y p))))
      where
        turn : (x q : ℕ) → x * x * (q * q) ≡ x * q * (x * q)
        turn x q = simp (mul_assoc, mul_left_comm)

pub square-mono : (x y : Float) → good x ≡ true → good y ≡ true → T (le x y) → T (le (product x x) (product y y))
square-mono x y g h l = square-of (view x g) (view y h) l

-- ---- sums
sums : (m e m' e' n d n' d' : ℕ) → m * e' ≤ m' * e → n * d' ≤ n' * d → (m * d + n * e) * (e' * d') ≤ (m' * d' + n' * e') * (e * d)
sums m e m' e' n d n' d' h k =
    le_trans (le_of_eq (add-mul (m * d) (n * e) (e' * d')))
    (le_trans (add-le-add (le_trans (le_of_eq (turn m d e' d')) (le_trans (mul-le-mul h (le_of_eq refl)) (le_of_eq (back m' d' e d))))
    (le_trans (le_of_eq (turn2 n e e' d')) (le_trans (mul-le-mul k (le_of_eq refl)) (le_of_eq (back2 n' e' e d)))))
    (le_of_eq (sym (add-mul (m' * d') (n' * e') (e * d)))))
  where
    turn : (m d e' d' : ℕ) → m * d * (e' * d') ≡ m * e' * (d * d')
    turn m d e' d' = simp (mul_assoc, mul_left_comm)

    back : (m' d' e d : ℕ) → m' * e * (d * d') ≡ m' * d' * (e * d)
    back m' d' e d = simp (mul_assoc, mul_comm, mul_left_comm)

    turn2 : (n e e' d' : ℕ) → n * e * (e' * d') ≡ n * d' * (e * e')
    turn2 n e e' d' = simp (mul_assoc, mul_comm, mul_left_comm)

    back2 : (n' e' e d : ℕ) → n' * d * (e * e') ≡ n' * e' * (e * d)
    back2 n' e' e d = simp (mul_assoc, mul_comm, mul_left_comm)

sum-of : {x x' y y' : Float} → GoodFloat x → GoodFloat x' → GoodFloat y → GoodFloat y' → T (le (plus x y) (inf false)) → T (le x x') → T (le y y') → T (le (plus x y) (plus x' y'))
unfolding add sum le lt
sum-of gx top gy top g h k = g
sum-of gx top gy (num n' d') g h k = g
sum-of gx (num m' e') gy top g h k = g
sum-of top (num m' e') gy (num n' d') g h k = absurd h
sum-of (num m e) (num m' e') top (num n' d') g h k = absurd k
sum-of (num m e) (num m' e') (num n d) (num n' d') g h k =
    round_mono binary64 (m * up e * down d + n * up d * down e) (down e * down d) (m' * up e' * down d' + n' * up d' * down e') (down e' * down d')
    (mul-pos (down_pos e) (down_pos d)) (mul-pos (down_pos e') (down_pos d'))
    (sums (m * up e) (down e) (m' * up e') (down e') (n * up d) (down d) (n' * up d') (down d') (cross m e m' e' h) (cross n d n' d' k))

pub plus-mono : (x x' y y' : Float) → good x ≡ true → good x' ≡ true → good y ≡ true → good y' ≡ true → T (le x x') → T (le y y') → T (le (plus x y) (plus x' y'))
plus-mono x x' y y' a b c d h k = sum-of (view x a) (view x' b) (view y c) (view y' d) (top-most (plus x y) (add-good x y a c)) h k
