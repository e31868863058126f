-- The order of values that are not negative: +0, the positive numbers and +infinity. On them `lt` is a strict order of
-- numbers, and `lt y x ≡ false` says that x is at most y. Assumes nothing.
-- Holds: GoodFloat, both, fits-of, view, not-lt→le, le→not-lt, lt_irrefl, lt-asym, le-le, le-lt, lt-le
use mathlib.Core.Path.{◌≡◌, refl, sym, ◌∙◌}
use mathlib.Core.Bool.{Bool, true, false, ◌&&◌, ◌||◌, true≢false}
use mathlib.Core.Logic.{◌⊎◌, ⊎_elim}
use Prim.Native.Nat.{ℕ, ◌*◌, ◌≤◌, ◌<◌}
use native.Mathlib.Nat.{le_trans, le_of_eq, le_of_lt, mul-le-mul_right, le_of_mul-le-mul_right, mul_right_comm}
use native.Mathlib.Omega.{arith}
use lib.Dec.{T, ltb, eqb, ltb→lt, eqb→eq}
use borrow.Author.Tests.{le-ltb, ltb-true, ltb-false}
use lib.IntN.{ℤ}
use lib.Ieee.{Float, nan, inf, fin, binary64, up, down, lt, le, fits}
use lib.Ieee.Fits.{down_pos}
use lib.Ieee.Order.{le_of_values}
use Rattle.lists.proofs.Tests.{true-or-false, and-fst}
use Rattle.root_laws.specs.Sorts.{not_negative_lem, good}

-- such a value, by its parts
pub data GoodFloat : Float → Type 0 where
  top : GoodFloat (inf false)
  num : (m : ℕ) (e : ℤ) → GoodFloat (fin false m e)

view' : (x : Float) → not_negative_lem x ≡ true → GoodFloat x
view' nan h = absurd (true≢false (sym h))
view' (inf true) h = absurd (true≢false (sym h))
view' (inf false) h = top
view' (fin true m e) h = absurd (true≢false (sym h))
view' (fin false m e) h = num m e

and_right : (a b : Bool) → (a && b) ≡ true → T b
and_right true true h = tt
and_right true false h = absurd (true≢false (sym h))
and_right false b h = absurd (true≢false (sym h))

pub both : (a b : Bool) → a ≡ true → T b → (a && b) ≡ true
both true true p t = refl
both true false p t = absurd t
both false b p t = p

-- what `good` says
pub fits-of : (x : Float) → good x ≡ true → T (fits binary64 x)
fits-of x h = and_right (not_negative_lem x) (fits binary64 x) h

pub view : (x : Float) → good x ≡ true → GoodFloat x
view x h = view' x (and-fst (not_negative_lem x) (fits binary64 x) h)

-- ---- `le` and `lt`

pub not-lt→le : {x y : Float} → GoodFloat x → GoodFloat y → lt y x ≡ false → T (le x y)
unfolding lt le
not-lt→le top top h = tt
not-lt→le top (num n d) h = absurd (true≢false h)
not-lt→le (num m e) top h = tt
not-lt→le (num m e) (num n d) h =
    le_of_values (fin false m e) (fin false n d) (m * up e) (down e) (n * up d) (down d) (down_pos e) (down_pos d)
    (refl, refl) (refl, refl)
    (ltb-false (n * up d * down e) (m * up e * down d) h)

or-le : (p q z : Bool) (a b : ℕ) → (T p → a < b) → (T q → a ≡ b) → T (p || (q && z)) → a ≤ b
or-le true q z a b l e h = le_of_lt (l tt)
or-le false true z a b l e h = le_of_eq (e tt)
or-le false false z a b l e h = absurd h

pub le→not-lt : {x y : Float} → GoodFloat x → GoodFloat y → T (le x y) → lt y x ≡ false
unfolding lt le
le→not-lt top top h = refl
le→not-lt top (num n d) h = absurd h
le→not-lt (num m e) top h = refl
le→not-lt (num m e) (num n d) h =
    le-ltb (n * up d * down e) (m * up e * down d)
    (or-le (ltb (m * up e * down d) (n * up d * down e)) (eqb (m * up e * down d) (n * up d * down e)) _ (m * up e * down d) (n * up d * down e)
    (ltb→lt (m * up e * down d) (n * up d * down e)) (eqb→eq (m * up e * down d) (n * up d * down e)) h)

-- ---- fractions
-- a / p ≤ b / q and b / q ≤ c / r, so a / p ≤ c / r
frac-trans : (a p b q c r : ℕ) → 0 < q → a * q ≤ b * p → b * r ≤ c * q → a * r ≤ c * p
frac-trans a p b q c r Q h k =
    let l : a * r * q ≤ b * r * p =
    le_trans (le_of_eq (mul_right_comm a r q)) (le_trans (mul-le-mul_right r h) (le_of_eq (mul_right_comm b p r))) in
    le_of_mul-le-mul_right (le_trans l (le_trans (mul-le-mul_right p k) (le_of_eq (mul_right_comm c q p)))) Q

-- ---- the laws; `lt y x ≡ false` says that x is at most y
refl_of : {x : Float} → GoodFloat x → lt x x ≡ false
unfolding lt
refl_of top = refl
refl_of (num m e) = le-ltb (m * up e * down e) (m * up e * down e) (omega arith)

asym-of : {x y : Float} → GoodFloat x → GoodFloat y → lt x y ≡ true → lt y x ≡ false
unfolding lt
asym-of top top h = refl
asym-of top (num n d) h = absurd (true≢false (sym h))
asym-of (num m e) top h = refl
asym-of (num m e) (num n d) h =
    le-ltb (n * up d * down e) (m * up e * down d) (le_of_lt (ltb-true (m * up e * down d) (n * up d * down e) h))

trans-of : {x y z : Float} → GoodFloat x → GoodFloat y → GoodFloat z → lt y x ≡ false → lt z y ≡ false → lt z x ≡ false
unfolding lt
trans-of top top top h k = refl
trans-of top top (num l g) h k = absurd (true≢false k)
trans-of top (num n d) z h k = absurd (true≢false h)
trans-of (num m e) top top h k = refl
trans-of (num m e) top (num l g) h k = absurd (true≢false k)
trans-of (num m e) (num n d) top h k = refl
trans-of (num m e) (num n d) (num l g) h k =
    le-ltb (l * up g * down e) (m * up e * down g)
    (frac-trans (m * up e) (down e) (n * up d) (down d) (l * up g) (down g) (down_pos d)
    (ltb-false (n * up d * down e) (m * up e * down d) h) (ltb-false (l * up g * down d) (n * up d * down g) k))

-- on values that an f64 holds
pub lt_irrefl : (x : Float) → good x ≡ true → lt x x ≡ false
lt_irrefl x g = refl_of (view x g)

pub lt-asym : (x y : Float) → good x ≡ true → good y ≡ true → lt x y ≡ true → lt y x ≡ false
lt-asym x y g h = asym-of (view x g) (view y h)

-- x ≤ y ≤ z
pub le-le :
    (x y z : Float) → good x ≡ true → good y ≡ true → good z ≡ true → lt y x ≡ false → lt z y ≡ false → lt z x ≡ false
le-le x y z g h i = trans-of (view x g) (view y h) (view z i)

-- x ≤ y < z
pub le-lt : (x y z : Float) → good x ≡ true → good y ≡ true → good z ≡ true → lt y x ≡ false → lt y z ≡ true → lt x z ≡ true
le-lt x y z g h i a b = ⊎_elim (λ t. t) (λ f. absurd (true≢false (sym b ∙ le-le z x y i g h f a))) (true-or-false (lt x z))

-- x < y ≤ z
pub lt-le : (x y z : Float) → good x ≡ true → good y ≡ true → good z ≡ true → lt x y ≡ true → lt z y ≡ false → lt x z ≡ true
lt-le x y z g h i a b = ⊎_elim (λ t. t) (λ f. absurd (true≢false (sym a ∙ le-le y z x h i g b f))) (true-or-false (lt x z))
