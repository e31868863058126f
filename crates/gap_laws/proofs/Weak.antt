-- The IEEE order on values that are no NaN is a weak order: 'not above' goes on from one pair to the next. It is taken from the order of keys,
-- which has the same test and then the rows. Assumes nothing.
-- Holds: lt-before, lt-self, lt-back, le-on
use mathlib.Core.Path.{◌≡◌}
use mathlib.Core.Logic.{⊎_elim}
use mathlib.Core.Bool.{true, false, ◌&&◌}
use Prim.Native.Nat.{ℕ, ◌<◌}
use native.Mathlib.Omega.{arith}
use borrow.Author.Tests.{le-ltb}
use lib.Dec.{ltb}
use lib.Ieee.{Float, lt, eq, is_nan}
use Rattle.lists.proofs.Tests.{clash, fails, or_left, or-none, and-snd, or_cases}
use Rattle.definition.specs.Keys.{Key, before}
use Rattle.definition.proofs.Order.{before-irr, before-trans, before-or}

-- a value with a row
abbrev with_row : Float → ℕ → Key
with_row x i = record { value = x; row = i }

-- a smaller value comes before
pub lt-before : (p q : Key) → lt p.value q.value ≡ true → before p q ≡ true
unfolding before
lt-before p q h = or_left (lt p.value q.value) (eq p.value q.value && ltb p.row q.row) h

-- what comes before is not above
before-le : (p q : Key) → before p q ≡ true → lt q.value p.value ≡ false
before-le p q h = fails (lt q.value p.value) (λ e. clash (before-trans p q p h (lt-before q p e)) (before-irr p))

-- what is not above comes before, where the row is lower
le-before : (p q : Key) → is_nan p.value ≡ false → is_nan q.value ≡ false → p.row < q.row → lt q.value p.value ≡ false → before p q ≡ true
unfolding before
le-before p q f g l h =
    ⊎_elim (λ e. e)
    (λ e. ⊎_elim (λ t. clash t h) (λ t. clash (and-snd (eq q.value p.value) (ltb q.row p.row) t) (le-ltb q.row p.row (omega arith))) (or_cases (lt q.value p.value) (eq q.value p.value && ltb q.row p.row) e))
    (before-or p q f g (λ e. omega arith))

pub lt-self : (x : Float) → lt x x ≡ false
unfolding before
lt-self x = (or-none (lt x x) (eq x x && ltb 0 0) (before-irr (with_row x 0))).0

pub lt-back : (x y : Float) → lt x y ≡ true → lt y x ≡ false
lt-back x y h = before-le (with_row x 0) (with_row y 0) (lt-before (with_row x 0) (with_row y 0) h)

-- x is not above y, nor y above z: then x is not above z
pub le-on : (x y z : Float) → is_nan x ≡ false → is_nan y ≡ false → is_nan z ≡ false → lt y x ≡ false → lt z y ≡ false → lt z x ≡ false
le-on x y z f g k a b =
    let p = with_row x 0 in
    let q = with_row y 1 in
    let r = with_row z 2 in
    before-le p r (before-trans p q r (le-before p q f g (omega arith) a) (le-before q r g k (omega arith) b))
