-- The order by value and then row is a strict order on keys, and any two keys that hold no NaN and different rows compare.
-- Two or three values are brought to one denominator and moved above zero; then it is the order of natural numbers. Assumes nothing.
use mathlib.Core.Path.{◌≡◌, refl, sym, ap, ap₂, ◌∙◌}
use mathlib.Core.Logic.{◌⊎◌, inl, inr}
use mathlib.Core.Bool.{Bool, true, false, ◌&&◌, ◌||◌}
use Prim.Native.Nat.{ℕ, suc, ◌+◌, ◌-◌, ◌*◌, ◌≤◌, ◌<◌}
use native.Mathlib.Omega.{arith}
use native.Mathlib.Nat.{mul_assoc, mul_comm, mul-pos, add-mul, zero-mul, mul-lt-mul_of_pos_right, lt_of_mul-lt-mul_right, le_refl}
use native.Mathlib.Decide.{dec_lt}
use borrow.Author.Tests.{ltb-true, eqb-true, lt-ltb, le-ltb, eq-eqb, ne_eqb}
use lib.Dec.{ltb, eqb}
use lib.Ieee.{Float, nan, inf, fin, up, down, lt, eq, below, level, is_nan}
use lib.Ieee.Positive.{num, den, den_pos}
use Rattle.lists.proofs.Tests.{clash, and-of, and-fst, and-snd, same_test, and-true}
use Rattle.definition.specs.Keys.{Key, before}

-- two tests on numbers whose facts are the same
same-lt : (a b c d : ℕ) → (a < b → c < d) → (c < d → a < b) → ltb a b ≡ ltb c d
same-lt a b c d f g = same_test (ltb a b) (ltb c d) (λ e. lt-ltb c d (f (ltb-true a b e))) (λ e. lt-ltb a b (g (ltb-true c d e)))

-- a signed number a, moved above zero, for a at most b
abbrev shift : ℕ → Bool → ℕ → ℕ
shift b true a = suc b - a
shift b false a = suc b + a

below-shift : (b r : ℕ) → 0 < r → (s t : Bool) (x y : ℕ) → x * r ≤ b → y * r ≤ b → below s x t y ≡ ltb (shift b s (x * r)) (shift b t (y * r))
below-shift b r p false false x y l m =
    same-lt x y (suc b + x * r) (suc b + y * r) (λ h. let k = mul-lt-mul_of_pos_right h p in omega arith) (λ h. lt_of_mul-lt-mul_right r (omega arith))
below-shift b r p false true x y l m = sym (le-ltb (suc b + x * r) (suc b - y * r) (omega arith))
below-shift b r p true false x y l m =
    same-lt 0 (x + y) (suc b - x * r) (suc b + y * r)
    (λ h. let k = mul-pos h p in let e = add-mul x y r in omega arith)
    (λ h. lt_of_mul-lt-mul_right r (let e = add-mul x y r in let z = zero-mul r in omega arith))
below-shift b r p true true x y l m =
    same-lt y x (suc b - x * r) (suc b - y * r) (λ h. let k = mul-lt-mul_of_pos_right h p in omega arith) (λ h. lt_of_mul-lt-mul_right r (omega arith))

same-eq : (a b c d : ℕ) → (a ≡ b → c ≡ d) → (c ≡ d → a ≡ b) → eqb a b ≡ eqb c d
same-eq a b c d f g = same_test (eqb a b) (eqb c d) (λ e. eq-eqb c d (f (eqb-true a b e))) (λ e. eq-eqb a b (g (eqb-true c d e)))

-- a common factor is cancelled
cancel : (x y r : ℕ) → 0 < r → x * r ≡ y * r → x ≡ y
cancel x y r p e = go (dec_lt x y) (dec_lt y x)
  where
    go : Dec (x < y) → Dec (y < x) → x ≡ y
    go (yes h) d = let k = mul-lt-mul_of_pos_right h p in absurd (omega arith)
    go (no h) (yes k) = let m = mul-lt-mul_of_pos_right k p in absurd (omega arith)
    go (no h) (no k) = omega arith

-- a product that is 0 by a factor above 0
none : (x r : ℕ) → 0 < r → x * r ≡ 0 → x ≡ 0
none x r p e = cancel x 0 r p (e ∙ sym (zero-mul r))

level-shift : (b r : ℕ) → 0 < r → (s t : Bool) (x y : ℕ) → x * r ≤ b → y * r ≤ b → level s x t y ≡ eqb (shift b s (x * r)) (shift b t (y * r))
level-shift b r p false false x y l m =
    and-true (eqb x y) ∙ same-eq x y (suc b + x * r) (suc b + y * r) (λ h. ap (λ (z : ℕ). suc b + z * r) h) (λ h. cancel x y r p (omega arith))
level-shift b r p true true x y l m =
    and-true (eqb x y) ∙ same-eq x y (suc b - x * r) (suc b - y * r) (λ h. ap (λ (z : ℕ). suc b - z * r) h) (λ h. cancel x y r p (omega arith))
level-shift b r p false true x y l m =
    same_test (eqb x y && eqb x 0) (eqb (suc b + x * r) (suc b - y * r))
    (λ h. let e = eqb-true x y (and-fst (eqb x y) (eqb x 0) h) in let z = eqb-true x 0 (and-snd (eqb x y) (eqb x 0) h) in
    let u : x * r ≡ 0 = rw (z, zero-mul) in let v : y * r ≡ 0 = rw (← e, z, zero-mul) in
    eq-eqb (suc b + x * r) (suc b - y * r) (omega arith))
    (λ h. let e = eqb-true (suc b + x * r) (suc b - y * r) h in
    let u = none x r p (omega arith) in let v = none y r p (omega arith) in
    and-of (eq-eqb x y (omega arith)) (eq-eqb x 0 u))
level-shift b r p true false x y l m =
    same_test (eqb x y && eqb x 0) (eqb (suc b - x * r) (suc b + y * r))
    (λ h. let e = eqb-true x y (and-fst (eqb x y) (eqb x 0) h) in let z = eqb-true x 0 (and-snd (eqb x y) (eqb x 0) h) in
    let u : x * r ≡ 0 = rw (z, zero-mul) in let v : y * r ≡ 0 = rw (← e, z, zero-mul) in
    eq-eqb (suc b - x * r) (suc b + y * r) (omega arith))
    (λ h. let e = eqb-true (suc b - x * r) (suc b + y * r) h in
    let u = none x r p (omega arith) in let v = none y r p (omega arith) in
    and-of (eq-eqb x y (omega arith)) (eq-eqb x 0 u))

-- ---- a value as a number: its size times k, moved above zero; the infinities at the two ends
abbrev numeral : ℕ → ℕ → Float → ℕ
numeral b k nan = 0
numeral b k (inf true) = 0
numeral b k (inf false) = suc (suc (b + b))
numeral b k (fin s m e) = shift b s (m * up e * k)

in-range : (b : ℕ) (s : Bool) (a : ℕ) → a ≤ b → (0 < shift b s a) × (shift b s a < suc (suc (b + b)))
in-range b true a h = omega arith
in-range b false a h = omega arith

-- the order of two values that are no NaN is that of their places, over the common denominator den x * den y * r
lt-numeral : (b r : ℕ) → 0 < r → (x y : Float) → is_nan x ≡ false → is_nan y ≡ false
    → num x * (den y * r) ≤ b → num y * (den x * r) ≤ b → lt x y ≡ ltb (numeral b (den y * r) x) (numeral b (den x * r) y)
unfolding lt is_nan
lt-numeral b r p nan y f g l m = clash refl f
lt-numeral b r p (inf s) nan f g l m = clash refl g
lt-numeral b r p (fin s n e) nan f g l m = clash refl g
lt-numeral b r p (inf true) (inf true) f g l m = sym (le-ltb 0 0 (le_refl 0))
lt-numeral b r p (inf true) (inf false) f g l m = sym (lt-ltb 0 (suc (suc (b + b))) (omega arith))
lt-numeral b r p (inf false) (inf true) f g l m = sym (le-ltb (suc (suc (b + b))) 0 (omega arith))
lt-numeral b r p (inf false) (inf false) f g l m = sym (le-ltb (suc (suc (b + b))) (suc (suc (b + b))) (omega arith))
lt-numeral b r p (inf true) (fin t n e) f g l m = sym (lt-ltb 0 (shift b t (n * up e * (1 * r))) (in-range b t (n * up e * (1 * r)) m).0)
lt-numeral b r p (inf false) (fin t n e) f g l m =
    let i = in-range b t (n * up e * (1 * r)) m in sym (le-ltb (suc (suc (b + b))) (shift b t (n * up e * (1 * r))) (omega (arith, i)))
lt-numeral b r p (fin s n e) (inf true) f g l m = sym (le-ltb (shift b s (n * up e * (1 * r))) 0 (omega arith))
lt-numeral b r p (fin s n e) (inf false) f g l m = sym (lt-ltb (shift b s (n * up e * (1 * r))) (suc (suc (b + b))) (in-range b s (n * up e * (1 * r)) l).1)
lt-numeral b r p (fin s n e) (fin t o d) f g l m =
    rw (← mul_assoc (n * up e) (down d) r, ← mul_assoc (o * up d) (down e) r)
    (below-shift b r p s t (n * up e * down d) (o * up d * down e) (rw (mul_assoc (n * up e) (down d) r) l) (rw (mul_assoc (o * up d) (down e) r) m))

eq-numeral : (b r : ℕ) → 0 < r → (x y : Float) → is_nan x ≡ false → is_nan y ≡ false
    → num x * (den y * r) ≤ b → num y * (den x * r) ≤ b → eq x y ≡ eqb (numeral b (den y * r) x) (numeral b (den x * r) y)
unfolding eq is_nan
eq-numeral b r p nan y f g l m = clash refl f
eq-numeral b r p (inf s) nan f g l m = clash refl g
eq-numeral b r p (fin s n e) nan f g l m = clash refl g
eq-numeral b r p (inf true) (inf true) f g l m = sym (eq-eqb 0 0 refl)
eq-numeral b r p (inf true) (inf false) f g l m = sym (ne_eqb 0 (suc (suc (b + b))) (λ q. omega arith))
eq-numeral b r p (inf false) (inf true) f g l m = sym (ne_eqb (suc (suc (b + b))) 0 (λ q. omega arith))
eq-numeral b r p (inf false) (inf false) f g l m = sym (eq-eqb (suc (suc (b + b))) (suc (suc (b + b))) refl)
eq-numeral b r p (inf true) (fin t n e) f g l m =
    let i = in-range b t (n * up e * (1 * r)) m in sym (ne_eqb 0 (shift b t (n * up e * (1 * r))) (λ q. omega (arith, i)))
eq-numeral b r p (inf false) (fin t n e) f g l m =
    let i = in-range b t (n * up e * (1 * r)) m in sym (ne_eqb (suc (suc (b + b))) (shift b t (n * up e * (1 * r))) (λ q. omega (arith, i)))
eq-numeral b r p (fin s n e) (inf true) f g l m =
    let i = in-range b s (n * up e * (1 * r)) l in sym (ne_eqb (shift b s (n * up e * (1 * r))) 0 (λ q. omega (arith, i)))
eq-numeral b r p (fin s n e) (inf false) f g l m =
    let i = in-range b s (n * up e * (1 * r)) l in sym (ne_eqb (shift b s (n * up e * (1 * r))) (suc (suc (b + b))) (λ q. omega (arith, i)))
eq-numeral b r p (fin s n e) (fin t o d) f g l m =
    rw (← mul_assoc (n * up e) (down d) r, ← mul_assoc (o * up d) (down e) r)
    (level-shift b r p s t (n * up e * down d) (o * up d * down e) (rw (mul_assoc (n * up e) (down d) r) l) (rw (mul_assoc (o * up d) (down e) r) m))

-- ---- the order by value and row, over floats and over natural numbers
abbrev prior : Float → ℕ → Float → ℕ → Bool
prior x i y j = lt x y || (eq x y && ltb i j)

abbrev prior_n : ℕ → ℕ → ℕ → ℕ → Bool
prior_n n i m j = ltb n m || (eqb n m && ltb i j)

fact : (n i m j : ℕ) → prior_n n i m j ≡ true → (n < m) ⊎ ((n ≡ m) × (i < j))
fact n i m j h = go (ltb n m) refl h
  where
    go : (c : Bool) → ltb n m ≡ c → c || (eqb n m && ltb i j) ≡ true → (n < m) ⊎ ((n ≡ m) × (i < j))
    go true e k = inl (ltb-true n m e)
    go false e k = inr (eqb-true n m (and-fst (eqb n m) (ltb i j) k), ltb-true i j (and-snd (eqb n m) (ltb i j) k))

test : (n i m j : ℕ) → (n < m) ⊎ ((n ≡ m) × (i < j)) → prior_n n i m j ≡ true
test n i m j (inl h) = rw (lt-ltb n m h)
test n i m j (inr h) = rw (le-ltb n m (omega arith), eq-eqb n m h.0, lt-ltb i j h.1)

left-known : (x y : Float) (i j : ℕ) → prior x i y j ≡ true → is_nan x ≡ false
unfolding lt eq is_nan
left-known nan y i j h = clash h refl
left-known (inf s) y i j h = refl
left-known (fin s m e) y i j h = refl

right-known : (x y : Float) (i j : ℕ) → prior x i y j ≡ true → is_nan y ≡ false
unfolding lt eq is_nan
right-known nan nan i j h = clash h refl
right-known (inf s) nan i j h = clash h refl
right-known (fin s m e) nan i j h = clash h refl
right-known x (inf t) i j h = refl
right-known x (fin t n d) i j h = refl

-- over one denominator: b bounds the sizes
prior-numeral : (b r : ℕ) → 0 < r → (x y : Float) (i j : ℕ) → is_nan x ≡ false → is_nan y ≡ false
    → num x * (den y * r) ≤ b → num y * (den x * r) ≤ b → prior x i y j ≡ prior_n (numeral b (den y * r) x) i (numeral b (den x * r) y) j
prior-numeral b r p x y i j f g l m =
    ap₂ (λ (u v : Bool). u || (v && ltb i j)) (lt-numeral b r p x y f g l m) (eq-numeral b r p x y f g l m)

step : (n i m j o k : ℕ) → prior_n n i m j ≡ true → prior_n m j o k ≡ true → prior_n n i o k ≡ true
step n i m j o k h g = test n i o k (go (fact n i m j h) (fact m j o k g))
  where
    go : (n < m) ⊎ ((n ≡ m) × (i < j)) → (m < o) ⊎ ((m ≡ o) × (j < k)) → (n < o) ⊎ ((n ≡ o) × (i < k))
    go (inl a) (inl c) = inl (omega arith)
    go (inl a) (inr c) = inl (omega arith)
    go (inr a) (inl c) = inl (omega arith)
    go (inr a) (inr c) = inr (omega arith, omega arith)

prior-trans : (x y z : Float) (i j k : ℕ) → prior x i y j ≡ true → prior y j z k ≡ true → prior x i z k ≡ true
prior-trans x y z i j k h g =
    let fx = left-known x y i j h in
    let fy = right-known x y i j h in
    let fz = right-known y z j k g in
    let b = num x * (den y * den z) + num y * (den x * den z) + num z * (den x * den y) in
    let xy = prior-numeral b (den z) (den_pos z) x y i j fx fy (omega arith) (omega arith) in
    let yz = prior-numeral b (den x) (den_pos x) y z j k fy fz (rw (mul_comm (den z) (den x)) (omega arith)) (rw (mul_comm (den y) (den x)) (omega arith)) in
    let xz = prior-numeral b (den y) (den_pos y) x z i k fx fz (rw (mul_comm (den z) (den y)) (omega arith)) (omega arith) in
    rw (xz, mul_comm (den z) (den y))
    (step (numeral b (den y * den z) x) i (numeral b (den x * den z) y) j (numeral b (den x * den y) z) k
    (rw xy at h)
    (rw (yz, mul_comm (den z) (den x), mul_comm (den y) (den x)) at g))

-- ---- the laws of `before`
pub before-trans : (p q r : Key) → before p q ≡ true → before q r ≡ true → before p r ≡ true
unfolding before
before-trans p q r h g = prior-trans p.value q.value r.value p.row q.row r.row h g

irr_n : (n i : ℕ) → prior_n n i n i ≡ false
irr_n n i = rw (le-ltb n n (le_refl n), eq-eqb n n refl, le-ltb i i (le_refl i))

prior-irr : (x : Float) (i : ℕ) → prior x i x i ≡ false
unfolding lt eq is_nan
prior-irr nan i = refl
prior-irr (inf s) i =
    let b = num (inf s) * (den (inf s) * 1) in
    prior-numeral b 1 (omega arith) (inf s) (inf s) i i refl refl (le_refl b) (le_refl b) ∙ irr_n (numeral b (den (inf s) * 1) (inf s)) i
prior-irr (fin s m e) i =
    let b = num (fin s m e) * (den (fin s m e) * 1) in
    prior-numeral b 1 (omega arith) (fin s m e) (fin s m e) i i refl refl (le_refl b) (le_refl b) ∙ irr_n (numeral b (den (fin s m e) * 1) (fin s m e)) i

pub before-irr : (p : Key) → before p p ≡ false
unfolding before
before-irr p = prior-irr p.value p.row

-- two keys without a NaN and with different rows compare
pub before-or : (p q : Key) → is_nan p.value ≡ false → is_nan q.value ≡ false → (p.row ≡ q.row → ⊥) → (before p q ≡ true) ⊎ (before q p ≡ true)
unfolding before
before-or p q f g d =
    let x = p.value in
    let y = q.value in
    let b = num x * (den y * 1) + num y * (den x * 1) in
    let pq = prior-numeral b 1 (omega arith) x y p.row q.row f g (omega arith) (omega arith) in
    let qp = prior-numeral b 1 (omega arith) y x q.row p.row g f (omega arith) (omega arith) in
    go (numeral b (den y * 1) x) (numeral b (den x * 1) y) pq qp
  where
    go : (n m : ℕ) → prior p.value p.row q.value q.row ≡ prior_n n p.row m q.row
        → prior q.value q.row p.value p.row ≡ prior_n m q.row n p.row
        → (prior p.value p.row q.value q.row ≡ true) ⊎ (prior q.value q.row p.value p.row ≡ true)
    go n m u v = by (dec_lt n m) (dec_lt m n) (dec_lt p.row q.row)
      where
        by : Dec (n < m) → Dec (m < n) → Dec (p.row < q.row) → (prior p.value p.row q.value q.row ≡ true) ⊎ (prior q.value q.row p.value p.row ≡ true)
        by (yes h) k l = inl (u ∙ test n p.row m q.row (inl h))
        by (no h) (yes k) l = inr (v ∙ test m q.row n p.row (inl k))
        by (no h) (no k) (yes l) = inl (u ∙ test n p.row m q.row (inr (omega arith, l)))
        by (no h) (no k) (no l) = inr (v ∙ test m q.row n p.row (inr (omega arith, omega arith)))
