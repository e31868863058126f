-- On one axis: the rounded square of the rounded difference is least to the clamped value. Assumes nothing.
use mathlib.Core.Path.{◌≡◌, refl, sym, ap, ◌∙◌, subst}
use mathlib.Core.Bool.{Bool, true, false, beq, cond, true≢false}
use mathlib.Core.Logic.{⊎_elim}
use Prim.Native.Nat.{ℕ, ◌+◌, ◌-◌, ◌*◌, ◌≤◌, ◌<◌}
use native.Mathlib.Nat.{le_trans, le_of_eq, mul-le-mul_left, mul-pos, mul_comm, mul_left_comm, mul-add, mul-sub, mul-lt-mul_of_pos_right}
use native.Mathlib.Omega.{arith}
use borrow.Author.Tests.{ltb-true, ltb-false, lt-ltb, le-ltb}
use lib.Dec.{T, ltb}
use lib.IntN.{ℤ}
use lib.Ieee.{Float, nan, inf, fin, binary64, up, down, below, lt, le}
use lib.Ieee.Scale.{finite}
use lib.Ieee.Fits.{down_pos}
use lib.Ieee.Order.{round_mono}
use Rattle.lists.proofs.Tests.{true-or-false, cond-true, cond-false}
use Rattle.definition.specs.Number.{minus, product}
use Rattle.definition.specs.Gap.{clamped}
use Rattle.gap_laws.proofs.Signs.{apart, squared, minus-square}
use Rattle.gap_laws.proofs.Monotone.{round-good, square-mono}

-- ---- three numbers with their signs, over one divisor: what lies beyond c, as seen from q, is no nearer than c

-- q < c, and p is not below c
beyond-up : (s t u : Bool) (X Y Z : ℕ) → below s X t Y ≡ true → below u Z t Y ≡ false → apart s X t Y ≤ apart s X u Z
beyond-up false false false X Y Z h k = omega (arith, ltb-true X Y h, ltb-false Z Y k)
beyond-up false false true X Y Z h k = absurd (omega (arith, ltb-true X Y h, ltb-false 0 (Z + Y) k))
beyond-up false true u X Y Z h k = absurd (true≢false (sym h))
beyond-up true false false X Y Z h k = omega (arith, ltb-false Z Y k)
beyond-up true false true X Y Z h k = omega (arith, ltb-false 0 (Z + Y) k)
beyond-up true true false X Y Z h k = omega (arith, ltb-true Y X h)
beyond-up true true true X Y Z h k = omega (arith, ltb-true Y X h, ltb-false Y Z k)

-- c < q, and c is not below p
beyond-down : (s t u : Bool) (X Y Z : ℕ) → below t Y s X ≡ true → below t Y u Z ≡ false → apart s X t Y ≤ apart s X u Z
beyond-down false false false X Y Z h k = omega (arith, ltb-true Y X h, ltb-false Y Z k)
beyond-down false false true X Y Z h k = omega (arith, ltb-true Y X h)
beyond-down false true false X Y Z h k = omega (arith, ltb-false 0 (Y + Z) k)
beyond-down false true true X Y Z h k = omega (arith, ltb-false Z Y k)
beyond-down true false u X Y Z h k = absurd (true≢false (sym h))
beyond-down true true false X Y Z h k = absurd (omega (arith, ltb-true X Y h, ltb-false 0 (Y + Z) k))
beyond-down true true true X Y Z h k = omega (arith, ltb-true X Y h, ltb-false Z Y k)

-- ---- over divisors of their own
apart-scaled : (z : ℕ) (s : Bool) (a : ℕ) (t : Bool) (b : ℕ) → apart s (z * a) t (z * b) ≡ z * apart s a t b
apart-scaled z s a t b = go (beq s t)
  where
    go : (x : Bool) → cond x ((z * a - z * b) + (z * b - z * a)) (z * a + z * b) ≡ z * cond x ((a - b) + (b - a)) (a + b)
    go true = ap (λ (n : ℕ). n + (z * b - z * a)) (sym (mul-sub z a b)) ∙ ap (λ (n : ℕ). z * (a - b) + n) (sym (mul-sub z b a)) ∙ sym (mul-add z (a - b) (b - a))
    go false = sym (mul-add z a b)

ltb-scaled : (z a b : ℕ) → 0 < z → ltb (z * a) (z * b) ≡ ltb a b
ltb-scaled z a b p =
    ⊎_elim
    (λ h. lt-ltb (z * a) (z * b) (more (ltb-true a b h)) ∙ sym h)
    (λ h. le-ltb (z * a) (z * b) (mul-le-mul_left z (ltb-false a b h)) ∙ sym h)
    (true-or-false (ltb a b))
  where
    more : a < b → z * a < z * b
    more l = subst (λ (x : ℕ). x < z * b) (mul_comm a z) (subst (λ (x : ℕ). a * z < x) (mul_comm b z) (mul-lt-mul_of_pos_right l p))

below-scaled : (z : ℕ) (s : Bool) (a : ℕ) (t : Bool) (b : ℕ) → 0 < z → below s (z * a) t (z * b) ≡ below s a t b
below-scaled z false a false b p = ltb-scaled z a b p
below-scaled z false a true b p = refl
below-scaled z true a false b p = ap (λ (n : ℕ). ltb 0 n) (sym (mul-add z a b)) ∙ ap (λ (n : ℕ). ltb n (z * (a + b))) (sym (times-zero z)) ∙ ltb-scaled z 0 (a + b) p
  where
    times-zero : (z : ℕ) → z * 0 ≡ 0
    times-zero z = omega arith
below-scaled z true a true b p = ltb-scaled z b a p

module _ (s t u : Bool) (Q L P dq dl dp : ℕ) (hq : 0 < dq) (hl : 0 < dl) (hp : 0 < dp) where
  x-is : dl * (Q * dp) ≡ dp * (Q * dl)
  x-is = simp (mul_comm, mul_left_comm)

  y-is : dq * (L * dp) ≡ dp * (L * dq)
  y-is = simp (mul_comm, mul_left_comm)

  z-is : dq * (P * dl) ≡ dl * (P * dq)
  z-is = simp (mul_comm, mul_left_comm)

  -- the two sizes, over one divisor
  widened : apart s (dp * (Q * dl)) t (dp * (L * dq)) ≤ apart s (dp * (Q * dl)) u (dl * (P * dq))
      → apart s (Q * dl) t (L * dq) * (dq * dp) ≤ apart s (Q * dp) u (P * dq) * (dq * dl)
  widened h =
      let a = apart s (Q * dl) t (L * dq) in
      let b = apart s (Q * dp) u (P * dq) in
      let l : dp * a ≤ dl * b =
      le_trans (le_of_eq (sym (apart-scaled dp s (Q * dl) t (L * dq))))
      (le_trans h (le_of_eq (ap (λ (n : ℕ). apart s n u (dl * (P * dq))) (sym x-is) ∙ apart-scaled dl s (Q * dp) u (P * dq)))) in
      le_trans (le_of_eq (turn a dq dp)) (le_trans (mul-le-mul_left dq l) (le_of_eq (sym (turn b dq dl))))
    where
      turn : (a q p : ℕ) → a * (q * p) ≡ q * (p * a)
      turn a q p = simp (mul_comm, mul_left_comm)

  far-up : below s (Q * dl) t (L * dq) ≡ true → below u (P * dl) t (L * dp) ≡ false
      → apart s (Q * dl) t (L * dq) * (dq * dp) ≤ apart s (Q * dp) u (P * dq) * (dq * dl)
  far-up h k =
      widened
      (beyond-up s t u (dp * (Q * dl)) (dp * (L * dq)) (dl * (P * dq)) (below-scaled dp s (Q * dl) t (L * dq) hp ∙ h)
      (ap (λ (n : ℕ). below u n t (dp * (L * dq))) (sym z-is) ∙ ap (λ (n : ℕ). below u (dq * (P * dl)) t n) (sym y-is) ∙ below-scaled dq u (P * dl) t (L * dp) hq ∙ k))

  far-down : below t (L * dq) s (Q * dl) ≡ true → below t (L * dp) u (P * dl) ≡ false
      → apart s (Q * dl) t (L * dq) * (dq * dp) ≤ apart s (Q * dp) u (P * dq) * (dq * dl)
  far-down h k =
      widened
      (beyond-down s t u (dp * (Q * dl)) (dp * (L * dq)) (dl * (P * dq)) (below-scaled dp t (L * dq) s (Q * dl) hp ∙ h)
      (ap (λ (n : ℕ). below t (dp * (L * dq)) u n) (sym z-is) ∙ ap (λ (n : ℕ). below t n u (dq * (P * dl))) (sym y-is) ∙ below-scaled dq t (L * dp) u (P * dl) hq ∙ k))

-- ---- one axis

-- the square of the rounded difference
abbrev pub square : Float → Float → Float
square q p = product (minus q p) (minus q p)

module _ (s : Bool) (m : ℕ) (e : ℤ) (t : Bool) (n : ℕ) (d : ℤ) (u : Bool) (k : ℕ) (g : ℤ) where
  nearer :
      apart s (m * up e * down d) t (n * up d * down e) * (down e * down g) ≤ apart s (m * up e * down g) u (k * up g * down e) * (down e * down d)
      → T (le (square (fin s m e) (fin t n d)) (square (fin s m e) (fin u k g)))
  nearer h =
      let a = apart s (m * up e * down d) t (n * up d * down e) in
      let b = apart s (m * up e * down g) u (k * up g * down e) in
      subst (λ (x : Float). T (le x (square (fin s m e) (fin u k g)))) (sym (minus-square s m e t n d))
      (subst (λ (x : Float). T (le (squared a (down e * down d)) x)) (sym (minus-square s m e u k g))
      (square-mono _ _ (round-good a (down e * down d)) (round-good b (down e * down g))
      (round_mono binary64 a (down e * down d) b (down e * down g) (mul-pos (down_pos e) (down_pos d)) (mul-pos (down_pos e) (down_pos g)) h)))

  -- q < c, and p is not below c
  up-nearer : lt (fin s m e) (fin t n d) ≡ true → lt (fin u k g) (fin t n d) ≡ false → T (le (square (fin s m e) (fin t n d)) (square (fin s m e) (fin u k g)))
  unfolding lt
  up-nearer h l = nearer (far-up s t u (m * up e) (n * up d) (k * up g) (down e) (down d) (down g) (down_pos e) (down_pos d) (down_pos g) h l)

  -- c < q, and c is not below p
  down-nearer : lt (fin t n d) (fin s m e) ≡ true → lt (fin t n d) (fin u k g) ≡ false → T (le (square (fin s m e) (fin t n d)) (square (fin s m e) (fin u k g)))
  unfolding lt
  down-nearer h l = nearer (far-down s t u (m * up e) (n * up d) (k * up g) (down e) (down d) (down g) (down_pos e) (down_pos d) (down_pos g) h l)

-- a finite value, by its parts
data Parts : Float → Type 0 where
  parts : (s : Bool) (m : ℕ) (e : ℤ) → Parts (fin s m e)

parts-of : (x : Float) → finite x ≡ true → Parts x
parts-of nan h = absurd (true≢false (sym h))
parts-of (inf s) h = absurd (true≢false (sym h))
parts-of (fin s m e) h = parts s m e

itself : (s : Bool) (a : ℕ) → apart s a s a ≡ 0
itself true a = omega arith
itself false a = omega arith

zero-least : (a b c d : ℕ) → a ≡ 0 → a * b ≤ c * d
zero-least a b c d h = le_trans (le_of_eq (ap (λ (n : ℕ). n * b) h)) (omega arith)

self-nearer : {q p : Float} → Parts q → Parts p → T (le (square q q) (square q p))
self-nearer (parts s m e) (parts u k g) =
    nearer s m e s m e u k g (zero-least _ (down e * down g) _ (down e * down e) (itself s (m * up e * down e)))

above : {q c p : Float} → Parts q → Parts c → Parts p → lt q c ≡ true → lt p c ≡ false → T (le (square q c) (square q p))
above (parts s m e) (parts t n d) (parts u k g) h l = up-nearer s m e t n d u k g h l

beneath : {q c p : Float} → Parts q → Parts c → Parts p → lt c q ≡ true → lt c p ≡ false → T (le (square q c) (square q p))
beneath (parts s m e) (parts t n d) (parts u k g) h l = down-nearer s m e t n d u k g h l

-- On one axis: the square of the rounded difference to the nearest value between the bounds is at most that to any value between them.
pub axis-nearer :
    (q lo hi p : Float) → finite q ≡ true → finite lo ≡ true → finite hi ≡ true → finite p ≡ true → lt p lo ≡ false → lt hi p ≡ false
    → T (le (square q (clamped lo hi q)) (square q p))
unfolding clamped
axis-nearer q lo hi p fq fl fh fp a b =
    ⊎_elim
    (λ h. subst (λ (c : Float). T (le (square q c) (square q p))) (sym (cond-true (lt q lo) lo (cond (lt hi q) hi q) h)) (above (parts-of q fq) (parts-of lo fl) (parts-of p fp) h a))
    (λ h. subst (λ (c : Float). T (le (square q c) (square q p))) (sym (cond-false (lt q lo) lo (cond (lt hi q) hi q) h))
    (⊎_elim
    (λ k. subst (λ (c : Float). T (le (square q c) (square q p))) (sym (cond-true (lt hi q) hi q k)) (beneath (parts-of q fq) (parts-of hi fh) (parts-of p fp) k b))
    (λ k. subst (λ (c : Float). T (le (square q c) (square q p))) (sym (cond-false (lt hi q) hi q k)) (self-nearer (parts-of q fq) (parts-of p fp)))
    (true-or-false (lt hi q))))
    (true-or-false (lt q lo))
