-- The leftover seats: by the leaves before a leaf, and the same by a cut. Assumes nothing.
-- Holds: extra_at, one-lt, one-ge, cut-from, by_le, extra-is, sum-extra, extra-none, extra-le
use Prim.Native.Nat.{ℕ, zero, suc, ◌+◌, ◌-◌, ◌≤◌, ◌<◌, min, zero-le}
use mathlib.Core.Path.{◌≡◌, refl, sym, ap, ◌∙◌}
use mathlib.Core.Logic.{⊎_elim}
use mathlib.Core.Bool.{Bool, true, false, ◌&&◌, ◌||◌}
use mathlib.Core.List.{map}
use native.Mathlib.Nat.{le_refl, eq-or-lt_of_le}
use native.Mathlib.Omega.{arith}
use lib.Dec.{leb, ltb, eqb}
use borrow.Author.Tests.{leb-true, leb-false, lt-ltb, le-ltb, eq-eqb, ne_eqb}
use Rattle.lists.specs.Lists.{one_if, count, total, from, least}
use Rattle.lists.proofs.Tests.{le-or-lt, and-true}
use Rattle.lists.proofs.From.{count-below-same, count-below-nil, count-below-snoc}
use Rattle.lists.proofs.Sums.{sum-below-nil, sum-below-snoc, count-below-le, count-below-two, count-below-two-le, count-below-le-two}
use Rattle.lists.proofs.Least.{least-high, least-before, least-holds}
use Rattle.definition.specs.Quotas.{comes_before_lem, leaves_before}
use Rattle.definition.specs.SeatCut.{above, ties, extra_by, CutBy}

-- the leftover seat of leaf i, of n leaves with the remainders r: 1 where fewer leaves than there are leftover seats come before it
abbrev pub extra_at : ℕ → (ℕ → ℕ) → ℕ → ℕ → ℕ
extra_at n r left i = one_if (ltb (leaves_before n r i) left)

-- ---- the three ways in which two numbers stand
data Way (a b : ℕ) : Type 0 where
  less : a < b → Way a b
  same : a ≡ b → Way a b
  more : b < a → Way a b

way : (a b : ℕ) → Way a b
way a b = ⊎_elim (λ h. ⊎_elim (λ e. same e) (λ l. less l) (eq-or-lt_of_le h)) (λ l. more l) (le-or-lt a b)

-- ---- tests as numbers
pub one-lt : (a b : ℕ) → a < b → one_if (ltb a b) ≡ 1
one-lt a b h = ap one_if (lt-ltb a b h)

pub one-ge : (a b : ℕ) → b ≤ a → one_if (ltb a b) ≡ 0
one-ge a b h = ap one_if (le-ltb a b h)

one-eq : (a b : ℕ) → a ≡ b → one_if (eqb a b) ≡ 1
one-eq a b h = ap one_if (eq-eqb a b h)

one-ne : (a b : ℕ) → (a ≡ b → ⊥) → one_if (eqb a b) ≡ 0
one-ne a b h = ap one_if (ne_eqb a b h)

and-false : (b : Bool) → one_if (b && false) ≡ 0
and-false true = refl
and-false false = refl

or-ge : (a b : Bool) → one_if a ≤ one_if (a || b)
or-ge true b = le_refl 1
or-ge false b = zero-le

module _ (n : ℕ) (r : ℕ → ℕ) where
  -- those above a number and those equal to it are all above a smaller one
  above-ties : (s t : ℕ) → s < t → above n r t + ties n r t ≤ above n r s
  above-ties s t h = count-below-two-le n (λ j. ltb t (r j)) (λ j. eqb (r j) t) (λ j. ltb s (r j)) (λ j _. at (r j) (way t (r j)))
    where
      at : (x : ℕ) → Way t x → one_if (ltb t x) + one_if (eqb x t) ≤ one_if (ltb s x)
      at x (less l) = omega (arith, one-lt t x l, one-ne x t (λ e. omega arith), one-lt s x (omega arith))
      at x (same e) = omega (arith, one-ge t x (omega arith), one-eq x t (sym e), one-lt s x (omega arith))
      at x (more l) = omega (arith, one-ge t x (omega arith), one-ne x t (λ e. omega arith))

  -- and those above a number are above the next one, or equal to that
  above_step : (s : ℕ) → above n r s ≤ above n r (suc s) + ties n r (suc s)
  above_step s = count-below-le-two n (λ j. ltb (suc s) (r j)) (λ j. eqb (r j) (suc s)) (λ j. ltb s (r j)) (λ j _. at (r j) (way (suc s) (r j)))
    where
      at : (x : ℕ) → Way (suc s) x → one_if (ltb s x) ≤ one_if (ltb (suc s) x) + one_if (eqb x (suc s))
      at x (less l) = omega (arith, one-lt (suc s) x l, one-lt s x (omega arith))
      at x (same e) = omega (arith, one-eq x (suc s) (sym e), one-lt s x (omega arith))
      at x (more l) = omega (arith, one-ge s x (omega arith))

-- a leaf whose remainder is above t has fewer leaves before it than there are above t
ahead-below : (r : ℕ → ℕ) (t i : ℕ) → t < r i → (m : ℕ) → i < m → above m r (r i) + ties i r (r i) < above m r t
ahead-below r t i h zero l = absurd (omega arith)
ahead-below r t i h (suc m) l =
    ⊎_elim
    (λ (e : suc i ≡ suc m). let e' : i ≡ m = omega arith in at_last m e')
    (λ (k : suc i < suc m). let k' : i < m = omega arith in later m k' (ahead-below r t i h m k'))
    (eq-or-lt_of_le l)
  where
    at_last : (m : ℕ) → i ≡ m → above (suc m) r (r i) + ties i r (r i) < above (suc m) r t
    at_last m e =
        let q = ap r e in
        rw (← e)
        (omega (
          arith,
          count-below-snoc i (λ j. ltb (r i) (r j)),
          count-below-snoc i (λ j. ltb t (r j)),
          above-ties i r t (r i) h,
          one-ge (r i) (r i) (le_refl _),
          one-lt t (r i) h,
        ))

    later : (m : ℕ) → i < m → above m r (r i) + ties i r (r i) < above m r t → above (suc m) r (r i) + ties i r (r i) < above (suc m) r t
    later m k ih =
        omega (arith, count-below-snoc m (λ j. ltb (r i) (r j)), count-below-snoc m (λ j. ltb t (r j)), at (r m))
      where
        at : (x : ℕ) → one_if (ltb (r i) x) ≤ one_if (ltb t x)
        at x = ⊎_elim (λ l. omega (arith, one-ge (r i) x l)) (λ l. omega (arith, one-lt (r i) x l, one-lt t x (omega arith))) (le-or-lt x (r i))

-- ---- the leaves before a leaf: those above its remainder, and the lower ones with an equal remainder
lower-ties : (n : ℕ) (r : ℕ → ℕ) (v i : ℕ) → i ≤ n → count (λ j. eqb (r j) v && ltb j i) (from 0 n) ≡ ties i r v
lower-ties zero r v i h = let e : i ≡ 0 = omega arith in rw e (count-below-nil _ ∙ sym (count-below-nil _))
lower-ties (suc n) r v i h =
    ⊎_elim
    (λ (e : i ≡ suc n). count-below-same (λ j. eqb (r j) v && ltb j i) (λ j. eqb (r j) v) (suc n) (λ j l. lower j (omega arith)) ∙ ap (λ (x : ℕ). ties x r v) (sym e))
    (λ (l : i < suc n). omega (arith, count-below-snoc n (λ j. eqb (r j) v && ltb j i), lower-ties n r v i (omega arith), higher (omega arith)))
    (eq-or-lt_of_le h)
  where
    lower : (j : ℕ) → j < i → eqb (r j) v && ltb j i ≡ eqb (r j) v
    lower j l = rw (lt-ltb j i l) (and-true (eqb (r j) v))

    higher : i ≤ n → one_if (eqb (r n) v && ltb n i) ≡ 0
    higher l = rw (le-ltb n i l) (and-false (eqb (r n) v))

module _ (n : ℕ) (r : ℕ → ℕ) (i : ℕ) where
  before-is : i ≤ n → leaves_before n r i ≡ above n r (r i) + ties i r (r i)
  unfolding leaves_before
  before-is h =
      count-below-two n (λ j. ltb (r i) (r j)) (λ j. eqb (r j) (r i) && ltb j i) (λ j. comes_before_lem r j i) (λ j _. at (r j) (ltb j i) (way (r i) (r j)))
      ∙ ap (λ (x : ℕ). above n r (r i) + x) (lower-ties n r (r i) i h)
    where
      at : (x : ℕ) (b : Bool) → Way (r i) x → one_if (ltb (r i) x || (eqb x (r i) && b)) ≡ one_if (ltb (r i) x) + one_if (eqb x (r i) && b)
      at x b (less l) = simp (lt-ltb (r i) x l, ne_eqb x (r i) (λ e. omega arith))
      at x b (same e) = simp (le-ltb (r i) x (omega arith)) (omega arith)
      at x b (more l) = simp (le-ltb (r i) x (omega arith)) (omega arith)

  before-ge : above n r (r i) ≤ leaves_before n r i
  unfolding leaves_before
  before-ge = count-below-le n (λ j. ltb (r i) (r j)) (λ j. comes_before_lem r j i) (λ j _. or-ge (ltb (r i) (r j)) (eqb (r j) (r i) && ltb j i))

-- ---- a cut
pub cut-from : (n : ℕ) (r : ℕ → ℕ) (left t : ℕ) → left ≤ above n r 0 → above n r t ≤ left → ((s : ℕ) → s < t → left < above n r s) → CutBy n r left t
cut-from n r left zero few low below = record { low = low; high = omega arith }
cut-from n r left (suc s) few low below = record { low = low; high = omega (arith, above_step n r s, below s (omega arith)) }

-- the seat by a cut
by_less : (x t l : ℕ) → t < x → extra_by x t l ≡ 1
unfolding extra_by
by_less x t l h = simp (lt-ltb t x h)

by-same : (x t l : ℕ) → x ≡ t → extra_by x t l ≡ min 1 l
unfolding extra_by
by-same x t l e = simp (le-ltb t x (omega arith), eq-eqb x t e) (⊎_elim (λ (h : l ≤ 0). omega (arith, one-ge 0 l h)) (λ h. omega (arith, one-lt 0 l h)) (le-or-lt l 0))

by-more : (x t l : ℕ) → x < t → extra_by x t l ≡ 0
unfolding extra_by
by-more x t l h = simp (le-ltb t x (omega arith), ne_eqb x t (λ e. omega arith))

pub by_le : (x t l : ℕ) → extra_by x t l ≤ 1
by_le x t l = at (way t x)
  where
    at : Way t x → extra_by x t l ≤ 1
    at (less h) = omega (arith, by_less x t l h)
    at (same e) = omega (arith, by-same x t l (sym e))
    at (more h) = omega (arith, by-more x t l h)

module _ (n : ℕ) (r : ℕ → ℕ) (left t : ℕ) (k : CutBy n r left t) where
  -- the seat of leaf i, by the leaves before it and by the cut
  pub extra-is : (i : ℕ) → i < n → extra_at n r left i ≡ extra_by (r i) t (left - above n r t - ties i r t)
  extra-is i h = at (way t (r i))
    where
      at : Way t (r i) → extra_at n r left i ≡ extra_by (r i) t (left - above n r t - ties i r t)
      at (less l) =
          let q : leaves_before n r i < left = omega (arith, before-is n r i (omega arith), ahead-below r t i l n h, k.low) in
          one-lt (leaves_before n r i) left q ∙ sym (by_less (r i) t (left - above n r t - ties i r t) l)
      at (same e) =
          let p = before-is n r i (omega arith) in
          let a : above n r (r i) ≡ above n r t = ap (λ (x : ℕ). above n r x) (sym e) in
          let b : ties i r (r i) ≡ ties i r t = ap (λ (x : ℕ). ties i r x) (sym e) in
          ⊎_elim
          (λ (q : left ≤ leaves_before n r i). omega (arith, one-ge (leaves_before n r i) left q, by-same (r i) t (left - above n r t - ties i r t) (sym e), a, b))
          (λ (q : leaves_before n r i < left). omega (arith, one-lt (leaves_before n r i) left q, by-same (r i) t (left - above n r t - ties i r t) (sym e), a, b))
          (le-or-lt left (leaves_before n r i))
      at (more l) =
          let q : left ≤ leaves_before n r i = omega (arith, before-ge n r i, above-ties n r (r i) t l, k.high) in
          one-ge (leaves_before n r i) left q ∙ sym (by-more (r i) t (left - above n r t - ties i r t) l)

  -- as many seats are given as there are
  sum-so-far : (m : ℕ) → m ≤ n → total (map (extra_at n r left) (from 0 m)) ≡ above m r t + min (left - above n r t) (ties m r t)
  sum-so-far zero h = omega (arith, sum-below-nil (extra_at n r left), count-below-nil (λ j. ltb t (r j)), count-below-nil (λ j. eqb (r j) t))
  sum-so-far (suc m) h =
      at (way t (r m)) (sum-so-far m (omega arith)) (extra-is m h) (sum-below-snoc m (extra_at n r left))
      (count-below-snoc m (λ j. ltb t (r j))) (count-below-snoc m (λ j. eqb (r j) t))
    where
      at : Way t (r m)
          → total (map (extra_at n r left) (from 0 m)) ≡ above m r t + min (left - above n r t) (ties m r t)
          → extra_at n r left m ≡ extra_by (r m) t (left - above n r t - ties m r t)
          → total (map (extra_at n r left) (from 0 (suc m))) ≡ total (map (extra_at n r left) (from 0 m)) + extra_at n r left m
          → above (suc m) r t ≡ above m r t + one_if (ltb t (r m))
          → ties (suc m) r t ≡ ties m r t + one_if (eqb (r m) t)
          → total (map (extra_at n r left) (from 0 (suc m))) ≡ above (suc m) r t + min (left - above n r t) (ties (suc m) r t)
      at (less l) ih x a b d =
          omega (arith, by_less (r m) t (left - above n r t - ties m r t) l, one-lt t (r m) l, one-ne (r m) t (λ e. omega arith))
      at (same e) ih x a b d =
          omega (arith, by-same (r m) t (left - above n r t - ties m r t) (sym e), one-ge t (r m) (omega arith), one-eq (r m) t (sym e))
      at (more l) ih x a b d =
          omega (arith, by-more (r m) t (left - above n r t - ties m r t) l, one-ge t (r m) (omega arith), one-ne (r m) t (λ e. omega arith))

  sum-by-cut : total (map (extra_at n r left) (from 0 n)) ≡ left
  sum-by-cut = omega (arith, sum-so-far n (le_refl n), k.low, k.high)

-- there is a cut, if no more seats are left than there are remainders above 0, and few enough remainders are above some number
pub sum-extra : (n : ℕ) (r : ℕ → ℕ) (left top : ℕ) → left ≤ above n r 0 → above n r top ≤ left → total (map (extra_at n r left) (from 0 n)) ≡ left
sum-extra n r left top few low =
    sum-by-cut n r left t (cut-from n r left t few at (λ s h. leb-false _ _ (least-before p top s h)))
  where
    p : ℕ → Bool
    p s = leb (above n r s) left

    t : ℕ
    t = least p top

    at : above n r t ≤ left
    at = ⊎_elim (λ (e : t ≡ top). rw e low) (λ (l : t < top). leb-true _ _ (least-holds p top l)) (eq-or-lt_of_le (least-high p top))

-- a leaf with no remainder gets no leftover seat
pub extra-none : (n : ℕ) (r : ℕ → ℕ) (left i : ℕ) → left ≤ above n r 0 → r i ≡ 0 → extra_at n r left i ≡ 0
extra-none n r left i few e = one-ge (leaves_before n r i) left (let a : above n r (r i) ≡ above n r 0 = ap (λ (x : ℕ). above n r x) e in omega (arith, before-ge n r i))

pub extra-le : (n : ℕ) (r : ℕ → ℕ) (left i : ℕ) → extra_at n r left i ≤ 1
extra-le n r left i =
    ⊎_elim (λ (q : left ≤ leaves_before n r i). omega (arith, one-ge (leaves_before n r i) left q)) (λ (q : leaves_before n r i < left). omega (arith, one-lt (leaves_before n r i) left q)) (le-or-lt left (leaves_before n r i))
