-- The two sharings that make the quotas, and that the quotas are fair. Assumes nothing.
-- Holds: capacity-one, capacity-none, capacity-at, for-each, for-none, quotas-held, quotas-length, fair-for, fair
use Prim.Native.Nat.{ℕ, ◌+◌, ◌-◌, ◌*◌, ◌≤◌, ◌<◌, min}
use mathlib.Core.Path.{◌≡◌, refl, sym, ap, ◌∙◌}
use mathlib.Core.Logic.{inl, inr, ⊎_elim}
use mathlib.Core.Bool.{true}
use mathlib.Core.List.{List, [], ◌∷◌, map}
use native.Mathlib.Nat.{sub-zero, zero-add}
use native.Mathlib.Omega.{arith}
use lib.Dec.{leb, ltb}
use lib.ListN.{length, get_or, length-map, get_or-map, get_or-eq_default}
use borrow.Author.Tests.{le-leb, lt-leb}
use Rattle.lists.specs.Lists.{one_if, count, total, from}
use Rattle.lists.proofs.Tests.{le-or-lt}
use Rattle.lists.proofs.Map.{zip-map}
use Rattle.lists.proofs.Sums.{sum-add}
use Rattle.lists.proofs.From.{map_at, length-map-from, get_d-map-below, map-below-same, zip-from-at}
use Rattle.definition.specs.Quotas.{size_at, nonempty, remainder_at, leftover, seats_at, seats_of, held_seats, quotas_for, quotas}
use Rattle.definition.specs.Fair.{WholeOrNext, Fair}
use Rattle.definition.proofs.Seats.{extra_at, one-lt, one-ge}
use Rattle.definition.proofs.Shares.{sum-seats, seats-within, extra-case}

-- ---- capacity

-- 1 for each nonempty leaf
one_of : (w : ℕ) → min 1 w ≡ one_if (ltb 0 w)
one_of w = ⊎_elim (λ (z : w ≤ 0). omega (arith, one-ge 0 w z)) (λ (p : 0 < w). omega (arith, one-lt 0 w p)) (le-or-lt w 0)

ones : (sizes : List ℕ) → total (map (λ w. min 1 w) sizes) ≡ nonempty sizes
unfolding total count
ones [] = refl
ones (w ∷ sizes) = omega (arith, one_of w, ones sizes)

-- the capacity that remains once each nonempty leaf has one seat, and once none has
pub capacity-one : (sizes : List ℕ) → total (map (λ w. w - 1) sizes) + nonempty sizes ≡ total sizes
unfolding total count
capacity-one [] = refl
capacity-one (w ∷ sizes) = omega (arith, one_of w, capacity-one sizes)

pub capacity-none : (sizes : List ℕ) → map (λ w. w - 0) sizes ≡ sizes
capacity-none [] = refl
capacity-none (w ∷ sizes) = rw (sub-zero w) (ap (λ (l : List ℕ). w ∷ l) (capacity-none sizes))

-- the capacity of leaf i once each nonempty leaf has `first` seats
pub capacity-at : (first : ℕ) (sizes : List ℕ) (i : ℕ) → size_at (map (λ w. w - first) sizes) i ≡ size_at sizes i - first
capacity-at first sizes i =
    let z : 0 - first ≡ 0 = omega arith in
    ap (λ (d : ℕ). get_or (map (λ w. w - first) sizes) i d) (sym z) ∙ get_or-map (λ w. w - first) sizes i 0

-- ---- the two sharings, leaf by leaf
seats-entry : (capacities : List ℕ) (rest i : ℕ) → i < length capacities → get_or (seats_of capacities rest) i 0 ≡ seats_at capacities rest i
unfolding seats_of
seats-entry capacities rest i h = get_d-map-below (seats_at capacities rest) (length capacities) i 0 h

seats-length : (capacities : List ℕ) (rest : ℕ) → length (seats_of capacities rest) ≡ length capacities
unfolding seats_of
seats-length capacities rest = length-map-from (seats_at capacities rest) 0 (length capacities)

pub for-each : (sizes : List ℕ) (s d : ℕ) → d ≡ nonempty sizes → d ≤ s
    → map (λ i. min 1 (size_at sizes i) + seats_at (map (λ w. w - 1) sizes) (s - d) i) (from 0 (length sizes)) ≡ quotas_for sizes s
unfolding quotas_for
for-each sizes s d ed h =
    let l : leb (nonempty sizes) s ≡ true = le-leb _ _ (rw ed at h) in
    let n : length capacities ≡ length sizes = length-map sizes (λ w. w - 1) in
    rw (ed, l)
    (zip-from-at (λ i. min 1 (size_at sizes i) + seats_at capacities (s - nonempty sizes) i) (λ w more. min 1 w + more) 0 0 sizes
    (seats_of capacities (s - nonempty sizes)) 0 (seats-length capacities (s - nonempty sizes) ∙ n)
    (λ i b. rw (zero-add i) (ap (λ (x : ℕ). min 1 (size_at sizes i) + x) (sym (seats-entry capacities (s - nonempty sizes) i (omega arith)))))
    ∙ zip-map (λ one more. one + more) (λ w. min 1 w) sizes (seats_of capacities (s - nonempty sizes)))
  where
    capacities : List ℕ
    capacities = map (λ w. w - 1) sizes

shared-by-size : (sizes : List ℕ) (s : ℕ) → s < nonempty sizes → quotas_for sizes s ≡ seats_of sizes s
unfolding quotas_for
shared-by-size sizes s h = rw (lt-leb (nonempty sizes) s h)

pub for-none : (sizes : List ℕ) (s d : ℕ) → d ≡ nonempty sizes → s < d
    → map (λ i. min 0 (size_at sizes i) + seats_at (map (λ w. w - 0) sizes) s i) (from 0 (length sizes)) ≡ quotas_for sizes s
unfolding seats_of
for-none sizes s d ed h =
    map-below-same (λ i. min 0 (size_at sizes i) + seats_at (map (λ w. w - 0) sizes) s i) (seats_at sizes s) (length sizes) (λ i b. at i)
    ∙ sym (shared-by-size sizes s (omega arith))
  where
    at : (i : ℕ) → min 0 (size_at sizes i) + seats_at (map (λ w. w - 0) sizes) s i ≡ seats_at sizes s i
    at i = let z : min 0 (size_at sizes i) ≡ 0 = omega arith in
        rw z (zero-add (seats_at (map (λ w. w - 0) sizes) s i) ∙ ap (λ (l : List ℕ). seats_at l s i) (capacity-none sizes))

-- where the seats are within the total, nothing is held back
pub quotas-held : (sizes : List ℕ) (s : ℕ) → s ≤ total sizes → quotas sizes s ≡ quotas_for sizes s
unfolding quotas
quotas-held sizes s h = let e : min s (total sizes) ≡ s = omega arith in ap (quotas_for sizes) e

-- ---- the seats of a leaf, as a share of the rest
share-of : (capacities : List ℕ) (rest : ℕ) (within : rest ≤ total capacities) (i : ℕ)
    → WholeOrNext (seats_at capacities rest i) 0 (rest * size_at capacities i) (total capacities)
share-of capacities rest within i =
    ⊎_elim
    (λ e. inl (omega arith))
    (λ q. ⊎_elim (λ (o : extra ≤ 0). inl (omega arith)) (λ (o : 0 < extra). inr (omega (arith, q.0), q.1)) (le-or-lt extra 0))
    (extra-case capacities rest within i)
  where
    extra : ℕ
    extra = extra_at (length capacities) (remainder_at capacities rest) (leftover capacities rest) i

-- one seat more, of a share with another name for its number
one_more : (q q' x x' p p' : ℕ) → q' ≡ 1 + q → x ≡ x' → p ≡ p' → WholeOrNext q 0 x p → WholeOrNext q' 1 x' p'
one_more q q' x x' p p' e ex ep w =
    rw (← ex, ← ep) (⊎_elim (λ h. inl (omega arith)) (λ h. inr (omega (arith, h.0), h.1)) w)

-- ---- the quotas for s seats
module _ (sizes : List ℕ) (s : ℕ) (held : s ≤ total sizes) where
  abbrev d : ℕ
  d = nonempty sizes

  abbrev a : ℕ
  a = total sizes

  abbrev capacities : List ℕ
  capacities = map (λ w. w - 1) sizes

  all_one : total capacities ≡ a - d
  all_one = omega (arith, capacity-one sizes)

  same-leaves : length capacities ≡ length sizes
  same-leaves = length-map sizes (λ w. w - 1)

  fits_one : d ≤ s → s - d ≤ total capacities
  fits_one h = omega (arith, all_one)

  pub quotas-length : length (quotas_for sizes s) ≡ length sizes
  quotas-length =
      ⊎_elim
      (λ (h : d ≤ s). ap length (sym (for-each sizes s d refl h)) ∙ length-map-from (λ i. min 1 (size_at sizes i) + seats_at capacities (s - d) i) 0 (length sizes))
      (λ (h : s < d). ap length (shared-by-size sizes s h) ∙ seats-length sizes s)
      (le-or-lt d s)

  entry-each : d ≤ s → (i : ℕ) → i < length sizes → get_or (quotas_for sizes s) i 0 ≡ min 1 (size_at sizes i) + seats_at capacities (s - d) i
  entry-each h i l =
      ap (λ (x : List ℕ). get_or x i 0) (sym (for-each sizes s d refl h)) ∙ get_d-map-below (λ i. min 1 (size_at sizes i) + seats_at capacities (s - d) i) (length sizes) i 0 l

  entry-none : s < d → (i : ℕ) → i < length sizes → get_or (quotas_for sizes s) i 0 ≡ seats_at sizes s i
  entry-none h i l = ap (λ (x : List ℕ). get_or x i 0) (shared-by-size sizes s h) ∙ seats-entry sizes s i l

  sum-each : (h : d ≤ s) → total (map (λ i. min 1 (size_at sizes i) + seats_at capacities (s - d) i) (from 0 (length sizes))) ≡ s
  sum-each h =
      let f : total (map (λ i. min 1 (size_at sizes i)) (from 0 (length sizes))) ≡ d = ap total (sym (map_at (λ w. min 1 w) sizes 0)) ∙ ones sizes in
      let r : total (map (seats_at capacities (s - d)) (from 0 (length sizes))) ≡ s - d =
      ap (λ (n : ℕ). total (map (seats_at capacities (s - d)) (from 0 n))) (sym same-leaves) ∙ sum-seats capacities (s - d) (fits_one h) in
      omega (arith, sum-add (λ i. min 1 (size_at sizes i)) (seats_at capacities (s - d)) (from 0 (length sizes)))

  sum-none : total (seats_of sizes s) ≡ s
  unfolding seats_of
  sum-none = sum-seats sizes s held

  quotas-sum : total (quotas_for sizes s) ≡ s
  quotas-sum =
      ⊎_elim (λ (h : d ≤ s). ap total (sym (for-each sizes s d refl h)) ∙ sum-each h) (λ (h : s < d). ap total (shared-by-size sizes s h) ∙ sum-none) (le-or-lt d s)

  quota-within : (i : ℕ) → get_or (quotas_for sizes s) i 0 ≤ size_at sizes i
  quota-within i =
      ⊎_elim
      (λ (l : length sizes ≤ i). let g : length (quotas_for sizes s) ≤ i = omega (arith, quotas-length) in omega (arith, get_or-eq_default (quotas_for sizes s) 0 g))
      (λ (l : i < length sizes).
      ⊎_elim
      (λ (h : d ≤ s). omega (arith, entry-each h i l, seats-within capacities (s - d) (fits_one h) i, capacity-at 1 sizes i))
      (λ (h : s < d). omega (arith, entry-none h i l, seats-within sizes s held i))
      (le-or-lt d s))
      (le-or-lt (length sizes) i)

  -- a nonempty leaf is one of the leaves
  there : (i : ℕ) → 0 < size_at sizes i → i < length sizes
  there i p = ⊎_elim (λ (l : length sizes ≤ i). absurd (omega (arith, get_or-eq_default sizes 0 l))) (λ l. l) (le-or-lt (length sizes) i)

  quota-each : d ≤ s → (i : ℕ) → 0 < size_at sizes i → WholeOrNext (get_or (quotas_for sizes s) i 0) 1 ((s - d) * (size_at sizes i - 1)) (a - d)
  quota-each h i p =
      one_more (seats_at capacities (s - d) i) (get_or (quotas_for sizes s) i 0) ((s - d) * size_at capacities i) ((s - d) * (size_at sizes i - 1)) (total capacities) (a - d)
      (omega (arith, entry-each h i (there i p))) (ap (λ (x : ℕ). (s - d) * x) (capacity-at 1 sizes i)) all_one
      (share-of capacities (s - d) (fits_one h) i)

  quota-none : s < d → (i : ℕ) → 0 < size_at sizes i → WholeOrNext (get_or (quotas_for sizes s) i 0) 0 (s * size_at sizes i) a
  quota-none h i p = rw (entry-none h i (there i p)) (share-of sizes s held i)

  pub fair-for : Fair sizes s (quotas_for sizes s)
  fair-for = record {
    entries = quotas-length;
    sum = quotas-sum;
    within = quota-within;
    empty = λ i e. omega (arith, quota-within i);
    one_each = λ h i p. ⊎_elim (λ e. omega arith) (λ e. omega arith) (quota-each h i p);
    share_each = quota-each;
    share_none = quota-none;
  }

-- S, held to the total
pub fair : (sizes : List ℕ) (s : ℕ) → Fair sizes (held_seats sizes s) (quotas sizes s)
unfolding quotas
fair sizes s = fair-for sizes (held_seats sizes s) (omega arith)
