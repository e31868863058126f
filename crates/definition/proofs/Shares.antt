-- Laws of one sharing: the shares, rounded down, fit the rest, few seats are left over, and the seats that come of it.
-- Assumes nothing.
-- Holds: by_zero, no-share, wholes_fit, left-few, none_above, sum-seats, extra-case, seats-within, cut_by, whole_by,
--   remainder_by, seats-by-cut, share-small
use Prim.Native.Nat.{ℕ, ◌+◌, ◌-◌, ◌*◌, ◌/◌, ◌%◌, ◌≤◌, ◌<◌, max}
use mathlib.Core.Path.{◌≡◌, sym, ap, ◌∙◌}
use mathlib.Core.Logic.{◌⊎◌, inl, inr, ⊎_elim}
use mathlib.Core.List.{List, map}
use native.Mathlib.Nat.{mul_comm, mul-add, mul-le-mul_right, le_of_mul-le-mul_left, div-add-mod, mod-lt, mod-le, mul-div-le, le_of_lt, lt_of_mul-lt-mul_left, div-le_self, mul-le-mul, zero-mul, zero-div, zero-mod}
use native.Mathlib.Omega.{arith}
use lib.Dec.{ltb}
use lib.ListN.{length}
use borrow.Author.Tests.{le-ltb}
use Rattle.lists.specs.Lists.{one_if, total, from}
use Rattle.lists.proofs.Tests.{le-or-lt}
use Rattle.lists.proofs.Count.{count_none}
use Rattle.lists.proofs.Sums.{sum-add, sum-mul, sum-below-le, count-sum, total-index}
use Rattle.definition.specs.Quotas.{size_at, whole_at, remainder_at, leftover, seats_at}
use Rattle.definition.specs.SeatCut.{above, ties, extra_by, CutBy}
use Rattle.definition.proofs.Seats.{extra_at, extra-is, cut-from, one-lt, sum-extra, extra-none, extra-le}
use Rattle.definition.specs.Refusals.{most_points}

-- a divisor of 0 where there is nothing to share
pub by_zero : (x p : ℕ) → (p ≡ 0 → x ≡ 0) → (x / max 1 p ≡ x / p) × (x % max 1 p ≡ x % p)
by_zero x p h =
    ⊎_elim
    (λ (z : p ≤ 0). let e : p ≡ 0 = omega arith in let g : x ≡ 0 = h e in
    (rw (g, e) (zero-div 1 ∙ sym (zero-div 0)), rw (g, e) (zero-mod 1 ∙ sym (zero-mod 0))))
    (λ (l : 0 < p). let e : max 1 p ≡ p = omega arith in (ap (λ (z : ℕ). x / z) e, ap (λ (z : ℕ). x % z) e))
    (le-or-lt p 0)

module _ (capacities : List ℕ) (rest : ℕ) (within : rest ≤ total capacities) where
  abbrev n : ℕ
  n = length capacities

  abbrev pool : ℕ
  pool = total capacities

  abbrev cap : ℕ → ℕ
  cap = size_at capacities

  abbrev W : ℕ → ℕ
  W = whole_at capacities rest

  abbrev R : ℕ → ℕ
  R = remainder_at capacities rest

  shared : total (map (λ j. rest * cap j) (from 0 n)) ≡ rest * pool
  shared = sum-mul rest cap (from 0 n) ∙ ap (λ (x : ℕ). rest * x) (sym (total-index capacities))

  -- where there is no capacity there is nothing to share
  pub no-share : total capacities ≡ 0 → (j : ℕ) → rest * size_at capacities j ≡ 0
  no-share e j = let z : rest ≡ 0 = omega arith in ap (λ (x : ℕ). x * cap j) z ∙ zero-mul (cap j)

  -- the shares, rounded down, fit the rest
  pub wholes_fit : total (map (whole_at capacities rest) (from 0 (length capacities))) ≤ rest
  wholes_fit = ⊎_elim (λ (z : pool ≤ 0). none z) (λ (p : 0 < pool). some p) (le-or-lt pool 0)
    where
      none : pool ≤ 0 → total (map W (from 0 n)) ≤ rest
      none z =
          let e : rest ≡ 0 = omega arith in
          omega (arith, shared, ap (λ (x : ℕ). x * pool) e, zero-mul pool, sum-below-le n W (λ j. rest * cap j) (λ j _. div-le_self (rest * cap j) pool))

      some : 0 < pool → total (map W (from 0 n)) ≤ rest
      some p =
          let h : pool * total (map W (from 0 n)) ≤ pool * rest =
          omega (
            arith,
            sum-mul pool W (from 0 n),
            shared,
            mul_comm rest pool,
            sum-below-le n (λ j. pool * W j) (λ j. rest * cap j) (λ j _. mul-div-le (rest * cap j) pool),
          ) in
          le_of_mul-le-mul_left h p

  -- no more seats are left over than there are remainders above 0
  pub left-few : leftover capacities rest ≤ above (length capacities) (remainder_at capacities rest) 0
  left-few = ⊎_elim (λ (z : pool ≤ 0). omega arith) (λ (p : 0 < pool). some p) (le-or-lt pool 0)
    where
      piece : 0 < pool → (j : ℕ) → R j ≤ pool * one_if (ltb 0 (R j))
      piece q j = ⊎_elim (λ (z : R j ≤ 0). omega arith) (λ (p : 0 < R j). rw (one-lt 0 (R j) p) (omega (arith, mod-lt (rest * cap j) q))) (le-or-lt (R j) 0)

      each : 0 < pool → (j : ℕ) → rest * cap j ≤ pool * (W j + one_if (ltb 0 (R j)))
      each q j = rw (mul-add pool (W j) (one_if (ltb 0 (R j)))) (omega (arith, div-add-mod (rest * cap j) pool, piece q j))

      some : 0 < pool → leftover capacities rest ≤ above n R 0
      some q =
          let b : total (map (λ j. W j + one_if (ltb 0 (R j))) (from 0 n)) ≡ total (map W (from 0 n)) + above n R 0 =
          sum-add W (λ j. one_if (ltb 0 (R j))) (from 0 n) ∙ ap (λ (x : ℕ). total (map W (from 0 n)) + x) (sym (count-sum (λ j. ltb 0 (R j)) (from 0 n))) in
          let t : pool * total (map (λ j. W j + one_if (ltb 0 (R j))) (from 0 n)) ≡ pool * (total (map W (from 0 n)) + above n R 0) = ap (λ (x : ℕ). pool * x) b in
          let h : pool * rest ≤ pool * (total (map W (from 0 n)) + above n R 0) =
          omega (
            arith,
            shared,
            mul_comm pool rest,
            t,
            sum-mul pool (λ j. W j + one_if (ltb 0 (R j))) (from 0 n),
            sum-below-le n (λ j. rest * cap j) (λ j. pool * (W j + one_if (ltb 0 (R j)))) (λ j _. each q j),
          ) in
          omega (arith, le_of_mul-le-mul_left h q)

  -- no remainder is above the capacity of all leaves
  remainder-le : (j : ℕ) → R j ≤ pool
  remainder-le j =
      ⊎_elim
      (λ (z : pool ≤ 0). let e : pool ≡ 0 = omega arith in omega (arith, mod-le (rest * cap j) pool, no-share e j))
      (λ (p : 0 < pool). le_of_lt (mod-lt (rest * cap j) p))
      (le-or-lt pool 0)

  pub none_above : (top : ℕ) → total capacities ≤ top → above (length capacities) (remainder_at capacities rest) top ≡ 0
  none_above top h = count_none (λ j. ltb top (R j)) (from 0 n) (λ j _. le-ltb top (R j) (omega (arith, remainder-le j)))

  -- all seats are given
  pub sum-seats : total (map (seats_at capacities rest) (from 0 (length capacities))) ≡ rest
  sum-seats =
      let left = leftover capacities rest in
      let a : above n R pool ≤ left = omega (arith, none_above pool (omega arith)) in
      omega (arith, sum-add W (extra_at n R left) (from 0 n), sum-extra n R left pool left-few a, wholes_fit)

  -- the leftover seat of a leaf: none, or one where its remainder is not 0
  pub extra-case : (i : ℕ) → (extra_at n R (leftover capacities rest) i ≡ 0) ⊎ ((extra_at n R (leftover capacities rest) i ≤ 1) × (0 < R i))
  extra-case i = ⊎_elim (λ (z : R i ≤ 0). inl (extra-none n R (leftover capacities rest) i left-few (omega arith)))
      (λ (p : 0 < R i). inr (extra-le n R (leftover capacities rest) i, p)) (le-or-lt (R i) 0)

  -- no leaf gets more seats than its capacity
  pub seats-within : (i : ℕ) → seats_at capacities rest i ≤ size_at capacities i
  seats-within i = ⊎_elim (λ (z : pool ≤ 0). none z) (λ (p : 0 < pool). some p) (le-or-lt pool 0)
    where
      none : pool ≤ 0 → seats_at capacities rest i ≤ cap i
      none z =
          let e : pool ≡ 0 = omega arith in
          let w : W i ≤ 0 = omega (arith, div-le_self (rest * cap i) pool, no-share e i) in
          ⊎_elim (λ (x : extra_at n R (leftover capacities rest) i ≡ 0). omega arith) (λ q. absurd (omega (arith, remainder-le i))) (extra-case i)

      some : 0 < pool → seats_at capacities rest i ≤ cap i
      some p =
          let d = div-add-mod (rest * cap i) pool in
          let h : rest * cap i ≤ pool * cap i = mul-le-mul_right (cap i) within in
          let a : pool * W i ≤ pool * cap i = omega arith in
          ⊎_elim
          (λ (z : extra_at n R (leftover capacities rest) i ≡ 0). omega (arith, le_of_mul-le-mul_left a p))
          (λ q. let b : pool * W i < pool * cap i = omega arith in omega (arith, lt_of_mul-lt-mul_left pool b))
          (extra-case i)

  -- ---- the cut of the remainders, as the code finds it
  pub cut_by : (left t : ℕ) → left ≡ leftover capacities rest → above (length capacities) (remainder_at capacities rest) t ≤ left
      → ((s : ℕ) → s < t → left < above (length capacities) (remainder_at capacities rest) s)
      → CutBy (length capacities) (remainder_at capacities rest) left t
  cut_by left t el low below = let few : left ≤ above n R 0 = rw el left-few in cut-from n R left t few low below

  -- one leaf's seats by the cut, p being the leaf's product and `divisor` the capacity of all leaves, or 1 where that is 0
  module _ (i p divisor : ℕ) (ep : p ≡ rest * size_at capacities i) (ed : divisor ≡ max 1 (total capacities)) where
    pub whole_by : p / divisor ≡ whole_at capacities rest i
    whole_by = ap (λ (x : ℕ). p / x) ed ∙ ap (λ (x : ℕ). x / max 1 pool) ep ∙ (by_zero (rest * cap i) pool (λ e. no-share e i)).0

    pub remainder_by : p % divisor ≡ remainder_at capacities rest i
    remainder_by = ap (λ (x : ℕ). p % x) ed ∙ ap (λ (x : ℕ). x % max 1 pool) ep ∙ (by_zero (rest * cap i) pool (λ e. no-share e i)).1

    pub seats-by-cut : (left cut taken x at_cut : ℕ) → CutBy (length capacities) (remainder_at capacities rest) left cut
        → taken ≡ above (length capacities) (remainder_at capacities rest) cut → left ≡ leftover capacities rest → i < length capacities
        → at_cut ≡ left - taken - ties i (remainder_at capacities rest) cut → x ≡ extra_by (p % divisor) cut at_cut
        → p / divisor + x ≡ seats_at capacities rest i
    seats-by-cut left cut taken x at_cut k et el h ea ex =
        let a : at_cut ≡ left - above n R cut - ties i R cut = omega arith in
        let e : x ≡ extra_at n R (leftover capacities rest) i =
        ex ∙ ap (λ (z : ℕ). extra_by z cut at_cut) remainder_by ∙ ap (λ (z : ℕ). extra_by (R i) cut z) a
        ∙ sym (extra-is n R left cut k i h) ∙ ap (λ (z : ℕ). extra_at n R z i) el in
        omega (arith, whole_by)

  -- a share is small
  pub share-small : (i p divisor : ℕ) → p ≡ rest * size_at capacities i → rest ≤ most_points → size_at capacities i ≤ most_points → p / divisor ≤ 1099511627776
  share-small i p divisor ep hr hw = omega (arith, div-le_self p divisor, mul-le-mul hr hw)
