-- Neighbours and borrowed rows: how many rows each row takes, and how many rows the leaves of a level borrow together. Assumes nothing.
-- Holds: nearest-length, pairs-most, paired_others, borrowed-others, borrowed-fewer, borrowed-most
use mathlib.Core.Path.{◌≡◌, sym, ap, ◌∙◌, subst}
use mathlib.Core.Bool.{Bool, true, not, ◌&&◌, ◌||◌}
use mathlib.Core.List.{List, map, map-map, Memᴰ}
use Prim.Native.Nat.{ℕ, suc, ◌+◌, ◌*◌, ◌≤◌, ◌<◌, min}
use native.Mathlib.Omega.{arith}
use native.Mathlib.Nat.{mul-le-mul_right, mul_assoc, mul-add}
use borrow.Author.Tests.{ne_eqb, not-true}
use lib.Dec.{eqb}
use lib.ListN.{length}
use lib.Ieee.{Float}
use Rattle.lists.specs.Lists.{one_if, count, any_of, member, total, joined}
use Rattle.lists.proofs.Tests.{both-pass}
use Rattle.lists.proofs.Members.{member-cons, member-not, any-mem, mem-any}
use Rattle.lists.proofs.Count.{count-le, count-not, length-keep, count-or-le}
use Rattle.lists.specs.Times.{times, Once}
use Rattle.lists.proofs.Times.{mem-times, times-keep-le, once-short, members-few}
use Rattle.lists.proofs.Sums.{sum-le, sum-add, sum-const, count-sum, count-any, sum-swap, sum-most}
use Rattle.lists.proofs.Joined.{sum-joined}
use Rattle.definition.specs.Points.{rows_sq}
use Rattle.definition.specs.Keys.{keyed}
use Rattle.definition.specs.Overlaps.{others, nearest_others, nearest, paired, borrowed_by}
use Rattle.definition.specs.Cut.{Domain, leaves_of}
use Rattle.definition_laws.proofs.Finite.{rows-known}
use Rattle.definition.proofs.Halves.{Sortable, first-half-length, length-keyed, sortable}
use Rattle.definition.proofs.Cuts.{Good, good-part, leaves-times}
use Rattle.rows.specs.Rows.{FiniteRow}

-- ---- the rows that an active row takes
module _ (d : ℕ) (cs : List Float) where
  -- by squared distance to a row of finite coordinates, and row, rows of finite coordinates can be sorted
  good-sortable : (rows : List ℕ) → Good d cs rows → (i : ℕ) → FiniteRow d cs i → Sortable (keyed (rows_sq d cs i) rows)
  good-sortable rows g i f = sortable (rows_sq d cs i) rows g.once (λ r m. rows-known d cs i r f (g.finite-at r m))

  module _ (active : List ℕ) (g : Good d cs active) where
    -- so can the active rows but the row itself
    others-sortable : (i : ℕ) → 0 < times i active → Sortable (keyed (rows_sq d cs i) (others active i))
    others-sortable i h =
        good-sortable (others active i) (good-part d cs active (others active i) g (times-keep-le (λ j. not (eqb j i)) active)) i (g.finite-at i h)

    -- the others are one fewer than the active rows
    others-length : (i : ℕ) → 0 < times i active → suc (length (others active i)) ≡ length active
    others-length i h =
        omega (arith, g.once i, count-not (λ j. eqb j i) active, length-keep (λ j. not (eqb j i)) active)

    -- of them the neighbour count is taken, or all if fewer
    near-others-length : (neighbours i : ℕ) → 0 < times i active → length (nearest_others d cs neighbours active i) ≡ min neighbours (length (others active i))
    unfolding nearest_others
    near-others-length neighbours i h =
        first-half-length neighbours (keyed (rows_sq d cs i) (others active i)) (others-sortable i h)
        ∙ ap (min neighbours) (length-keyed (rows_sq d cs i) (others active i))

    -- with itself: the neighbour count and 1, or all if fewer
    pub nearest-length : (neighbours i : ℕ) → 0 < times i active → length (nearest d cs neighbours active i) ≡ min (suc neighbours) (length active)
    unfolding nearest
    nearest-length neighbours i h = omega (arith, near-others-length neighbours i h, others-length i h)

-- ---- pairs: of active rows that each take at most k rows, by any rule
module _ (active : List ℕ) (once : Once active) (near : ℕ → List ℕ) (k : ℕ) (few : (i : ℕ) → 0 < times i active → length (near i) ≤ k) where
  -- one of the two rows takes the other
  abbrev pair : ℕ → ℕ → Bool
  pair i j = member j (near i) || member i (near j)

  -- how many rows take i
  abbrev takers : ℕ → ℕ
  takers i = total (map (λ j. one_if (member i (near j))) active)

  -- the pairs of one row: with those that it takes, and with those that take it
  pairs-one : (i : ℕ) → 0 < times i active → count (pair i) active ≤ k + takers i
  pairs-one i h =
      omega (
        arith,
        count-or-le (λ j. member j (near i)) (λ j. member i (near j)) active,
        members-few active once (near i),
        few i h,
        count-sum (λ j. member i (near j)) active,
      )

  -- the pairs of several rows, each of them active and none twice: each row that is taken is counted by its taker and for itself
  pairs-all : (own : List ℕ) → Once own → ((r : ℕ) → times r own ≤ times r active) → total (map (λ i. count (pair i) active) own) ≤ length active * k + length active * k
  pairs-all own apart within =
      let a = sum-le (λ i. count (pair i) active) (λ i. k + takers i) own (λ i m. pairs-one i (omega (arith, mem-times own i m, within i))) in
      let b = sum-add (λ i. k) takers own in
      let c = sum-const k own in
      let n : length own * k ≤ length active * k = mul-le-mul_right k (once-short active own once within) in
      let s = sum-swap (λ i j. one_if (member i (near j))) own active in
      let t = sum-most (λ j. total (map (λ i. one_if (member i (near j))) own)) k active
      (λ j m. omega (arith, count-sum (λ i. member i (near j)) own, members-few own apart (near j), few j (mem-times active j m))) in
      omega arith

  -- THE LAW: leaves that share rows out have at most twice as many rows paired with theirs as are taken
  pub pairs-most : (owns : List (List ℕ)) → Once (joined owns) → ((r : ℕ) → times r (joined owns) ≤ times r active)
      → total (map (λ own. count (λ j. any_of (λ i. pair i j) own) active) owns) ≤ length active * k + length active * k
  pairs-most owns apart within =
      omega (
        arith,
        sum-le (λ own. count (λ j. any_of (λ i. pair i j) own) active) (λ own. total (map (λ i. count (pair i) active) own)) owns (λ own m. count-any pair own active),
        sum-joined (λ i. count (pair i) active) owns,
        pairs-all (joined owns) apart within,
      )

-- ---- what a leaf borrows
module _ (d : ℕ) (cs : List Float) (neighbours : ℕ) (active : List ℕ) where
  -- one of the two rows takes the other among its nearest others
  abbrev pub paired_others : ℕ → ℕ → Bool
  paired_others i j = member j (nearest_others d cs neighbours active i) || member i (nearest_others d cs neighbours active j)

  -- two different rows are paired by what they take beside themselves
  paired-others : (i j : ℕ) → (i ≡ j → ⊥) → paired d cs neighbours active i j ≡ paired_others i j
  unfolding paired nearest
  paired-others i j n =
      rw (member-cons j i (nearest_others d cs neighbours active i), member-cons i j (nearest_others d cs neighbours active j), ne_eqb i j n, ne_eqb j i (λ e. n (sym e)))

  -- so is a borrowed row with one of the leaf's rows, for it is none of them
  pub borrowed-others : (own : List ℕ) (j : ℕ) → not (member j own) && any_of (λ i. paired d cs neighbours active i j) own ≡ true
      → any_of (λ i. paired_others i j) own ≡ true
  borrowed-others own j h =
      let (foreign, some_pair) = both-pass h in
      let (i, m, e) = any-mem (λ i. paired d cs neighbours active i j) own some_pair in
      let apart : i ≡ j → ⊥ = λ s. member-not own j (not-true (member j own) foreign) (subst (λ (r : ℕ). Memᴰ r own) s m) in
      mem-any (λ i. paired_others i j) own m (sym (paired-others i j apart) ∙ e)

  -- by count
  borrowed-paired : (own : List ℕ) → length (borrowed_by d cs neighbours active own) ≤ count (λ j. any_of (λ i. paired_others i j) own) active
  unfolding borrowed_by
  borrowed-paired own =
      let foreign : ℕ → Bool = λ j. not (member j own) && any_of (λ i. paired d cs neighbours active i j) own in
      omega (arith, length-keep foreign active, count-le foreign (λ j. any_of (λ i. paired_others i j) own) active (λ j m. borrowed-others own j))

-- ---- what the leaves of a level borrow together

-- THE LAW: at most 2 times the active rows times the neighbour count
pub borrowed-fewer : (d : ℕ) (cs : List Float) (leaf neighbours : ℕ) (active : List ℕ) → 0 < d → 1 ≤ leaf → Good d cs active → 1 ≤ length active
    → total (map (λ (q : Domain). length (borrowed_by d cs neighbours active q.rows)) (leaves_of d cs leaf active)) ≤ 2 * length active * neighbours
borrowed-fewer d cs leaf neighbours active pos lp g some =
    let qs = leaves_of d cs leaf active in
    let owns = map (λ (q : Domain). q.rows) qs in
    let borrowed : List ℕ → ℕ = λ own. length (borrowed_by d cs neighbours active own) in
    let b = ap total (map-map borrowed (λ (q : Domain). q.rows) qs) in
    let c = sum-le borrowed (λ own. count (λ j. any_of (λ i. paired_others d cs neighbours active i j) own) active) owns (λ own m. borrowed-paired d cs neighbours active own) in
    let e = pairs-most active g.once (nearest_others d cs neighbours active) neighbours (λ i h. omega (arith, near-others-length d cs active g neighbours i h)) owns
    (λ r. omega (arith, leaves-times d cs pos leaf lp active g some r, g.once r)) (λ r. omega (arith, leaves-times d cs pos leaf lp active g some r)) in
    rw (mul_assoc 2 (length active) neighbours) (omega arith)

-- so at most 2 times the active rows times the neighbour count and 1
pub borrowed-most : (d : ℕ) (cs : List Float) (leaf neighbours : ℕ) (active : List ℕ) → 0 < d → 1 ≤ leaf → Good d cs active → 1 ≤ length active
    → total (map (λ (q : Domain). length (borrowed_by d cs neighbours active q.rows)) (leaves_of d cs leaf active)) ≤ 2 * length active * (neighbours + 1)
borrowed-most d cs leaf neighbours active pos lp g some =
    rw (mul-add (2 * length active) neighbours 1) (omega (arith, borrowed-fewer d cs leaf neighbours active pos lp g some))
