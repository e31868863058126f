-- The plane of a cut is finite, and lies between the rows of the two halves: no row on the left is above it on the axis, and none on the
-- right below it. Assumes nothing.
use mathlib.Core.Path.{◌≡◌, ap, ◌∙◌}
use mathlib.Core.Bool.{true, false, not}
use mathlib.Core.List.{List, Memᴰ}
use Prim.Native.Nat.{ℕ, ◌/◌, ◌≤◌, ◌<◌}
use native.Mathlib.Omega.{arith}
use borrow.Author.Tests.{ltb-true, lt-ltb}
use lib.Dec.{ltb}
use lib.ListN.{length}
use lib.Ieee.{Float, lt}
use lib.Ieee.Scale.{finite}
use Rattle.lists.proofs.Tests.{clash, fails}
use Rattle.lists.proofs.Members.{keep-mem, mem-map, map-mem}
use Rattle.lists.proofs.Rank.{ahead-lt}
use Rattle.lists.proofs.Times.{mem-times}
use Rattle.definition.specs.Points.{coordinate}
use Rattle.definition.specs.Keys.{Key, keyed, before, rank, first_rows_lem, other_rows}
use Rattle.definition.specs.Cut.{Domain, longest_axis_lem, cut_keys, plane, plane_of, left_of, right_of}
use Rattle.definition.proofs.Order.{before-irr, before-trans}
use Rattle.definition.proofs.Halves.{Middle, key-at, key_of, first_rows, other-rows}
use Rattle.definition.proofs.Cuts.{Good, axis-below, length-cut_keys, cut-sortable}
use Rattle.gap_laws.proofs.Weak.{lt-before}

-- one that comes before another has fewer before it
rank-lt : (keys : List Key) (p q : Key) → Memᴰ p keys → lt p.value q.value ≡ true → rank keys p < rank keys q
unfolding rank
rank-lt keys p q m h = ahead-lt before before-irr before-trans keys p q m (lt-before p q h)

keyed-mem : (v : ℕ → Float) (rows : List ℕ) (i : ℕ) → Memᴰ i rows → Memᴰ (key_of v i) (keyed v rows)
unfolding keyed
keyed-mem v rows i m = mem-map (key_of v) rows m

mem-keyed : (v : ℕ → Float) (rows : List ℕ) (p : Key) → Memᴰ p (keyed v rows) → (i : ℕ) × Memᴰ i rows × (p ≡ key_of v i)
unfolding keyed
mem-keyed v rows p m = map-mem (key_of v) rows m

-- the halves by a value v, about the key in the middle
module _ (v : ℕ → Float) (rows : List ℕ) (m : ℕ) (k : Middle m (keyed v rows)) where
  first-side : (i : ℕ) → Memᴰ i (first_rows_lem m (keyed v rows)) → Memᴰ i rows × (lt k.key.value (v i) ≡ false)
  first-side i n =
      let keys = keyed v rows in
      let j = keep-mem (λ i. ltb (rank keys (key_of v i)) m) rows {x = i} (rw (← first_rows v m rows) n) in
      let l : rank keys (key_of v i) < m = ltb-true (rank keys (key_of v i)) m j.1 in
      (j.0, fails (lt k.key.value (v i)) (λ e. omega (arith, k.ranked, rank-lt keys k.key (key_of v i) k.inside e)))

  other-side : (i : ℕ) → Memᴰ i (other_rows m (keyed v rows)) → Memᴰ i rows × (lt (v i) k.key.value ≡ false)
  other-side i n =
      let keys = keyed v rows in
      let j = keep-mem (λ i. not (ltb (rank keys (key_of v i)) m)) rows {x = i} (rw (← other-rows v m rows) n) in (
        j.0,
        fails (lt (v i) k.key.value) (λ e.
            let l : rank keys (key_of v i) < m = omega (arith, k.ranked, rank-lt keys (key_of v i) k.key (keyed-mem v rows i j.0) e) in
            clash j.1 (ap not (lt-ltb (rank keys (key_of v i)) m l))),
      )

module _ (d : ℕ) (cs : List Float) (pos : 0 < d) (q : Domain) (g : Good d cs q.rows) (some : 1 ≤ length q.rows) where
  -- the coordinate on the axis that is cut
  abbrev along : ℕ → Float
  along i = coordinate d cs i (longest_axis_lem d cs q.rows)

  middle : Middle (length q.rows / 2) (keyed along q.rows)
  unfolding cut_keys
  middle = key-at (length q.rows / 2) (cut_keys d cs q.rows) (cut-sortable d cs pos q.rows g) (omega (arith, length-cut_keys d cs q.rows))

  plane-is : plane d cs q.rows ≡ middle.key.value
  unfolding plane plane_of cut_keys
  plane-is = ap plane_of middle.alone

  pub plane-finite : finite (plane d cs q.rows) ≡ true
  plane-finite =
      let (i, n, e) = mem-keyed along q.rows middle.key middle.inside in
      ap finite (plane-is ∙ ap (λ (k : Key). k.value) e) ∙ g.finite-at i (mem-times q.rows i n) (longest_axis_lem d cs q.rows) (axis-below d cs q.rows pos)

  pub left-side : (i : ℕ) → Memᴰ i (left_of d cs q).rows → Memᴰ i q.rows × (lt (plane d cs q.rows) (along i) ≡ false)
  unfolding left_of cut_keys
  left-side i n = let s = first-side along q.rows (length q.rows / 2) middle i n in (s.0, ap (λ (x : Float). lt x (along i)) plane-is ∙ s.1)

  pub right-side : (i : ℕ) → Memᴰ i (right_of d cs q).rows → Memᴰ i q.rows × (lt (along i) (plane d cs q.rows) ≡ false)
  unfolding right_of cut_keys
  right-side i n = let s = other-side along q.rows (length q.rows / 2) middle i n in (s.0, ap (lt (along i)) plane-is ∙ s.1)
