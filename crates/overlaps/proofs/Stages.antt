-- The stages one after the other: owners, numbers, and what the leaves borrow. Assumes nothing.
-- Holds: sent-fits, stage-index, stage-boxed, stage-rows, stage-recorded, stage-places, stage-owners, stage-end, stage-length,
--   stage-inside, stage-encoded, stage-number, stage-borrowed, stage-domains
use mathlib.Core.Path.{◌≡◌, sym, ap, ◌∙◌, subst}
use mathlib.Core.Logic.{⊎_elim}
use mathlib.Core.List.{List, map, Memᴰ}
use Prim.Native.Nat.{ℕ, ◌+◌, ◌-◌, ◌*◌, ◌%◌, ◌≤◌, ◌<◌}
use native.Mathlib.Omega.{arith}
use native.Mathlib.Nat.{mul_comm, mul_assoc, mul-le-mul_left}
use lib.ListN.{length, get_or, length-map}
use lib.Ieee.{Float}
use Rattle.lists.specs.Lists.{joined, part, put, from as up_from}
use Rattle.lists.specs.Same.{Same}
use Rattle.lists.proofs.Map.{map-joined}
use Rattle.lists.proofs.Put.{length_part}
use Rattle.lists.proofs.Same.{same_mem}
use Rattle.rows.specs.Rows.{most_leaves}
use Rattle.packed.specs.Reading.{read_own}
use Rattle.definition.specs.Record.{record_of, whole_of, level_cuts}
use Rattle.definition.specs.Points.{extents}
use Rattle.record_laws.specs.Table.{rows_under}
use Rattle.record_laws.proofs.Long.{level-nodes}
use Rattle.gap_laws.specs.Boxed.{Boxed}
use Rattle.gap_laws.proofs.BoxHolds.{box-holds}
use Rattle.cut_index.proofs.Rows.{level-rows}
use Rattle.cut_index.specs.Filed.{index_width, positions_of as places_of}
use Rattle.cut_index.specs.Recorded.{Recorded}
use Rattle.cut_index.proofs.Positions.{positions-same}
use Rattle.cut_index.proofs.Level.{level-recorded}
use Rattle.overlap_owners.specs.Own.{Owned}
use Rattle.packed.proofs.OwnRows.{read_length}
use Rattle.overlap_pairs.specs.Pairs.{Owners, Collected}
use Rattle.overlaps.specs.Codes.{Encoded}
use Rattle.overlaps.specs.Borrowed.{borrowed_lists, with_borrowed, Stage}
use Rattle.overlaps.proofs.Columns.{columns-map}
use Rattle.overlaps.proofs.Borrows.{positions_of, positions-rows, collected-encoded}

-- what a rows send, two numbers for each of k others, fits into the room that is lent
pub sent-fits : (a k : ℕ) → a * (2 * k) ≤ 2 * a * (k + 1)
sent-fits a k = rw (← mul_assoc a 2 k, mul_comm a 2) (mul-le-mul_left (2 * a) (omega arith))

-- ---- the table of positions, and the index of the record
module _ (d : ℕ) (cs : List Float) (leaf neighbours : ℕ) (active cuts : List ℕ) (planes : List Float) (I D : List ℕ) (first m from : ℕ) (S : Stage d cs leaf neighbours active cuts planes I D first m from) where
  -- two numbers for each node
  pub stage-index : index_width * length cuts ≤ 8 * length active
  stage-index =
      let L = S.level in
      omega (arith, ap length L.wholes, length-map (record_of d cs leaf active) whole_of, level-nodes d cs L.axes leaf L.leaf_some active S.rows L.rows_some)

  -- the boxes hold the rows, and these are the active ones
  pub stage-boxed : Boxed d cs (extents d cs active) (level_cuts d cs leaf active)
  stage-boxed = let L = S.level in box-holds d cs leaf active L.axes L.axes_few L.leaf_some S.rows L.rows_some

  pub stage-rows : Same (rows_under (level_cuts d cs leaf active)) active
  stage-rows = level-rows d cs leaf active S.rows

  module _ (positions : List ℕ) (e : positions ≡ places_of active (joined (read_own I D first m))) where
    pub stage-recorded : Recorded active cuts planes I D first m from positions (level_cuts d cs leaf active) 0
    stage-recorded = level-recorded d cs leaf active cuts planes I D first m from S.level S.rows S.leaves.rows S.leaves.inside positions e

    -- each position once
    pub stage-places : Same positions (up_from 0 (length active))
    stage-places = rw e (positions-same active (joined (read_own I D first m)) S.leaves.ascends S.leaves.shared)

module _ (d : ℕ) (cs : List Float) (leaf neighbours : ℕ) (active cuts : List ℕ) (planes : List Float) (I D : List ℕ) (first m from : ℕ) (S : Stage d cs leaf neighbours active cuts planes I D first m from)
    (owner : List ℕ) (O : Owned active (read_own I D first m) owner) (long : length active ≤ length owner) where
  abbrev own : List (List ℕ)
  own = read_own I D first m

  pub stage-owners : Owners (length active) owner
  stage-owners =
      let f = S.leaf_few in
      record { few = S.few; room = long; small = λ i h. omega (arith, O.leaf i h, read_length I D first m) }

  module _ (wholes : List ℕ) (r : ℕ) (c : Collected d cs neighbours active owner (length active) wholes r) (room : length active + 2 * length active * (neighbours + 1) ≤ length wholes) where
    abbrev codes : List ℕ
    codes = part wholes (length active) (r - length active)

    pub stage-end : (length active ≤ r) × (r ≤ length wholes)
    stage-end = (c.start, omega (arith, c.few, sent-fits (length active) neighbours))

    pub stage-length : length codes ≤ 2 * length active * (neighbours + 1)
    stage-length =
        let e = stage-end in
        let s = e.0 in
        let t = e.1 in
        omega (arith, length_part wholes (length active) (r - length active) (omega arith), c.few, sent-fits (length active) neighbours)

    pub stage-inside : (z : ℕ) → Memᴰ z codes → z % most_leaves < length active
    stage-inside z i =
        let s = c.only z i in
        let b = s.below in
        let w = s.within in
        let f = S.few in
        ⊎_elim (λ e. rw e (omega arith)) (λ e. rw e (omega arith)) s.is

    abbrev positions : List (List ℕ)
    positions = positions_of d cs neighbours active own

    pub stage-encoded : Encoded m (length active) codes positions
    stage-encoded =
        subst (λ (k : ℕ). Encoded k (length active) codes positions) (read_length I D first m)
        (collected-encoded d cs neighbours active own (same_mem (joined own) active S.leaves.shared) owner O wholes r c)

    abbrev lists : List (List ℕ)
    lists = borrowed_lists d cs neighbours active own

    -- ---- what was written by positions, by rows
    pub stage-number : (n : ℕ) → n ≡ length (joined positions) → n ≡ length (joined lists)
    stage-number n e =
        e ∙ sym (length-map (joined positions) (λ q. get_or active q 0)) ∙ ap length (map-joined (λ q. get_or active q 0) positions)
        ∙ ap (λ (x : List (List ℕ)). length (joined x)) (positions-rows d cs neighbours active own)

    pub stage-borrowed : (B new : List ℕ) (bat : ℕ) → new ≡ put B bat (joined (map (map (λ q. get_or active q 0)) positions)) → new ≡ put B bat (joined lists)
    stage-borrowed B new bat e = e ∙ ap (λ (x : List (List ℕ)). put B bat (joined x)) (positions-rows d cs neighbours active own)

    pub stage-domains : (new : List ℕ) (bat : ℕ) → new ≡ with_borrowed bat positions first D → new ≡ with_borrowed bat lists first D
    stage-domains new bat e =
        e ∙ sym (columns-map (λ q. get_or active q 0) bat positions first D) ∙ ap (λ (x : List (List ℕ)). with_borrowed bat x first D) (positions-rows d cs neighbours active own)
