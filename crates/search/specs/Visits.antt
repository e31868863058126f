-- What a search asks, and what the steps of it do: rows are offered to those kept so far. Rows are named by their positions in the active list.
-- Definitions only.
use Rattle.std.specs.Prelude.{ℕ, suc, ◌+◌, ◌-◌, ◌*◌, ◌≤◌, ◌<◌, ◌≡◌, Bool, true, false, List, ◌++◌, length, set, Float}
use mathlib.Core.List.{Memᴰ}
use Rattle.lists.specs.Lists.{part}
use Rattle.lists.specs.Ascends.{All}
use Rattle.lists.specs.Same.{Same}
use Rattle.lists.specs.Times.{Once}
use Rattle.definition.specs.Overlaps.{others}
use Rattle.definition.specs.Packed.{row_numbers}
use Rattle.definition.specs.Record.{Cuts}
use Rattle.rows.specs.Rows.{GoodRow, GoodRows}
use Rattle.boxes.specs.Boxes.{floats_of}
use Rattle.packed.specs.Reading.{own_start, own_count, own_at}
use Rattle.record_laws.specs.Table.{rows_under}
use Rattle.gap_laws.specs.Boxed.{Boxed}
use Rattle.cut_index.specs.Filed.{positions_of, right_of_node}
use Rattle.cut_index.specs.Indexed.{FiledBy}
use Rattle.nearest_scan.specs.Near.{apart, sooner, Found}
use Rattle.kept_laws.specs.First.{Held}
use Rattle.search.specs.declared.Search.{Search}
use Rattle.search.specs.declared.Place.{Place}

-- what holds throughout a search for the nearest of a row
pub record Asked (s : Search) (row : ℕ) : Type 0 where
  pub few : s.points.dimensions ≤ 3
  pub good : GoodRows s.points.dimensions s.points.coordinates.now s.active.now
  pub whose : GoodRow s.points.dimensions s.points.coordinates.now row

-- ---- rows offered

-- what is kept after these positions were visited
abbrev pub HeldBy : Search → ℕ → List ℕ → List ℕ → List Float → ℕ → Type 0
HeldBy s row visited near far count =
    Held (apart s.points.dimensions s.points.coordinates.now s.active.now row) (sooner s.points.dimensions s.points.coordinates.now s.active.now row) s.neighbours visited near far count

-- active rows, none of them visited yet, and what is kept of those visited
pub record Offered (s : Search) (row : ℕ) (rows visited near : List ℕ) (far : List Float) (count : ℕ) : Type 0 where
  pub asked : Asked s row
  pub active : All (λ r. Memᴰ r s.active.now) rows
  pub below : All (λ q. q < length s.active.now) visited
  pub once : Once (visited ++ positions_of s.active.now rows)
  pub held : HeldBy s row visited near far count

-- from the first lists to the second these rows were offered, all but the row itself
abbrev pub Offers : Search → ℕ → List ℕ → List ℕ → List Float → ℕ → List ℕ → List Float → ℕ → Type 0
Offers s row rows near far count near' far' count' =
    (visited : List ℕ) → Offered s row rows visited near far count → HeldBy s row (visited ++ positions_of s.active.now (others rows row)) near' far' count'

-- ---- nodes

-- the node of this domain stands there, with its box, and so do all under it
pub record Stands (s : Search) (p : Place) (t : Cuts) : Type 0 where
  pub filed : FiledBy s.filed s.active.now t p.at
  pub boxed : Boxed s.points.dimensions s.points.coordinates.now (floats_of p.whole) t
  pub axes : p.whole.dimensions ≡ s.points.dimensions

-- the leaf with this number has these rows: where its domain row, its own rows and their positions stand
pub record LeafStands (s : Search) (number : ℕ) (rows : List ℕ) : Type 0 where
  pub row : row_numbers * (s.filed.leaves.first + number + 1) ≤ length s.filed.leaves.domains.now
  pub inside : own_start s.filed.leaves.domains.now (s.filed.leaves.first + number) + own_count s.filed.leaves.domains.now (s.filed.leaves.first + number) ≤ length s.filed.leaves.internals.now
  pub start : s.filed.from ≤ own_start s.filed.leaves.domains.now (s.filed.leaves.first + number)
  pub end : own_start s.filed.leaves.domains.now (s.filed.leaves.first + number) - s.filed.from + own_count s.filed.leaves.domains.now (s.filed.leaves.first + number) ≤ length s.filed.positions.now
  pub own : own_at s.filed.leaves.internals.now s.filed.leaves.domains.now (s.filed.leaves.first + number) ≡ rows
  pub places :
      part s.filed.positions.now (own_start s.filed.leaves.domains.now (s.filed.leaves.first + number) - s.filed.from) (own_count s.filed.leaves.domains.now (s.filed.leaves.first + number))
      ≡ positions_of s.active.now rows

-- a half of a cut node: the left one, or the right one where the test passes
abbrev pub HalfOf : Search → Place → ℕ → Float → Bool → Place → Type 0
HalfOf s p axis plane false h =
    (h.at ≡ suc p.at) × (h.whole.dimensions ≡ p.whole.dimensions) × (floats_of h.whole ≡ set (floats_of p.whole) (p.whole.dimensions + axis) plane)
HalfOf s p axis plane true h =
    (h.at ≡ right_of_node s.filed.index.now p.at) × (h.whole.dimensions ≡ p.whole.dimensions) × (floats_of h.whole ≡ set (floats_of p.whole) axis plane)

-- ---- WHAT A CALLER GIVES: good active rows on up to three axes, and a domain whose record, index and leaves are filed from 0 on, whose boxes hold
-- their rows, from the root's box down, and whose rows are the active ones, each once
pub record Searchable (s : Search) : Type 0 where
  pub few : s.points.dimensions ≤ 3
  pub good : GoodRows s.points.dimensions s.points.coordinates.now s.active.now
  pub tree : Cuts
  pub filed : FiledBy s.filed s.active.now tree 0
  pub boxed : Boxed s.points.dimensions s.points.coordinates.now (floats_of s.whole) tree
  pub axes : s.whole.dimensions ≡ s.points.dimensions
  pub rows : Same (rows_under tree) s.active.now

-- ---- WHAT COMES BACK: as of a scan
abbrev pub FoundFor : Search → ℕ → List ℕ → List Float → Type 0
FoundFor s row near far = Found s.points.dimensions s.points.coordinates.now s.active.now row s.neighbours near far
