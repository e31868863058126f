-- A level's record, its index and its leaves, as a search goes by them. A row is named by its position in the ascending active list.
-- Definitions only.
use Rattle.std.specs.Prelude.{ℕ, suc, ◌+◌, ◌-◌, ◌*◌, ◌≤◌, ◌<◌, ◌≡◌, List, map, length, get_or, ltb, Float}
use Rattle.std.specs.Float.{nan}
use Rattle.lists.specs.Lists.{count, part}
use Rattle.lists.specs.Ascends.{All}
use Rattle.definition.specs.Cut.{Domain}
use Rattle.definition.specs.Packed.{row_numbers}
use Rattle.definition.specs.Record.{Cuts, uncut, cut_at}
use Rattle.packed.specs.Reading.{own_start, own_count, own_at}
use Rattle.record_laws.specs.Table.{node_count, rows_under}

-- where a row stands in the ascending list: how many are lower
unfoldable pub position_in : List ℕ → ℕ → ℕ
position_in active row = count (λ j. ltb j row) active

-- the positions of rows
unfoldable pub positions_of : List ℕ → List ℕ → List ℕ
positions_of active rows = map (position_in active) rows

-- the positions of the rows under a domain, leaf by leaf
unfoldable pub positions_under : List ℕ → Cuts → List ℕ
positions_under active t = positions_of active (rows_under t)

-- how many numbers the index has of a node: the place of its right half, and the least position under it
abbrev pub index_width : ℕ
index_width = 2

abbrev pub right_of_node : List ℕ → ℕ → ℕ
right_of_node index at = get_or index (index_width * at) 0

abbrev pub least_of_node : List ℕ → ℕ → ℕ
least_of_node index at = get_or index (index_width * at + 1) 0

-- The lists: of the record, cuts and planes of this level; of the index; of the leaves, the own rows I and the domain rows D, of which those of
-- the level are the m from number `first` on, and whose own rows stand from `from` on; and the positions of those, in their order.
module _ (active : List ℕ) (cuts : List ℕ) (planes : List Float) (index I D : List ℕ) (first m from : ℕ) (positions : List ℕ) where
  -- at this place there are a node and its entry of the index
  pub record NodeAt (at : ℕ) : Type 0 where
    pub whole : at < length cuts
    pub plane : at < length planes
    pub entry : index_width * (at + 1) ≤ length index

  -- the leaf q has a node there, with its number, by which its rows and their positions are found
  pub record LeafAt (q : Domain) (at : ℕ) : Type 0 where
    pub number : ℕ
    pub node : NodeAt at
    pub whole : get_or cuts at 0 ≡ 3 + number
    pub known : number < m
    pub row : row_numbers * (first + number + 1) ≤ length D
    pub inside : own_start D (first + number) + own_count D (first + number) ≤ length I
    pub start : from ≤ own_start D (first + number)
    pub end : own_start D (first + number) - from + own_count D (first + number) ≤ length positions
    pub rows : own_at I D (first + number) ≡ q.rows
    pub places : part positions (own_start D (first + number) - from) (own_count D (first + number)) ≡ positions_of active q.rows
    pub least : All (λ p. least_of_node index at ≤ p) (positions_of active q.rows)

  -- the cut of the domain with these halves has a node there, whose right half stands behind the left one
  pub record CutAt (a : ℕ) (x : Float) (l r : Cuts) (at : ℕ) : Type 0 where
    pub node : NodeAt at
    pub axis : get_or cuts at 0 ≡ a
    pub few : a < 3
    pub value : get_or planes at nan ≡ x
    pub right : right_of_node index at ≡ suc at + node_count l
    pub least : All (λ p. least_of_node index at ≤ p) (positions_under active (cut_at a x l r))

  -- all nodes of a domain whose record stands from `at` on
  unfoldable pub Filed : Cuts → ℕ → Type 0
  Filed (uncut q) at = LeafAt q at
  Filed (cut_at a x l r) at = CutAt a x l r at × Filed l (suc at) × Filed r (suc at + node_count l)
