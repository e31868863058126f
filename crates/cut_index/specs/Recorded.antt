-- A level's record and its leaves before the index is made, and the numbers that the index then has. Definitions only.
use Rattle.std.specs.Prelude.{ℕ, suc, ◌+◌, ◌-◌, ◌*◌, ◌≤◌, ◌<◌, ◌≡◌, min, List, [], ◌∷◌, ◌++◌, map, length, get_or, take, Float}
use Rattle.std.specs.Float.{nan}
use Rattle.lists.specs.Lists.{total, part}
use Rattle.lists.specs.Ascends.{Ascends}
use Rattle.definition.specs.Cut.{Domain}
use Rattle.definition.specs.Packed.{row_numbers}
use Rattle.definition.specs.Record.{Cuts, uncut, cut_at}
use Rattle.packed.specs.Reading.{own_start, own_count, own_at, read_own}
use Rattle.record_laws.specs.Table.{node_count}
use Rattle.cut_index.specs.Filed.{positions_of}

-- the own rows of the m leaves from the domain row number `first` on stand from `from` on, leaf by leaf
abbrev pub PackedFrom : ℕ → List ℕ → List ℕ → ℕ → ℕ → Type 0
PackedFrom from I D first m = (l : ℕ) → l < m → own_start D (first + l) ≡ from + total (map length (take l (read_own I D first m)))

-- ---- what is made

-- the greatest whole number: the least position under a domain that has no rows
abbrev pub most_whole : ℕ
most_whole = 18446744073709551615

-- the least position of a row under a domain; the rows of a leaf ascend, so that it is the first one's there
unfoldable pub least_under : List ℕ → Cuts → ℕ
least_under active (uncut q) = get_or (positions_of active q.rows) 0 most_whole
least_under active (cut_at a x l r) = min (least_under active l) (least_under active r)

-- the index of all nodes of a domain whose record stands from `at` on: the place of a cut's right half, and the least position
unfoldable pub index_of : List ℕ → Cuts → ℕ → List ℕ
index_of active (uncut q) at = 0 ∷ least_under active (uncut q) ∷ []
index_of active (cut_at a x l r) at =
    (suc at + node_count l) ∷ least_under active (cut_at a x l r) ∷ (index_of active l (suc at) ++ index_of active r (suc at + node_count l))

-- ---- of what it is made: the lists of Filed, but the index
module _ (active : List ℕ) (cuts : List ℕ) (planes : List Float) (I D : List ℕ) (first m from : ℕ) (positions : List ℕ) where
  -- the leaf q has a node there, with its number, by which its rows and their positions are found; its rows ascend
  pub record LeafWritten (q : Domain) (at : ℕ) : Type 0 where
    pub number : ℕ
    pub here : at < length cuts
    pub here_too : at < length planes
    pub whole : get_or cuts at 0 ≡ 3 + number
    pub known : number < m
    pub row : row_numbers * (first + number + 1) ≤ length D
    pub inside : own_start D (first + number) + own_count D (first + number) ≤ length I
    pub start : from ≤ own_start D (first + number)
    pub end : own_start D (first + number) - from + own_count D (first + number) ≤ length positions
    pub rows : own_at I D (first + number) ≡ q.rows
    pub places : part positions (own_start D (first + number) - from) (own_count D (first + number)) ≡ positions_of active q.rows
    pub ascends : Ascends q.rows

  -- a cut on this axis at this plane has a node there
  pub record CutWritten (a : ℕ) (x : Float) (at : ℕ) : Type 0 where
    pub here : at < length cuts
    pub here_too : at < length planes
    pub axis : get_or cuts at 0 ≡ a
    pub few : a < 3
    pub value : get_or planes at nan ≡ x

  -- all nodes of a domain whose record stands from `at` on
  unfoldable pub Recorded : Cuts → ℕ → Type 0
  Recorded (uncut q) at = LeafWritten q at
  Recorded (cut_at a x l r) at = CutWritten a x at × Recorded l (suc at) × Recorded r (suc at + node_count l)
