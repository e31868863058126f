-- What the depth-first cut of a domain leaves in the lists that it is lent. Definitions only.
use Rattle.std.specs.Prelude.{ℕ, ◌+◌, ◌*◌, ◌≤◌, ◌≡◌, List, ◌++◌, map, length, drop, Float}
use Rattle.lists.specs.Lists.{put, joined}
use Rattle.definition.specs.Points.{box_width_lem}
use Rattle.definition.specs.Cut.{Domain}
use Rattle.definition.specs.Record.{Cuts, whole_of, float_of, nodes_from}
use Rattle.boxes.specs.declared.Extents.{Extents}
use Rattle.boxes.specs.Boxes.{floats_of}
use Rattle.record_laws.specs.Table.{entry_width, entry_numbers, entries_under, boxes_under, unnumbered, node_count, leaf_count}

-- the domain of these rows in this box, at this depth
abbrev pub domain_of : List ℕ → Extents → ℕ → Domain
domain_of rows whole depth = record { rows = rows; box = floats_of whole; depth = depth }

-- The cuts t of a domain were written: the nodes from `place` on, where those of its leaves have no number yet; the entries of
-- the leaves to the table, which stands in the whole numbers from `base` on, from the entry `first` on; and their boxes to the floats,
-- from the box `first` on. `next` is the place of the next node, and `after` the next leaf.
pub record Written (d base : ℕ) (t : Cuts) (place first next after : ℕ) (W W' : List ℕ) (F F' : List Float) (C C' : List ℕ) (P P' : List Float) : Type 0 where
  pub table : drop base W' ≡ put (drop base W) (entry_width * first) (joined (map entry_numbers (entries_under place t)))
  pub boxes : F' ≡ put F (box_width_lem d * first) (boxes_under t)
  pub cuts : C' ≡ put C place (map whole_of (nodes_from unnumbered first t))
  pub planes : P' ≡ put P place (map float_of (nodes_from unnumbered first t))
  pub place_next : next ≡ place + node_count t
  pub leaves_next : after ≡ first + leaf_count t

-- the same of two domains, l and then r
pub record WrittenTwo (d base : ℕ) (l r : Cuts) (place first next after : ℕ) (W W' : List ℕ) (F F' : List Float) (C C' : List ℕ) (P P' : List Float) : Type 0 where
  pub table :
      drop base W'
      ≡ put (drop base W) (entry_width * first) (joined (map entry_numbers (entries_under place l ++ entries_under (place + node_count l) r)))
  pub boxes : F' ≡ put F (box_width_lem d * first) (boxes_under l ++ boxes_under r)
  pub cuts : C' ≡ put C place (map whole_of (nodes_from unnumbered first l ++ nodes_from unnumbered (first + leaf_count l) r))
  pub planes : P' ≡ put P place (map float_of (nodes_from unnumbered first l ++ nodes_from unnumbered (first + leaf_count l) r))
  pub place_next : next ≡ place + node_count l + node_count r
  pub leaves_next : after ≡ first + leaf_count l + leaf_count r

-- the lists have room for the cuts of a domain of n rows: at most 2n leaves and 4n - 1 nodes
pub record Space (d base n place first : ℕ) (W : List ℕ) (F : List Float) (C : List ℕ) (P : List Float) : Type 0 where
  pub ordering : n ≤ base
  pub table : base + entry_width * (first + 2 * n) ≤ length W
  pub boxes : box_width_lem d * (first + 2 * n) ≤ length F
  pub cuts : place + 4 * n ≤ length C
  pub planes : place + 4 * n ≤ length P
