-- What a build hands back, and its levels and leaves as a reader finds them: by the reported counts and the domain rows alone.
-- Nothing here says how a tree is computed. Definitions only.
use Rattle.std.specs.Prelude.{ℕ, suc, ◌+◌, ◌<◌, List, map, length, get_or, Float}
use Rattle.lists.specs.Lists.{from}
use Rattle.definition.specs.Packed.{Counts, DomainRow}
use Rattle.definition.specs.Outcome.{Answer, TreeLists}
use Rattle.packed.specs.Reading.{row_at, own_at, borrowed_at, box_at_lem, cover_at, depth_at, up_to, points_at}

-- the five lists after the call, and the counts that it reports
pub record Handed : Type 0 where
  pub lists : TreeLists
  pub counts : Counts

-- of a call that answers so and leaves the lists so
abbrev pub handed : Answer Counts → TreeLists → Handed
handed answer lists = record { lists = lists; counts = answer.value }

-- ---- levels

-- how many levels there are, how many rows level l lists, and how many leaves it has
abbrev pub level_count : Handed → ℕ
level_count h = h.counts.levels

abbrev pub rows_on_lem : Handed → ℕ → ℕ
rows_on_lem h l = get_or h.counts.rows l 0

abbrev pub leaves_on : Handed → ℕ → ℕ
leaves_on h l = get_or h.counts.domains l 0

-- a level comes after level l
abbrev pub HasNext : Handed → ℕ → Type 0
HasNext h l = suc l < level_count h

-- the rows that level l lists
unfoldable pub listed : Handed → ℕ → List ℕ
listed h l = points_at h.lists.level_points h.counts.rows l

-- ---- leaves

-- the number of the domain row of leaf i of level l, among those of all levels
unfoldable pub row_number : Handed → ℕ → ℕ → ℕ
row_number h l i = up_to h.counts.domains l + i

-- that row, the leaf's own (internal) rows, the rows that it borrows, its box and its cover on d axes, and its depth
unfoldable pub domain_row : Handed → ℕ → ℕ → DomainRow
domain_row h l i = row_at h.lists.domains (row_number h l i)

unfoldable pub own_of : Handed → ℕ → ℕ → List ℕ
own_of h l i = own_at h.lists.internals h.lists.domains (row_number h l i)

unfoldable pub borrowed_of : Handed → ℕ → ℕ → List ℕ
borrowed_of h l i = borrowed_at h.lists.borrowed h.lists.domains (row_number h l i)

unfoldable pub box_of : ℕ → Handed → ℕ → ℕ → List Float
box_of d h l i = box_at_lem d h.lists.boxes (row_number h l i)

unfoldable pub cover_in : ℕ → Handed → ℕ → ℕ → Float
cover_in d h l i = cover_at d h.lists.boxes (row_number h l i)

unfoldable pub depth_of : Handed → ℕ → ℕ → ℕ
depth_of h l i = depth_at h.lists.domains (row_number h l i)

-- ---- all leaves of level l, in their order: the own rows of each, how many these are, the boxes, and the depths
unfoldable pub own_lists : Handed → ℕ → List (List ℕ)
own_lists h l = map (own_of h l) (from 0 (leaves_on h l))

unfoldable pub leaf_sizes : Handed → ℕ → List ℕ
leaf_sizes h l = map length (own_lists h l)

unfoldable pub leaf_boxes : ℕ → Handed → ℕ → List (List Float)
leaf_boxes d h l = map (box_of d h l) (from 0 (leaves_on h l))

unfoldable pub leaf_depths_lem : Handed → ℕ → List ℕ
leaf_depths_lem h l = map (depth_of h l) (from 0 (leaves_on h l))
