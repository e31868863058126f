-- The engine's table of the leaves from left to right, three whole numbers each, and what the numbering makes of it. Definitions only.
use Rattle.std.specs.Prelude.{ℕ, zero, suc, ◌+◌, ◌*◌, Bool, true, false, List, [], ◌∷◌, ◌++◌, map, length, get_or, set, eqb, Float}
use Rattle.lists.specs.Lists.{one_if, cons_if, part, joined}
use Rattle.definition.specs.Cut.{Domain}
use Rattle.definition.specs.Record.{Cuts, uncut, cut_at, cuts_of, leaves_under, nodes_from}

-- ---- the cuts of a domain, with fuel for its rows
unfoldable pub cuts_at : ℕ → List Float → ℕ → Domain → Cuts
cuts_at d cs leaf q = cuts_of d cs leaf (length q.rows) q

-- ---- the table

-- of a leaf: its depth, how many rows it has, and the place of its node in the record
pub record Entry : Type 0 where
  pub depth : ℕ
  pub count : ℕ
  pub place : ℕ

abbrev pub entry_width : ℕ
entry_width = 3

abbrev pub entry_numbers : Entry → List ℕ
entry_numbers x = x.depth ∷ x.count ∷ x.place ∷ []

-- the m entries that stand in a list from `at` on
unfoldable pub entries_in : List ℕ → ℕ → ℕ → List Entry
entries_in w at zero = []
entries_in w at (suc m) = record { depth = get_or w at 0; count = get_or w (at + 1) 0; place = get_or w (at + 2) 0 } ∷ entries_in w (at + entry_width) m

-- ---- what the engine leaves behind

-- the number that a leaf's node has until the leaves are numbered
abbrev pub unnumbered : ℕ → ℕ
unnumbered k = 0

-- how many nodes a record has
unfoldable pub node_count : Cuts → ℕ
node_count t = length (nodes_from unnumbered 0 t)

-- how many leaves
unfoldable pub leaf_count : Cuts → ℕ
leaf_count t = length (leaves_under t)

-- the entries of the leaves of a domain whose record stands from `place` on
unfoldable pub entries_under : ℕ → Cuts → List Entry
entries_under place (uncut q) = record { depth = q.depth; count = length q.rows; place = place } ∷ []
entries_under place (cut_at a p l r) = entries_under (suc place) l ++ entries_under (suc place + node_count l) r

-- the rows of the leaves, and their boxes, from left to right
unfoldable pub rows_under : Cuts → List ℕ
rows_under t = joined (map (λ q. q.rows) (leaves_under t))

unfoldable pub boxes_under : Cuts → List Float
boxes_under t = joined (map (λ q. q.box) (leaves_under t))

-- ---- what the numbering makes of it: one depth at a time

-- the rows of the leaves at depth e, where the rows of all stand in a list from `at` on
unfoldable pub rows_at_depth : ℕ → List ℕ → ℕ → List Entry → List (List ℕ)
rows_at_depth e rows at [] = []
rows_at_depth e rows at (x ∷ xs) = cons_if (eqb x.depth e) (part rows at x.count) (rows_at_depth e rows (at + x.count) xs)

-- their boxes, where all boxes, w floats each, stand in a list from the k-th on
unfoldable pub boxes_at_depth : ℕ → ℕ → List Float → ℕ → List Entry → List (List Float)
boxes_at_depth e w boxes k [] = []
boxes_at_depth e w boxes k (x ∷ xs) = cons_if (eqb x.depth e) (part boxes (w * k) w) (boxes_at_depth e w boxes (suc k) xs)

-- the list with v as its i-th entry where the test passes, and as it is otherwise
abbrev pub set_if : Bool → List ℕ → ℕ → ℕ → List ℕ
set_if true l i v = set l i v
set_if false l i v = l

-- the record's whole numbers after the leaves at depth e got their numbers, from `number` on
unfoldable pub numbered : ℕ → ℕ → List Entry → List ℕ → List ℕ
numbered e number [] cuts = cuts
numbered e number (x ∷ xs) cuts = numbered e (number + one_if (eqb x.depth e)) xs (set_if (eqb x.depth e) cuts x.place (3 + number))
