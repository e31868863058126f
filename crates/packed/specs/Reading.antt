-- How packed lists are read: a domain row, what it names, a level, and the whole tree. This is the one reading: the demand, the
-- printout and the stages of a level speak of packed lists through it. Definitions only.
use Rattle.std.specs.Prelude.{ℕ, ◌+◌, ◌-◌, ◌*◌, ◌≤◌, ◌<◌, ◌≡◌, List, map, length, get_or, take, Float}
use Rattle.lists.specs.Lists.{total, from, joined, part}
use Rattle.definition.specs.Number.{plus_zero}
use Rattle.definition.specs.Points.{box_width_lem}
use Rattle.definition.specs.Tree.{Leaf, Level}
use Rattle.definition.specs.Packed.{DomainRow, row_numbers, row_floats_lem, leaf_floats}

-- ---- the domain row number j of a list of domain rows

-- where the leaf's own rows start and how many they are, then the same of the rows that it borrows; and the leaf's depth
abbrev pub own_start : List ℕ → ℕ → ℕ
own_start domains j = get_or domains (row_numbers * j) 0

abbrev pub own_count : List ℕ → ℕ → ℕ
own_count domains j = get_or domains (row_numbers * j + 1) 0

abbrev pub borrowed_start : List ℕ → ℕ → ℕ
borrowed_start domains j = get_or domains (row_numbers * j + 2) 0

abbrev pub borrowed_count : List ℕ → ℕ → ℕ
borrowed_count domains j = get_or domains (row_numbers * j + 3) 0

abbrev pub depth_at : List ℕ → ℕ → ℕ
depth_at domains j = get_or domains (row_numbers * j + 4) 0

abbrev pub row_at : List ℕ → ℕ → DomainRow
row_at domains j =
    record {
      own_start = own_start domains j;
      own_count = own_count domains j;
      borrowed_start = borrowed_start domains j;
      borrowed_count = borrowed_count domains j;
      depth = depth_at domains j;
    }

-- ---- what it names: the leaf's own rows, the rows that it borrows, and its floats on d axes, which are its box and its cover

abbrev pub own_at : List ℕ → List ℕ → ℕ → List ℕ
own_at internals domains j = part internals (own_start domains j) (own_count domains j)

abbrev pub borrowed_at : List ℕ → List ℕ → ℕ → List ℕ
borrowed_at borrowed domains j = part borrowed (borrowed_start domains j) (borrowed_count domains j)

abbrev pub box_at_lem : ℕ → List Float → ℕ → List Float
box_at_lem d boxes j = part boxes (row_floats_lem d * j) (box_width_lem d)

abbrev pub cover_at : ℕ → List Float → ℕ → Float
cover_at d boxes j = get_or boxes (row_floats_lem d * j + box_width_lem d) plus_zero

-- the own rows of the m leaves from the domain row number `first` on
unfoldable pub read_own : List ℕ → List ℕ → ℕ → ℕ → List (List ℕ)
read_own internals domains first m = map (λ l. own_at internals domains (first + l)) (from 0 m)

-- ---- leaves

-- the lists that hold leaves on so many axes
pub record Packed : Type 0 where
  pub internals : List ℕ
  pub domains : List ℕ
  pub boxes : List Float
  pub borrowed : List ℕ
  pub dimension : ℕ

abbrev pub packed : List ℕ → List ℕ → List Float → List ℕ → ℕ → Packed
packed internals domains boxes borrowed d =
    record { internals = internals; domains = domains; boxes = boxes; borrowed = borrowed; dimension = d }

-- the leaf of the domain row number j
unfoldable pub read_leaf : Packed → ℕ → Leaf
read_leaf p j =
    record {
      own = own_at p.internals p.domains j;
      borrowed = borrowed_at p.borrowed p.domains j;
      box = box_at_lem p.dimension p.boxes j;
      cover = cover_at p.dimension p.boxes j;
      depth = depth_at p.domains j;
    }

-- m leaves from the domain row number j on
unfoldable pub read_leaves : Packed → ℕ → ℕ → List Leaf
read_leaves p j m = map (read_leaf p) (from j m)

-- the rows, borrowed rows and floats of leaves, leaf by leaf
abbrev pub own_in_lem : List Leaf → List ℕ
own_in_lem fs = joined (map (λ f. f.own) fs)

abbrev pub borrowed_in : List Leaf → List ℕ
borrowed_in fs = joined (map (λ f. f.borrowed) fs)

abbrev pub boxes_in : List Leaf → List Float
boxes_in fs = joined (map leaf_floats fs)

-- ---- levels, by the row and domain counts per level

-- how many come before the level number l
abbrev pub up_to : List ℕ → ℕ → ℕ
up_to counts l = total (take l counts)

-- the rows that it lists: its stretch of the level points, which starts where those of the levels before it end
abbrev pub points_at : List ℕ → List ℕ → ℕ → List ℕ
points_at level_points rows l = part level_points (up_to rows l) (get_or rows l 0)

unfoldable pub read_level : Packed → List ℕ → List ℕ → List ℕ → ℕ → Level
read_level p level_points rows counts l =
    record {
      points = points_at level_points rows l;
      leaves = read_leaves p (up_to counts l) (get_or counts l 0);
    }

-- the first n levels
unfoldable pub read_levels : Packed → List ℕ → List ℕ → List ℕ → ℕ → List Level
read_levels p level_points rows counts n = map (read_level p level_points rows counts) (from 0 n)

-- ---- what has to stand in the lists before a reader may go by them

-- the domain row number j, with its stretches and its floats, on up to three axes
pub record RowFits (p : Packed) (j : ℕ) : Type 0 where
  pub axes : p.dimension ≤ 3
  pub row : row_numbers * (j + 1) ≤ length p.domains
  pub own : own_start p.domains j + own_count p.domains j ≤ length p.internals
  pub borrowed : borrowed_start p.domains j + borrowed_count p.domains j ≤ length p.borrowed
  pub floats : row_floats_lem p.dimension * (j + 1) ≤ length p.boxes

-- n levels with their counts; the last one is coarse, with one domain
pub record Stands (p : Packed) (level_points rows counts : List ℕ) (n : ℕ) : Type 0 where
  pub some : 1 ≤ n
  pub rowed : n ≤ length rows
  pub counted : n ≤ length counts
  pub within : up_to rows n ≤ length level_points
  pub fits : (j : ℕ) → j < up_to counts n → RowFits p j
  pub coarse : get_or counts (n - 1) 0 ≡ 1
