-- The lent lists: how large they are, what a domain row holds, and how a tree is packed into them. Definitions only.
use Rattle.std.specs.Prelude.{ℕ, suc, ◌+◌, ◌*◌, List, [], ◌∷◌, ◌++◌, map, length, take, replicate, Float}
use Rattle.lists.specs.Lists.{joined}
use Rattle.definition.specs.Points.{box_width_lem}
use Rattle.definition.specs.Tree.{Leaf, Level, most_fine}
use Rattle.definition.specs.Record.{most_nodes}

-- ---- a domain row

-- where the leaf's internal rows start and how many they are, then the same of its borrowed rows; and the leaf's depth
pub record DomainRow : Type 0 where
  pub own_start : ℕ
  pub own_count : ℕ
  pub borrowed_start : ℕ
  pub borrowed_count : ℕ
  pub depth : ℕ

-- the strides of a domain row: its whole numbers, and its floats, which are the bounds of its box and then its cover
abbrev pub row_numbers : ℕ
row_numbers = 5

abbrev pub row_floats_lem : ℕ → ℕ
row_floats_lem d = box_width_lem d + 1

-- the whole numbers of a domain row, in their order
abbrev pub numbers_of : DomainRow → List ℕ
numbers_of r = r.own_start ∷ r.own_count ∷ r.borrowed_start ∷ r.borrowed_count ∷ r.depth ∷ []

-- the domain row of a leaf whose stretches start at a and b
abbrev pub row_of : ℕ → ℕ → Leaf → DomainRow
row_of a b f =
    record {
      own_start = a;
      own_count = length f.own;
      borrowed_start = b;
      borrowed_count = length f.borrowed;
      depth = f.depth;
    }

-- the floats of a leaf's domain row, in their order
abbrev pub leaf_floats : Leaf → List Float
leaf_floats f = f.box ++ f.cover ∷ []

-- ---- packing: level by level, leaf by leaf

-- all leaves of the tree, in their order
unfoldable pub leaves_in_lem : List Level → List Leaf
leaves_in_lem ls = joined (map (λ l. l.leaves) ls)

-- the level points and the internals
unfoldable pub packed_level_points : List Level → List ℕ
packed_level_points ls = joined (map (λ l. l.points) ls)

unfoldable pub packed_internals : List Level → List ℕ
packed_internals ls = joined (map (λ f. f.own) (leaves_in_lem ls))

-- the domain rows: each stretch starts where the last one of its list ended; the first two start at a and b
unfoldable pub stretches : ℕ → ℕ → List Leaf → List ℕ
stretches a b [] = []
stretches a b (f ∷ fs) = numbers_of (row_of a b f) ++ stretches (a + length f.own) (b + length f.borrowed) fs

unfoldable pub packed_domains : List Level → List ℕ
packed_domains ls = stretches 0 0 (leaves_in_lem ls)

-- the boxes, each with its cover, and the borrowed rows
unfoldable pub packed_boxes : List Level → List Float
packed_boxes ls = joined (map leaf_floats (leaves_in_lem ls))

unfoldable pub packed_borrowed : List Level → List ℕ
packed_borrowed ls = joined (map (λ f. f.borrowed) (leaves_in_lem ls))

-- ---- counts

-- the most levels: the fine ones and the coarse one
abbrev pub most_levels : ℕ
most_levels = suc most_fine

-- one number for each level that there can be, and 0 beyond the last
unfoldable pub per_level : (Level → ℕ) → List Level → List ℕ
per_level f ls = take most_levels (map f ls ++ replicate most_levels 0)

-- what the build reports: the number of levels, and row and domain counts per level
pub record Counts : Type 0 where
  pub levels : ℕ
  pub rows : List ℕ
  pub domains : List ℕ

unfoldable pub counts_of : List Level → Counts
counts_of ls =
    record {
      levels = length ls;
      rows = per_level (λ l. length l.points) ls;
      domains = per_level (λ l. length l.leaves) ls;
    }

-- ---- the lent sizes

-- the lengths of the five lists that a tree is packed into
pub record TreeSizes : Type 0 where
  pub level_points : ℕ
  pub internals : ℕ
  pub domains : ℕ
  pub boxes : ℕ
  pub borrowed : ℕ

-- the lengths of the lists lent to a build: those of the tree, the working room, and the two lists of the record (request 9)
pub record BuildSizes : Type 0 where
  pub tree : TreeSizes
  pub floats : ℕ
  pub wholes : ℕ
  pub cuts : ℕ
  pub planes : ℕ

-- the most domain rows of a tree over n points
abbrev pub most_rows : ℕ → ℕ
most_rows n = 6 * n + 1

-- what is to be lent for a tree over n points on d axes with this neighbour count
unfoldable pub tree_stated : ℕ → ℕ → ℕ → TreeSizes
tree_stated d n neighbours =
    record {
      level_points = 4 * n;
      internals = 4 * n;
      domains = row_numbers * most_rows n;
      boxes = row_floats_lem d * most_rows n;
      borrowed = 6 * n * (neighbours + 1);
    }

-- what a build of it is to be lent: of the whole numbers of room, 8n are request 9's
unfoldable pub build_stated : ℕ → ℕ → ℕ → BuildSizes
build_stated d n neighbours =
    record {
      tree = tree_stated d n neighbours;
      floats = 32 * n;
      wholes = 40 * n + 8 * n * (neighbours + 1);
      cuts = most_nodes n;
      planes = most_nodes n;
    }

-- the lengths of the lists lent to sampling, and what it is to be lent for n rows
pub record SampleSizes : Type 0 where
  pub output : ℕ
  pub floats : ℕ
  pub wholes : ℕ

unfoldable pub sample_stated : ℕ → ℕ → SampleSizes
sample_stated n wanted = record { output = wanted; floats = 2 * n; wholes = n }

-- the lengths of the lists lent to the quotas, and what they are to be lent: one entry per leaf
pub record QuotaSizes : Type 0 where
  pub output : ℕ
  pub wholes : ℕ

unfoldable pub quota_stated : ℕ → QuotaSizes
quota_stated leaves = record { output = leaves; wholes = leaves }
