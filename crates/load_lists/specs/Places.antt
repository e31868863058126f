-- Where the records of a stored tree are read, where their parts are written, and the room for these. Definitions only.
use Rattle.std.specs.Prelude.{ℕ, ◌+◌, ◌*◌, ◌≤◌, ◌≡◌, Bool, cond, List, ◌++◌, length, drop, replicate, Float}
use Rattle.lists.specs.Lists.{put}
use Rattle.definition.specs.Number.{plus_zero}
use Rattle.definition.specs.Points.{box_width_lem}
use Rattle.definition.specs.Tree.{Leaf, Level}
use Rattle.definition.specs.Packed.{row_numbers, row_floats_lem, most_levels, stretches, packed_level_points, packed_internals, packed_domains, packed_boxes, packed_borrowed}
use Rattle.packed.specs.Reading.{Packed, packed, own_in_lem, borrowed_in, boxes_in}
use Rattle.formats.specs.Bytes.{floats_at}
use Rattle.stored.specs.Stored.{leaf_in, leaves_at_lem, level_in, levels_at}
use Rattle.tree_lists.specs.declared.TreeLists.{TreeLists}
use Rattle.load_lists.specs.declared.Cursor.{Cursor}

-- ---- what stands in a file from the cursor on

abbrev pub ahead : Cursor → List ℕ → List ℕ
ahead c bs = drop c.at bs

-- a domain, and m domains one after another
abbrev pub domain_at_lem : ℕ → Bool → Cursor → List ℕ → Leaf
domain_at_lem d coarse c bs = leaf_in d coarse (ahead c bs)

abbrev pub domains_at : ℕ → Bool → ℕ → Cursor → List ℕ → List Leaf
domains_at d coarse m c bs = leaves_at_lem d coarse m (ahead c bs)

-- a level
abbrev pub level_at_lem : ℕ → Cursor → List ℕ → Level
level_at_lem d c bs = level_in d (ahead c bs)

-- the floats of a domain row, of which those of the domain's record begin at a place: the coarse one has no box, and +0 for each bound
abbrev pub floats_read : ℕ → Bool → ℕ → List ℕ → List Float
floats_read d coarse at bs = cond coarse (replicate (box_width_lem d) plus_zero ++ floats_at 1 at bs) (floats_at (row_floats_lem d) at bs)

-- ---- domains in the lists, from the cursor c on

-- the four lists that hold them, on d axes
abbrev pub packed_in : TreeLists → ℕ → Packed
packed_in l d = packed l.internals.now l.domains.now l.boxes.now l.borrowed.now d

-- the lists have room for them
pub record Room (fs : List Leaf) (c : Cursor) (p : Packed) : Type 0 where
  pub internals : c.own + length (own_in_lem fs) ≤ length p.internals
  pub domains : row_numbers * (c.row + length fs) ≤ length p.domains
  pub boxes : row_floats_lem p.dimension * (c.row + length fs) ≤ length p.boxes
  pub borrowed : c.borrowed + length (borrowed_in fs) ≤ length p.borrowed

-- they are written to the lists p, which gives the lists q, and the cursor r stands behind them
pub record Written (fs : List Leaf) (c r : Cursor) (p q : Packed) : Type 0 where
  pub own_end : r.own ≡ c.own + length (own_in_lem fs)
  pub row_end : r.row ≡ c.row + length fs
  pub borrowed_end : r.borrowed ≡ c.borrowed + length (borrowed_in fs)
  pub internals : q.internals ≡ put p.internals c.own (own_in_lem fs)
  pub domains : q.domains ≡ put p.domains (row_numbers * c.row) (stretches c.own c.borrowed fs)
  pub boxes : q.boxes ≡ put p.boxes (row_floats_lem p.dimension * c.row) (boxes_in fs)
  pub borrowed : q.borrowed ≡ put p.borrowed c.borrowed (borrowed_in fs)

-- ---- a tree

-- the one whose levels begin at a place of the file
abbrev pub tree_from : ℕ → ℕ → List ℕ → List Level
tree_from d at bs = levels_at d most_levels (drop at bs)

-- the lists can hold it
pub record CanHold (ls : List Level) (level_points : List ℕ) (p : Packed) : Type 0 where
  pub points : length (packed_level_points ls) ≤ length level_points
  pub internals : length (packed_internals ls) ≤ length p.internals
  pub domains : length (packed_domains ls) ≤ length p.domains
  pub boxes : length (packed_boxes ls) ≤ length p.boxes
  pub borrowed : length (packed_borrowed ls) ≤ length p.borrowed
