-- A head and a table from the numbers and lists of a call, and from the values that hold them. Definitions only.
use Rattle.std.specs.Prelude.{ℕ, ◌≡◌, List, length, Float}
use Rattle.definition.specs.Table as definition
use Rattle.table_checks.specs.declared.Head.{Head}
use Rattle.table_checks.specs.declared.Table.{Table}
use Rattle.table_checks.specs.declared.Wells.{Wells}

abbrev pub head_of : ℕ → ℕ → definition.Head
head_of slots live = record { slots = slots; live = live }

abbrev pub table_of : ℕ → ℕ → List ℕ → List Float → definition.Table
table_of slots live flags coordinates = record { head = head_of slots live; flags = flags; coordinates = coordinates }

-- the head and the table that a value holds
abbrev pub head_in : Head → definition.Head
head_in h = head_of h.slots h.live

abbrev pub table_in : Table → definition.Table
table_in t = table_of t.head.slots t.head.live t.flags.now t.points.coordinates.now

-- the table of a head and the lent lists of its wells
abbrev pub wells_in : Head → Wells → definition.Table
wells_in h w = table_of h.slots h.live w.flags.now w.coordinates.now

-- both hold the same two lists, each as long as it was, for the same number of axes
pub record SameWells (v w : Wells) : Type 0 where
  pub flags : w.flags.ghost_name ≡ v.flags.ghost_name
  pub flags_len : length w.flags.now ≡ length v.flags.now
  pub coordinates : w.coordinates.ghost_name ≡ v.coordinates.ghost_name
  pub coordinates_len : length w.coordinates.now ≡ length v.coordinates.now
  pub dimensions : w.dimensions ≡ v.dimensions
