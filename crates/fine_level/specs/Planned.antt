-- The words of Fine by a plan and a place. Definitions only.
use Rattle.std.specs.Prelude.{ℕ, ◌+◌, ◌*◌, ◌≤◌, List, length, Float}
use Rattle.lists.specs.Lists.{part}
use Rattle.definition.specs.Cut.{Domain, leaves_of}
use Rattle.definition.specs.Tree.{Leaf}
use Rattle.definition.specs.Record.{Node, record_of}
use Rattle.fine_level.specs.declared.Plan.{Plan}
use Rattle.fine_level.specs.declared.Place.{Place}
use Rattle.fine_level.specs.Fine.{divided_at, leaves_at_lem, Given, Fits}

-- the leaves that the active rows are cut into
abbrev pub cut_by : Plan → List ℕ → List Domain
cut_by p active = leaves_of p.points.dimensions p.points.coordinates.now p.leaf active

-- the leaves of the fine level over the active rows: before any row is sent up, and where `size` of them are
abbrev pub divided_by : Plan → List ℕ → List Leaf
divided_by p active = divided_at p.points.dimensions p.points.coordinates.now p.leaf p.neighbours active

abbrev pub leaves_by : Plan → ℕ → List ℕ → List Leaf
leaves_by p size active = leaves_at_lem p.points.dimensions p.points.coordinates.now p.leaf p.neighbours size active

-- the active rows, in the level points
abbrev pub active_at : Place → List ℕ → List ℕ
active_at w level_points = part level_points w.from w.a

-- what a level is built from
abbrev pub GivenBy : Plan → List ℕ → Type 0
GivenBy p active = Given p.points.dimensions p.points.coordinates.now p.leaf p.neighbours active

-- the lists are long enough for a level over `a` rows at this place
abbrev pub FitsAt : Plan → Place → ℕ → List ℕ → List ℕ → List Float → List ℕ → Type 0
FitsAt p w a I D B L = Fits p.points.dimensions p.neighbours a I D B L w.from w.first w.bat

-- the nodes of the level's record
abbrev pub nodes_by : Plan → List ℕ → List Node
nodes_by p active = record_of p.points.dimensions p.points.coordinates.now p.leaf active

-- both lists of the record are long enough for that of a level over `a` rows at this place
abbrev pub RecordFits : Place → ℕ → List ℕ → List Float → Type 0
RecordFits w a C Q = (w.node + 4 * a ≤ length C) × (w.node + 4 * a ≤ length Q)
