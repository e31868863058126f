-- The coordinates of the points on one axis, as lent, in the definition's words. Definitions only.
use Rattle.std.specs.Prelude.{ℕ, ◌+◌, ◌*◌, ◌<◌, List, length, Float}
use Rattle.definition.specs.Points.{coordinate, column}
use Rattle.points.specs.declared.Column.{Column}

-- row i has a coordinate in the column
abbrev pub HasRow : Column → ℕ → Type 0
HasRow c i = i * c.points.dimensions + c.axis < length c.points.coordinates.now

-- the coordinate of row i
abbrev pub value_of : Column → ℕ → Float
value_of c i = coordinate c.points.dimensions c.points.coordinates.now i c.axis

-- the coordinates of the rows, in their order
abbrev pub column_of : Column → List ℕ → List Float
column_of c rows = column c.points.dimensions c.points.coordinates.now rows c.axis
