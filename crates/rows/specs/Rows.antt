-- Rows in use: what holds of each of them, and of a list of them. Nothing is said of the coordinates of other rows, nor of the length of
-- the list of coordinates. Definitions only.
use Rattle.std.specs.Prelude.{ℕ, ◌+◌, ◌*◌, ◌≤◌, ◌<◌, ◌≡◌, true, List, length, Float}
use Rattle.std.specs.Float.Ieee.Scale.{finite}
use Rattle.lists.specs.Ascends.{All, Ascends}
use Rattle.definition.specs.Points.{coordinate}
use Rattle.definition.specs.Refusals.{most_points}

-- a level has at most two leaves for each row: leaves and positions in a level's list of rows are below this number
abbrev pub most_leaves : ℕ
most_leaves = 2 * most_points

-- 2^32: each row is below it, so that an entry of a list that is sorted has room for two rows
abbrev pub row_limit : ℕ
row_limit = 4294967296

-- row i stands in the list of coordinates, d for each row
abbrev pub Inside : ℕ → List Float → ℕ → Type 0
Inside d cs i = i * d + d ≤ length cs

-- row i has a finite coordinate on the axis
abbrev pub FiniteAt : ℕ → List Float → ℕ → ℕ → Type 0
FiniteAt d cs axis i = finite (coordinate d cs i axis) ≡ true

-- row i has a finite coordinate on each axis
abbrev pub FiniteRow : ℕ → List Float → ℕ → Type 0
FiniteRow d cs i = (axis : ℕ) → axis < d → FiniteAt d cs axis i

-- each of the rows has a finite coordinate on the axis (so it is a row of the list)
abbrev pub FiniteOn : ℕ → List Float → ℕ → List ℕ → Type 0
FiniteOn d cs axis rows = All (FiniteAt d cs axis) rows

-- a row that a domain may hold
pub record GoodRow (d : ℕ) (cs : List Float) (i : ℕ) : Type 0 where
  pub inside : Inside d cs i
  pub finite_row : FiniteRow d cs i
  pub small : i < row_limit

-- rows that a domain may hold: ascending, each of them good, and no more than a build takes
pub record GoodRows (d : ℕ) (cs : List Float) (rows : List ℕ) : Type 0 where
  pub ascends : Ascends rows
  pub each : All (GoodRow d cs) rows
  pub few : length rows ≤ most_points
