-- The cut of a list of rows. Definitions only.
use Rattle.std.specs.Prelude.{ℕ, ◌/◌, List, ◌++◌, length, Float}
use Rattle.definition.specs.Keys.{first_rows_lem, other_rows}
use Rattle.middle_row.specs.Middle.{keys_on}

-- the rows cut: the left half, then the right half, each in the list's order
unfoldable pub halved : ℕ → List Float → ℕ → List ℕ → List ℕ
halved d cs axis rows = first_rows_lem (length rows / 2) (keys_on d cs axis rows) ++ other_rows (length rows / 2) (keys_on d cs axis rows)
