-- Room for the records of the levels. Definitions only.
use Rattle.std.specs.Prelude.{ℕ, ◌*◌, ◌≤◌, List, length, Float}
use Rattle.definition.specs.Tree.{most_fine}

-- the most nodes of the record of a level over `a` rows, and one more
abbrev pub level_nodes : ℕ → ℕ
level_nodes a = 4 * a

-- both lists are long enough for the records of the levels over n points
abbrev pub RecordRoom : ℕ → List ℕ → List Float → Type 0
RecordRoom n C Q = (most_fine * level_nodes n ≤ length C) × (most_fine * level_nodes n ≤ length Q)
