-- Boxes that stand packed, and covers, as the floats of domain rows. Definitions only.
use Rattle.std.specs.Prelude.{ℕ, ◌+◌, ◌*◌, List, [], ◌∷◌, ◌++◌, map, length, get_or, Float}
use Rattle.std.specs.Float.{nan}
use Rattle.lists.specs.Lists.{from, joined, part}
use Rattle.definition.specs.Points.{box_width_lem}

-- box number l of those that stand packed from `at` on in B, with its cover
abbrev pub covered_box : ℕ → List Float → ℕ → List Float → ℕ → List Float
covered_box d B at covers l = part B (at + box_width_lem d * l) (box_width_lem d) ++ get_or covers l nan ∷ []

-- as many of them as there are covers, one after the other
unfoldable pub covered : ℕ → List Float → ℕ → List Float → List Float
covered d B at covers = joined (map (covered_box d B at covers) (from 0 (length covers)))
