-- The tests of how many coordinates there are, as document 01 tries them. Definitions only.
use Rattle.std.specs.Prelude.{ℕ, ◌/◌, ◌%◌, not, List, [], ◌∷◌, eqb, ltb}
use Rattle.definition.specs.Refusals.{Test, on, most_points}

-- 6 to 8, for `count` coordinates on d axes
abbrev pub count_tests : ℕ → ℕ → List Test
count_tests count d = on (eqb count 0) 6 ∷ on (not (eqb (count % d) 0)) 7 ∷ on (ltb most_points (count / d)) 8 ∷ []
