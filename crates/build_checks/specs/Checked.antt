-- The tests of a build over all points, with any answer to whether a lent list is short. Definitions only.
use Rattle.std.specs.Prelude.{ℕ, Bool, ◌≡◌, ◌++◌, List, Float}
use Rattle.definition.specs.Tree.{Settings, point_count}
use Rattle.definition.specs.Refusals.{Verdict, accepted, verdict, coordinates_missing, not_finite_lem, settings_tests, points_tests, build_tests}

-- The verdict is that of the build's tests. What answers whether a list is short is asked only where 1 to 9 refuse nothing, with the number of points.
abbrev pub Checks : (ℕ → Bool → Type 0) → Settings → List Float → Verdict → Type 0
Checks answers s cs v =
    let n = point_count s.dimension cs in
    let missing = coordinates_missing s.dimension cs in
    (short : Bool)
    × (accepted ≡ verdict (settings_tests s ++ points_tests s n missing) → answers n short)
    × (v ≡ verdict (build_tests s n missing short (not_finite_lem cs)))
