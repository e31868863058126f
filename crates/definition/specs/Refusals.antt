-- The refusals, each with its number and place, in the order in which each function tries them. Definitions only.
use Rattle.std.specs.Prelude.{ℕ, suc, ◌+◌, ◌*◌, ◌%◌, ◌^◌, Bool, false, not, ◌&&◌, ◌||◌, cond, List, [], ◌∷◌, ◌++◌, length, leb, ltb, eqb, Float}
use Rattle.std.specs.Float.Ieee.{lt, is_nan}
use Rattle.std.specs.Float.Ieee.Scale.{finite}
use Rattle.lists.specs.Lists.{any_of, total}
use Rattle.definition.specs.Number.{plus_zero}
use Rattle.definition.specs.Levels.{Policy, auto, fixed, threshold}
use Rattle.definition.specs.Tree.{Settings, most_fine, point_count}
use Rattle.definition.specs.Packed.{TreeSizes, BuildSizes, build_stated, SampleSizes, sample_stated, QuotaSizes, quota_stated}

-- ---- refusals, and how they are tried

-- a refusal: its number, and its place (0 where none is named)
pub record Refusal : Type 0 where
  pub number : ℕ
  pub place : ℕ

-- a refusal with its condition
pub record Test : Type 0 where
  pub holds : Bool
  pub refusal : Refusal

-- a condition whose refusal names no place
abbrev pub on : Bool → ℕ → Test
on b k = record { holds = b; refusal = record { number = k; place = 0 } }

-- what the tests of a call come to
pub data Verdict : Type 0 where
  accepted : Verdict
  refused : Refusal → Verdict

-- each refusal occurs under its condition, after those before it, and otherwise not
unfoldable pub verdict : List Test → Verdict
verdict [] = accepted
verdict (t ∷ ts) = cond t.holds (refused t.refusal) (verdict ts)

-- ---- conditions that several functions share

-- the most points that a build takes
abbrev pub most_points : ℕ
most_points = 1048576

-- the most neighbours
abbrev pub most_neighbours : ℕ
most_neighbours = 64

-- 1: dimension not 1, 2 or 3
abbrev pub wrong_dimension_lem : ℕ → Bool
wrong_dimension_lem d = not (leb 1 d && leb d 3)

-- 7: the coordinate count is no multiple of the dimension
abbrev pub coordinates_missing : ℕ → List Float → Bool
coordinates_missing d cs = not (eqb (length cs % d) 0)

-- 10: the position of the first coordinate that is not finite, counted from i, or where the list ends
unfoldable pub first_bad : ℕ → List Float → ℕ
first_bad i [] = i
first_bad i (x ∷ xs) = cond (finite x) (first_bad (suc i) xs) i

-- 10: a coordinate that is infinite or not a number; place = its position, from 0
abbrev pub not_finite_lem : List Float → Test
not_finite_lem cs = record { holds = any_of (λ x. not (finite x)) cs; refusal = record { number = 10; place = first_bad 0 cs } }

-- 4: coarse threshold 0 (fixed)
abbrev pub zero_threshold_lem : Policy → Bool
zero_threshold_lem auto = false
zero_threshold_lem (fixed c) = eqb c 0

-- 11: a lent list shorter than stated
unfoldable pub tree_short : TreeSizes → TreeSizes → Bool
tree_short lent stated =
    ltb lent.level_points stated.level_points || ltb lent.internals stated.internals || ltb lent.domains stated.domains
    || ltb lent.boxes stated.boxes || ltb lent.borrowed stated.borrowed

unfoldable pub build_short : BuildSizes → BuildSizes → Bool
build_short lent stated =
    tree_short lent.tree stated.tree || ltb lent.floats stated.floats || ltb lent.wholes stated.wholes || ltb lent.cuts stated.cuts
    || ltb lent.planes stated.planes

unfoldable pub sample_short : SampleSizes → SampleSizes → Bool
sample_short lent stated =
    ltb lent.output stated.output || ltb lent.floats stated.floats || ltb lent.wholes stated.wholes

unfoldable pub quota_short : QuotaSizes → QuotaSizes → Bool
quota_short lent stated = ltb lent.output stated.output || ltb lent.wholes stated.wholes

-- ---- the tests of each public function, in their order

-- the settings: 1 to 5
abbrev pub settings_tests : Settings → List Test
settings_tests s =
    on (wrong_dimension_lem s.dimension) 1
    ∷ on (eqb s.leaf 0) 2
    ∷ on (ltb s.factor 2) 3
    ∷ on (zero_threshold_lem s.policy) 4
    ∷ on (ltb most_neighbours s.neighbours) 5
    ∷ []

-- The points: 6 to 9, for n rows. `missing` says whether a point lacks a coordinate; then there are points, whatever n is.
abbrev pub points_tests : Settings → ℕ → Bool → List Test
points_tests s n missing =
    on (eqb n 0 && not missing) 6
    ∷ on missing 7
    ∷ on (ltb most_points n) 8
    ∷ on (ltb (threshold s.policy n * s.factor ^ most_fine) n) 9
    ∷ []

-- The build over n rows: 1 to 9, 11, 10. `lacking` says whether a lent list is short, and `judged` is the test of the coordinates.
unfoldable pub build_tests : Settings → ℕ → Bool → Bool → Test → List Test
build_tests s n missing lacking judged = settings_tests s ++ points_tests s n missing ++ on lacking 11 ∷ judged ∷ []

-- the build over all points, with lists of these lengths
unfoldable pub build_verdict : Settings → List Float → BuildSizes → Verdict
build_verdict s cs lent =
    let d = s.dimension in
    let n = point_count d cs in
    verdict (build_tests s n (coordinates_missing d cs) (build_short lent (build_stated d n s.neighbours)) (not_finite_lem cs))

-- the lengths that a build over n points is to be lent, asked alone: 1, 5, 6, 8
unfoldable pub sizes_verdict : ℕ → ℕ → ℕ → Verdict
sizes_verdict d n neighbours =
    verdict
    (on (wrong_dimension_lem d) 1 ∷ on (ltb most_neighbours neighbours) 5 ∷ on (eqb n 0) 6 ∷ on (ltb most_points n) 8 ∷ [])

-- sampling: 1, 6, 7, 8, 13, 11, 10
unfoldable pub sample_verdict : ℕ → List Float → ℕ → ℕ → SampleSizes → Verdict
sample_verdict d cs wanted seed lent =
    let n = point_count d cs in
    verdict
    (on (wrong_dimension_lem d) 1
    ∷ on (eqb (length cs) 0) 6
    ∷ on (coordinates_missing d cs) 7
    ∷ on (ltb most_points n) 8
    ∷ on (eqb wanted 0 || ltb n wanted || leb n seed) 13
    ∷ on (sample_short lent (sample_stated n wanted)) 11
    ∷ not_finite_lem cs
    ∷ [])

-- level size: 4, 8, 14, 9
unfoldable pub size_verdict : ℕ → ℕ → ℕ → Verdict
size_verdict a c r =
    verdict (on (eqb c 0) 4 ∷ on (ltb most_points a) 8 ∷ on (leb a c) 14 ∷ on (eqb r 0 || ltb most_fine r) 9 ∷ [])

-- quotas: 8, 11
unfoldable pub quota_verdict : List ℕ → QuotaSizes → Verdict
quota_verdict sizes lent =
    verdict (on (ltb most_points (total sizes)) 8 ∷ on (quota_short lent (quota_stated (length sizes))) 11 ∷ [])

-- a domain row's asked stretch: 12 where start plus count ends past its list
unfoldable pub stretch_verdict : ℕ → ℕ → ℕ → Verdict
stretch_verdict start many len = verdict (on (ltb len (start + many)) 12 ∷ [])

-- the root: 15 for a negative number and for not-a-number
unfoldable pub root_verdict : Float → Verdict
root_verdict x = verdict (on (is_nan x || lt x plus_zero) 15 ∷ [])
