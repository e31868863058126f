-- The tests of a build, group by group. Assumes nothing.
-- Holds: use, build-groups, reductions-many, checked-reductions, points-groups, nine-met, nine-passed, rows-tests, short-pairs,
--   tests-stop, tests-pass, tests-short, tests-last, checks-stop, checks-short, checks-last, same-tests
pub use Rattle.point_checks.proofs.Laws.{and_then, verdict-append, fault-first, fault-second, bad-test}
use mathlib.Core.Path.{◌≡◌, refl, sym, ap, ap₂, ◌∙◌}
use mathlib.Core.Bool.{Bool, true, false, not, ◌&&◌, ◌||◌}
use mathlib.Core.List.{List, [], ◌∷◌, ◌++◌}
use Prim.Native.Nat.{ℕ, ◌*◌, ◌^◌, ◌/◌, ◌%◌, ◌≤◌, ◌<◌}
use native.Mathlib.Omega.{arith}
use native.Mathlib.Nat.{mul-le-mul_left, le_trans, pow-le-pow_right, mul-div_cancel, mul-mod_left}
use borrow.Author.Tests.{eq-eqb, lt-ltb, le-ltb, leb-true, leb-false}
use lib.Dec.{leb, ltb, eqb}
use lib.Ieee.{Float}
use Rattle.std.specs.List.{list_any, zip}
use Rattle.lists.specs.Lists.{least}
use Rattle.lists.proofs.Least.{least-before, least-holds}
use Rattle.std.proofs.lemmas.Bool.Decides.{nat_tests}
use Rattle.definition.specs.Levels.{reductions, threshold}
use Rattle.definition.specs.Tree.{Settings, most_fine, point_count}
use Rattle.definition.specs.Packed.{TreeSizes, BuildSizes, build_stated}
use Rattle.definition.specs.Refusals as definition
use Rattle.definition.specs.Refusals.{Test, Verdict, accepted, refused, on, verdict, most_points, not_finite_lem, coordinates_missing, settings_tests, points_tests, build_tests, build_verdict, tree_short, build_short}
use Rattle.build_sizes.specs.Sizes.{tree_lengths_of}
use Rattle.point_checks.specs.Tests.{count_tests}
use Rattle.build_checks.specs.Checked.{Checks}

-- ---- groups of tests

-- the build's tests are the settings', the points', and 11 and 10
pub build-groups : (s : Settings) (cs : List Float) (lent : BuildSizes)
    → build_verdict s cs lent
    ≡ and_then (verdict (settings_tests s))
    (and_then (verdict (points_tests s (point_count s.dimension cs) (coordinates_missing s.dimension cs)))
    (verdict (on (build_short lent (build_stated s.dimension (point_count s.dimension cs) s.neighbours)) 11 ∷ not_finite_lem cs ∷ [])))
unfolding build_verdict build_tests
build-groups s cs lent =
    verdict-append (settings_tests s) _
    ∙ ap (and_then (verdict (settings_tests s)))
    (verdict-append (points_tests s (point_count s.dimension cs) (coordinates_missing s.dimension cs)) _)

-- ---- the points
-- more than three reductions are asked for exactly where c * f ^ 3 is below n
pub reductions-many : (n c f : ℕ) → 3 < reductions n c f → c * f ^ 3 < n
unfolding reductions
reductions-many n c f h = leb-false n (c * f ^ 3) (least-before (λ k. leb n (c * f ^ k)) 4 3 h)

pub checked-reductions : (n c f : ℕ) → 1 ≤ f → reductions n c f ≤ 3 → n ≤ c * f ^ 3
unfolding reductions
checked-reductions n c f p h =
    let k = least (λ k. leb n (c * f ^ k)) 4 in
    le_trans (leb-true n (c * f ^ k) (least-holds (λ k. leb n (c * f ^ k)) 4 (omega arith)))
    (mul-le-mul_left c (pow-le-pow_right p h))

-- there are none exactly where there is no coordinate
none-there : (count d : ℕ) → 1 ≤ d → eqb count 0 ≡ eqb (count / d) 0 && not (not (eqb (count % d) 0))
none-there count d h = grind (arith, nat_tests)

-- the points' tests are those of their number, and 9
pub points-groups : (s : Settings) (count : ℕ) → 1 ≤ s.dimension
    → count_tests count s.dimension ++ on (ltb (threshold s.policy (count / s.dimension) * s.factor ^ most_fine) (count / s.dimension)) 9 ∷ []
    ≡ points_tests s (count / s.dimension) (not (eqb (count % s.dimension) 0))
points-groups s count h =
    ap (λ (b : Bool). on b 6 ∷ on (not (eqb (count % s.dimension) 0)) 7 ∷ on (ltb most_points (count / s.dimension)) 8
    ∷ on (ltb (threshold s.policy (count / s.dimension) * s.factor ^ most_fine) (count / s.dimension)) 9 ∷ [])
    (none-there count s.dimension h)

-- 9 alone, by the number of reductions
module _ (s : Settings) (n : ℕ) where
  pub nine-met : 3 < reductions n (threshold s.policy n) s.factor → refused (record { number = 9; place = 0 }) ≡ verdict (on (ltb (threshold s.policy n * s.factor ^ most_fine) n) 9 ∷ [])
  unfolding verdict
  nine-met h = rw (lt-ltb (threshold s.policy n * s.factor ^ most_fine) n (reductions-many n (threshold s.policy n) s.factor h))

  pub nine-passed : 1 ≤ s.factor → reductions n (threshold s.policy n) s.factor ≤ 3 → accepted ≡ verdict (on (ltb (threshold s.policy n * s.factor ^ most_fine) n) 9 ∷ [])
  unfolding verdict
  nine-passed f h = rw (le-ltb (threshold s.policy n * s.factor ^ most_fine) n (checked-reductions n (threshold s.policy n) s.factor f h))

-- n rows of d coordinates each are n points, of which none lacks a coordinate
pub rows-tests : (s : Settings) (n : ℕ) → 1 ≤ s.dimension
    → verdict (points_tests s (n * s.dimension / s.dimension) (not (eqb (n * s.dimension % s.dimension) 0))) ≡ verdict (points_tests s n false)
rows-tests s n h =
    ap₂ (λ (m : ℕ) (b : Bool). verdict (points_tests s m b)) (mul-div_cancel n (omega arith)) (ap not (eq-eqb (n * s.dimension % s.dimension) 0 (mul-mod_left n s.dimension)))

-- ---- the lists
-- the same answers, in the order in which they are asked
in-turn : (a b c d e : Bool) → a || (b || (c || (d || (e || false)))) ≡ a || b || c || d || e
in-turn true b c d e = refl
in-turn false true c d e = refl
in-turn false false true d e = refl
in-turn false false false true e = refl
in-turn false false false false true = refl
in-turn false false false false false = refl

-- some list is short where one length of a pair is below the other
pub short-pairs : (lent stated : TreeSizes) → list_any (λ p. ltb p.0 p.1) (zip (tree_lengths_of lent) (tree_lengths_of stated)) ≡ tree_short lent stated
unfolding tree_short
short-pairs lent stated =
    in-turn (ltb lent.level_points stated.level_points) (ltb lent.internals stated.internals) (ltb lent.domains stated.domains)
    (ltb lent.boxes stated.boxes) (ltb lent.borrowed stated.borrowed)

-- ---- the whole verdict from what the groups came to

-- a build over n rows: 1 to 9 refuse, or 11 and the test of the coordinates decide
module _ (s : Settings) (n : ℕ) (missing lacking : Bool) (judged : Test) where
  pub tests-stop : (r : definition.Refusal) → refused r ≡ verdict (settings_tests s ++ points_tests s n missing) → refused r ≡ verdict (build_tests s n missing lacking judged)
  unfolding build_tests
  tests-stop = fault-first (settings_tests s ++ points_tests s n missing) _

  pub tests-pass : accepted ≡ verdict (settings_tests s ++ points_tests s n missing) → verdict (on lacking 11 ∷ judged ∷ []) ≡ verdict (build_tests s n missing lacking judged)
  unfolding build_tests
  tests-pass = fault-second (settings_tests s ++ points_tests s n missing) _

  -- a list is too short
  pub tests-short : accepted ≡ verdict (settings_tests s ++ points_tests s n missing) → lacking ≡ true
      → refused (record { number = 11; place = 0 }) ≡ verdict (build_tests s n missing lacking judged)
  unfolding verdict
  tests-short e short = ap (λ (b : Bool). verdict (on b 11 ∷ judged ∷ [])) (sym short) ∙ tests-pass e

  -- none is: the last test decides
  pub tests-last : accepted ≡ verdict (settings_tests s ++ points_tests s n missing) → lacking ≡ false
      → verdict (judged ∷ []) ≡ verdict (build_tests s n missing lacking judged)
  unfolding verdict
  tests-last e long = ap (λ (b : Bool). verdict (on b 11 ∷ judged ∷ [])) (sym long) ∙ tests-pass e

-- ---- over all points, with any answer to whether a list is short
never : {P : Type 0} (r : definition.Refusal) (v : Verdict) → refused r ≡ v → accepted ≡ v → P
never r v e f = let z : ◌≡◌ {A = ℕ} 0 1 = cc in absurd (omega arith)

module _ (answers : ℕ → Bool → Type 0) (s : Settings) (cs : List Float) where
  pub checks-stop : (r : definition.Refusal) → refused r ≡ verdict (settings_tests s ++ points_tests s (point_count s.dimension cs) (coordinates_missing s.dimension cs)) → Checks answers s cs (refused r)
  checks-stop r e = (false, λ f. never r _ e f, tests-stop s _ _ _ _ r e)

  module _ (e : accepted ≡ verdict (settings_tests s ++ points_tests s (point_count s.dimension cs) (coordinates_missing s.dimension cs))) where
    pub checks-short : answers (point_count s.dimension cs) true → Checks answers s cs (refused (record { number = 11; place = 0 }))
    checks-short h = (true, λ f. h, tests-short s _ _ _ _ e refl)

    pub checks-last : answers (point_count s.dimension cs) false → (v : Verdict) → v ≡ verdict (not_finite_lem cs ∷ []) → Checks answers s cs v
    checks-last h v f = (false, λ g. h, f ∙ tests-last s _ _ _ _ e refl)

-- where 1 to 9 refuse, the answer does not matter
pub same-tests : (s : Settings) (n : ℕ) (missing short lacking : Bool) (judged : Test)
    → (accepted ≡ verdict (settings_tests s ++ points_tests s n missing) → short ≡ lacking)
    → verdict (build_tests s n missing short judged) ≡ verdict (build_tests s n missing lacking judged)
same-tests s n missing short lacking judged f = go (verdict (settings_tests s ++ points_tests s n missing)) refl
  where
    go : (v : Verdict) → v ≡ verdict (settings_tests s ++ points_tests s n missing)
        → verdict (build_tests s n missing short judged) ≡ verdict (build_tests s n missing lacking judged)
    go accepted e = ap (λ (b : Bool). verdict (build_tests s n missing b judged)) (f e)
    go (refused r) e = sym (tests-stop s n missing short judged r e) ∙ tests-stop s n missing lacking judged r e
