-- The build's own tests among those of the loader and the writer. Assumes nothing.
-- Holds: own-whole, own-long, own-boxes, own-takes, own-accepts
use mathlib.Core.Path.{◌≡◌, refl, sym, ap, ap₂, ◌∙◌}
use Prim.Native.Nat.{◌≤◌}
use mathlib.Core.Bool.{Bool, true, false, ◌||◌}
use mathlib.Core.List.{List}
use lib.ListN.{length}
use lib.Dec.{ltb}
use lib.Ieee.{Float}
use borrow.Author.Tests.{ltb-false}
use Rattle.lists.proofs.Tests.{or-none}
use Rattle.definition.specs.Tree.{Settings, point_count}
use Rattle.definition.specs.Packed.{tree_stated}
use Rattle.definition.specs.Refusals.{tree_short, Verdict, accepted, verdict, coordinates_missing, not_finite_lem, build_tests}
use Rattle.definition.specs.Outcome.{TreeLists}
use Rattle.definition_laws.proofs.Accepted.{Passed, passed}
use Rattle.stored.specs.Stored.{taken, buildable}
use Rattle.stored.specs.Outcome.{lists_short_lem, own_tests}
use Rattle.stored_laws.proofs.ReadBack.{taken_is}

-- ---- the build's own tests, of settings, points and the five lists
module _ (s : Settings) (cs : List Float) (old : TreeLists) where
  abbrev missing : Bool
  missing = coordinates_missing s.dimension cs

  abbrev short : Bool
  short = lists_short_lem old (tree_stated s.dimension (point_count s.dimension cs) s.neighbours)

  abbrev verdict_for : Bool → Bool → Verdict
  verdict_for m l = verdict (build_tests s (point_count s.dimension cs) m l (not_finite_lem cs))

  own_is : verdict (own_tests s cs old) ≡ verdict_for missing short
  unfolding own_tests
  own_is = refl

  module _ (own : verdict (own_tests s cs old) ≡ accepted) where
    all-passed : Passed s (point_count s.dimension cs) missing short (not_finite_lem cs)
    all-passed = passed s (point_count s.dimension cs) missing short (not_finite_lem cs) (sym own_is ∙ own)

    pub own-whole : missing ≡ false
    own-whole = all-passed.none-missing

    pub own-long : short ≡ false
    own-long = all-passed.none-short

    -- the box list among the five
    pub own-boxes : (tree_stated s.dimension (point_count s.dimension cs) s.neighbours).boxes ≤ length old.boxes
    unfolding lists_short_lem tree_short
    own-boxes =
        let stated = tree_stated s.dimension (point_count s.dimension cs) s.neighbours in
        let a = ltb (length old.level_points) stated.level_points in
        let b = ltb (length old.internals) stated.internals in
        let c = ltb (length old.domains) stated.domains in
        let e = ltb (length old.boxes) stated.boxes in
        let f = ltb (length old.borrowed) stated.borrowed in
        ltb-false (length old.boxes) stated.boxes (or-none (a || b || c) e (or-none (a || b || c || e) f own-long).0).1

    pub own-takes : buildable s cs ≡ true
    unfolding buildable taken
    own-takes = ap taken (ap₂ verdict_for (sym own-whole) (sym own-long) ∙ sym own_is ∙ own)

  -- they pass where the build takes the settings and points, and the lists are long enough
  pub own-accepts : buildable s cs ≡ true → missing ≡ false → short ≡ false → verdict (own_tests s cs old) ≡ accepted
  unfolding buildable
  own-accepts takes whole long = own_is ∙ ap₂ verdict_for whole long ∙ taken_is (verdict_for false false) takes
