-- A TREE OF THE BUILD PASSES THE TESTS OF A STORED TREE. Assumes nothing.
use mathlib.Core.Path.{◌≡◌, subst}
use mathlib.Core.Bool.{true}
use mathlib.Core.List.{List}
use Prim.Native.Nat.{ℕ, ◌≤◌, ◌<◌}
use borrow.Author.Tests.{le-leb}
use lib.ListN.{length}
use lib.Ieee.{Float}
use Rattle.lists.specs.Lists.{from}
use Rattle.lists.proofs.Tests.{and-of}
use Rattle.lists.proofs.From.{length_from}
use Rattle.lists.proofs.Ascends.{ascends-from}
use Rattle.definition.specs.Levels.{threshold, reductions}
use Rattle.definition.specs.Tree.{Settings, Level, most_fine, levels_over, point_count, levels}
use Rattle.definition.specs.Packed.{most_levels, BuildSizes}
use Rattle.definition.specs.Refusals.{accepted, most_points, build_verdict}
use Rattle.definition.proofs.Cuts.{Good}
use Rattle.definition_laws.proofs.Accepted.{build-accepted}
use Rattle.definition_laws.proofs.Fit.{PackedFit, packed_fit}
use Rattle.stored.specs.Sound.{first_all, fits, sound}
use Rattle.tree_tests.proofs.AllRows.{same-equal}
use Rattle.stored_built.proofs.BuiltLevels.{Starts, levels-start, levels-pass}

-- ---- over a first active list
first_passes : (n : ℕ) (ls : List Level) → Starts (from 0 n) ls → first_all n ls ≡ true
unfolding first_all
first_passes n ls st = rw st.are (same-equal st.first.points (from 0 n) st.lists)

fits-pass : (d n neighbours : ℕ) (ls : List Level) → PackedFit d n neighbours ls → fits d n neighbours ls ≡ true
unfolding fits
fits-pass d n neighbours ls f =
    and-of (and-of (and-of (le-leb _ _ f.level_points) (le-leb _ _ f.internals)) (le-leb _ _ f.domains)) (le-leb _ _ f.borrowed)

-- over n rows, for settings that the build takes
pub over-sound : (s : Settings) (cs : List Float) (n : ℕ) → 0 < s.dimension → 1 ≤ s.leaf → 1 ≤ threshold s.policy n → Good s.dimension cs (from 0 n) → n ≤ most_points
    → sound s n (levels_over s cs (from 0 n)) ≡ true
unfolding sound levels_over
over-sound s cs n pos lp cp g few =
    let fit : PackedFit s.dimension n s.neighbours (levels_over s cs (from 0 n)) =
    subst (λ (m : ℕ). PackedFit s.dimension m s.neighbours (levels_over s cs (from 0 n))) (length_from 0 n) (packed_fit s cs (from 0 n) pos lp g) in
    let c = threshold s.policy (length (from 0 n)) in
    let k = reductions (length (from 0 n)) c s.factor in
    let some : 1 ≤ c = rw (length_from 0 n) cp in
    and-of
    (and-of
    (and-of (le-leb (length (levels_over s cs (from 0 n))) most_levels fit.few) (first_passes n (levels_over s cs (from 0 n)) (levels-start s cs c k most_fine 0 (from 0 n))))
    (levels-pass s cs c k pos lp some most_fine 0 (from 0 n) g (rw (length_from 0 n) few) (ascends-from 0 n)))
    (fits-pass s.dimension n s.neighbours (levels_over s cs (from 0 n)) fit)

-- THE LAW: the tree of a build that is accepted, for lists of any lengths
pub built-sound : (s : Settings) (cs : List Float) (lent : BuildSizes) → build_verdict s cs lent ≡ accepted → sound s (point_count s.dimension cs) (levels s cs) ≡ true
unfolding levels
built-sound s cs lent e =
    let a = build-accepted s cs lent e in
    over-sound s cs (point_count s.dimension cs) a.passes-all.axes a.passes-all.leaf_some a.passes-all.coarse-some a.good a.passes-all.rows_few
