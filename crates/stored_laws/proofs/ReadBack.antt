-- `read_back`: what stands in the file of a tree that passes the tests, over settings and points that the build takes, reads back as
-- these. So the file is well-formed (`written-well`), and no other settings, points and tree have it (`file-one`). Assumes nothing.
-- Holds: taken_is, buildable-passed, passed-small, file-parts, few-small, settings-small, tree-stowed, back-settings, back_count,
--   back-points, back-tree, read_back, written-well, file-one
use mathlib.Core.Path.{◌≡◌, refl, sym, ap, ap₂, ◌∙◌}
use Prim.Native.Nat.{ℕ, ◌*◌, ◌≤◌}
use native.Mathlib.Omega.{arith}
use mathlib.Core.Bool.{true, false}
use mathlib.Core.List.{List, ◌++◌}
use lib.ListN.{length}
use lib.Ieee.{Float}
use Rattle.lists.specs.Lists.{joined}
use Rattle.lists.proofs.Tests.{clash, and-of}
use Rattle.definition.specs.Tree.{Settings, Level, point_count}
use Rattle.definition.specs.Packed.{most_levels}
use Rattle.definition.specs.Refusals.{Test, Verdict, accepted, refused, verdict, most_points, build_tests, not_finite_lem}
use Rattle.formats.specs.Stream.{settings_in}
use Rattle.definition_laws.proofs.Accepted.{Passed, passed, whole-points}
use Rattle.stored.specs.File.{front_bytes_lem, tree_records, file_bytes}
use Rattle.stored.specs.Sound.{same, sound}
use Rattle.stored.specs.Stored.{count_in, points_in, tree_in, taken, buildable, well_formed}
use Rattle.tree_tests.proofs.AllRows.{same_self}
use Rattle.stored_laws.specs.Writable.{NumberFits, SettingsFit, Writable}
use Rattle.stored_laws.proofs.Levels.{StowedTree}
use Rattle.stored_laws.proofs.Front.{SmallSettings, settings-read, count-read, points-read, tree-read}
use Rattle.stored_laws.proofs.Stowed.{sound-stowed}

-- ---- what the build takes
pub taken_is : (v : Verdict) → taken v ≡ true → v ≡ accepted
unfolding taken
taken_is accepted h = refl
taken_is (refused r) h = clash h refl

pub buildable-passed : (s : Settings) (cs : List Float) → buildable s cs ≡ true → Passed s (point_count s.dimension cs) false false (not_finite_lem cs)
unfolding buildable
buildable-passed s cs h =
    let n = point_count s.dimension cs in
    passed s n false false (not_finite_lem cs) (taken_is (verdict (build_tests s n false false (not_finite_lem cs))) h)

pub passed-small : (s : Settings) (n : ℕ) (judged : Test) → Passed s n false false judged → SettingsFit s → SmallSettings s
passed-small s n judged has fit =
    record { dimension-small = omega (arith, has.axes_few); neighbours-small = omega (arith, has.neighbours_few); others = fit }

module _ (s : Settings) (cs : List Float) (ls : List Level) (w : Writable s cs ls) where
  abbrev d : ℕ
  d = s.dimension

  abbrev n : ℕ
  n = point_count d cs

  abbrev bs : List ℕ
  bs = file_bytes s cs ls

  abbrev tree : List ℕ
  tree = joined (tree_records ls)

  pub file-parts : bs ≡ front_bytes_lem s cs ++ tree
  unfolding file_bytes
  file-parts = refl

  has : Passed s n false false (not_finite_lem cs)
  has = buildable-passed s cs w.takes

  few : n ≤ most_points
  few = has.rows_few

  pub few-small : NumberFits n
  few-small = omega (arith, few)

  pub settings-small : SmallSettings s
  settings-small = passed-small s n (not_finite_lem cs) has w.settings_fit

  even : length cs ≡ n * d
  even = whole-points d cs w.whole

  pub tree-stowed : (length ls ≤ most_levels) × StowedTree d ls
  tree-stowed = sound-stowed s n ls few w.boxes_fit w.passes

  -- ---- settings, point count, points and tree
  pub back-settings : settings_in bs ≡ s
  back-settings = settings-read s cs bs tree settings-small w.points_fit file-parts

  pub back_count : count_in bs ≡ n
  back_count = count-read s cs bs tree settings-small w.points_fit file-parts few-small

  pub back-points : points_in bs ≡ cs
  back-points = points-read s cs bs tree settings-small w.points_fit file-parts few-small even

  pub back-tree : tree_in bs ≡ ls
  back-tree = tree-read s cs bs tree settings-small w.points_fit file-parts ls few-small tree-stowed.0 tree-stowed.1 refl

  pub read_back : (settings_in bs ≡ s) × (points_in bs ≡ cs) × (tree_in bs ≡ ls)
  read_back = (back-settings, back-points, back-tree)

-- ---- so the file is well-formed
pub written-well : (s : Settings) (cs : List Float) (ls : List Level) → Writable s cs ls → well_formed (file_bytes s cs ls) ≡ true
unfolding well_formed
written-well s cs ls w =
    let bs = file_bytes s cs ls in
    and-of
    (and-of
    (ap₂ buildable (back-settings s cs ls w) (back-points s cs ls w) ∙ w.takes)
    (ap₂ (λ (t : Settings) (n : ℕ). sound t n (tree_in bs)) (back-settings s cs ls w) (back_count s cs ls w)
    ∙ ap (λ (t : List Level). sound s (point_count s.dimension cs) t) (back-tree s cs ls w) ∙ w.passes))
    (ap (λ (f : List ℕ). same bs f)
    (ap₂ (λ (t : Settings) (c : List Float). file_bytes t c (tree_in bs)) (back-settings s cs ls w) (back-points s cs ls w)
    ∙ ap (λ (t : List Level). file_bytes s cs t) (back-tree s cs ls w))
    ∙ same_self bs)

-- ---- and no two share one
pub file-one : (s : Settings) (cs : List Float) (ls : List Level) (s' : Settings) (cs' : List Float) (ls' : List Level) → Writable s cs ls → Writable s' cs' ls'
    → file_bytes s cs ls ≡ file_bytes s' cs' ls' → (s ≡ s') × (cs ≡ cs') × (ls ≡ ls')
file-one s cs ls s' cs' ls' w v e = (
  sym (back-settings s cs ls w) ∙ ap settings_in e ∙ back-settings s' cs' ls' v,
  sym (back-points s cs ls w) ∙ ap points_in e ∙ back-points s' cs' ls' v,
  sym (back-tree s cs ls w) ∙ ap tree_in e ∙ back-tree s' cs' ls' v,
)
