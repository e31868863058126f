-- The head and the points of a file, tested one after the other: what they come to, and what is known where they pass. Assumes nothing.
-- Holds: row-stands, rows_inside, FrontIs, head-broken, head-inside, policy-broken, head-refused, points-decide, FrontFacts,
--   front-facts, front_read
use mathlib.Core.Path.{◌≡◌, sym, ap, ap₂, ◌∙◌}
use mathlib.Core.Bool.{Bool, true, false, not, ◌&&◌, and-false}
use Prim.Native.Nat.{ℕ, zero, suc, ◌*◌, ◌≤◌, ◌<◌}
use native.Mathlib.Nat.{zero-mul, suc-mul}
use native.Mathlib.Omega.{arith}
use mathlib.Core.List.{List}
use lib.ListN.{length, drop}
use lib.Seq.{drop-drop}
use lib.Dec.{leb}
use lib.Ieee.{Float}
use borrow.Author.Tests.{leb-true}
use Rattle.lists.specs.Lists.{any_of}
use Rattle.lists.proofs.Tests.{and-fst, and-snd, three-pass}
use Rattle.definition.specs.Tree.{Settings}
use Rattle.definition.specs.Refusals.{most_points, most_neighbours}
use Rattle.formats.specs.Bytes.{marked_by, whole}
use Rattle.formats.specs.Stream.{settings_in, policy_fits_lem, point_size_lem}
use Rattle.stored.specs.File.{head_mark, file_point_mark}
use Rattle.stored.specs.Stored.{head_size, count_in, points_in, levels_place, buildable}
use Rattle.tree_tests.specs.Whole.{points_whole, front_whole}
use Rattle.stored_laws.proofs.FrontAgain.{point-stands, points-are, count_is}
use Rattle.stored_laws.proofs.ReadBack.{buildable-passed}
use Rattle.config.specs.declared.Settings as read
use Rattle.config.specs.Params.{settings_are}
use Rattle.file_front.specs.Reading.{FrontRead}
use Rattle.file_front.specs.Fronts.{point_place, points_at, head_taken}
use Rattle.file_front.proofs.Points.{whole-inside, bad, row_whole}
use Rattle.file_front.proofs.Takes.{buildable-is}

-- ---- points that stand whole
module _ (d n : ℕ) (bs : List ℕ) (h : points_whole d n (drop head_size bs) ≡ true) where
  -- the record of each row stands at its place
  pub row-stands : (i : ℕ) → i < n → row_whole d bs i ≡ true
  row-stands i l = ap (whole file_point_mark (point_size_lem d)) (sym (drop-drop (i * point_size_lem d) head_size bs)) ∙ point-stands d n i (drop head_size bs) h l

  pub rows_inside : head_size ≤ length bs → (i : ℕ) → i ≤ n → point_place d i ≤ length bs
  rows_inside g zero l = omega (arith, zero-mul (point_size_lem d))
  rows_inside g (suc i) l =
      let before = rows_inside g i (omega arith) in
      omega (arith, suc-mul i (point_size_lem d), whole-inside file_point_mark (point_size_lem d) (point_place d i) bs before (row-stands i l))

-- ---- the tests in the order in which they are made
module _ (bs : List ℕ) where
  abbrev d : ℕ
  d = (settings_in bs).dimension

  abbrev n : ℕ
  n = count_in bs

  abbrev head_stands : Bool
  head_stands = whole head_mark head_size bs

  abbrev points_stand : Bool
  points_stand = points_whole d n (drop head_size bs)

  abbrev known : Bool
  known = not (any_of bad (points_at d n bs))

  -- what they come to
  abbrev pub FrontIs : Bool → Type 0
  FrontIs r = r ≡ front_whole bs && buildable (settings_in bs) (points_in bs)

  front-is : front_whole bs && buildable (settings_in bs) (points_in bs) ≡ head_stands && policy_fits_lem bs && points_stand && (head_taken (settings_in bs) n && known)
  unfolding front_whole
  front-is =
      ap (λ (b : Bool). head_stands && policy_fits_lem bs && points_stand && b)
      (buildable-is (settings_in bs) (points_in bs) n (count_is bs) ∙ ap (λ (cs : List Float). head_taken (settings_in bs) n && not (any_of bad cs)) (points-are bs))

  pub head-broken : head_stands ≡ false → FrontIs false
  head-broken e = sym (front-is ∙ rw e)

  pub head-inside : head_stands ≡ true → head_size ≤ length bs
  head-inside e = leb-true head_size (length bs) (and-fst (leb head_size (length bs)) (marked_by head_mark bs) e)

  pub policy-broken : head_stands ≡ true → policy_fits_lem bs ≡ false → FrontIs false
  policy-broken e f = sym (front-is ∙ rw (e, f))

  -- settings and a count that were read
  module _ (e : head_stands ≡ true) (f : policy_fits_lem bs ≡ true) (s : Settings) (m : ℕ) (g : s ≡ settings_in bs) (k : m ≡ count_in bs) where
    abbrev tests : Settings → ℕ → Bool
    tests z j = points_whole z.dimension j (drop head_size bs) && (head_taken z j && not (any_of bad (points_at z.dimension j bs)))

    rest-is : front_whole bs && buildable (settings_in bs) (points_in bs) ≡ tests s m
    rest-is = front-is ∙ rw (e, f) (ap₂ tests (sym g) (sym k))

    pub head-refused : head_taken s m ≡ false → FrontIs false
    head-refused t = sym (rest-is ∙ rw t (and-false (points_whole s.dimension m (drop head_size bs))))

    pub points-decide : head_taken s m ≡ true → (r : Bool) → r ≡ points_whole s.dimension m (drop head_size bs) && not (any_of bad (points_at s.dimension m bs)) → FrontIs r
    points-decide t r q = q ∙ sym (rest-is ∙ rw t)

-- ---- where they pass
pub record FrontFacts (bs : List ℕ) : Type 0 where
  pub inside : levels_place bs ≤ length bs
  pub axes : 1 ≤ (settings_in bs).dimension
  pub axes_few : (settings_in bs).dimension ≤ 3
  pub rows_few : count_in bs ≤ most_points
  pub neighbours_few : (settings_in bs).neighbours ≤ most_neighbours

pub front-facts : (bs : List ℕ) → FrontIs bs true → FrontFacts bs
unfolding front_whole
front-facts bs h =
    let d = (settings_in bs).dimension in
    let n = count_in bs in
    let whole-front = and-fst (front_whole bs) (buildable (settings_in bs) (points_in bs)) (sym h) in
    let parts = three-pass (whole head_mark head_size bs) (policy_fits_lem bs) (points_whole d n (drop head_size bs)) whole-front in
    let has = buildable-passed (settings_in bs) (points_in bs) (and-snd (front_whole bs) (buildable (settings_in bs) (points_in bs)) (sym h)) in
    record {
      inside = rows_inside d n bs parts.2 (head-inside bs parts.0) n (omega arith);
      axes = has.axes;
      axes_few = has.axes_few;
      rows_few = omega (arith, count_is bs has.axes, has.rows_few);
      neighbours_few = has.neighbours_few;
    }

-- what was read: settings, a count and the size of a point's record
pub front_read : (settings : read.Settings) (m next : ℕ) (bs : List ℕ) → settings_are settings ≡ settings_in bs → m ≡ count_in bs → next ≡ point_place settings.dimensions m → FrontIs bs true
    → FrontRead (record { settings = settings; n = m; next = next }) bs
front_read settings m next bs e k z h =
    let has = front-facts bs h in
    let axes : settings.dimensions ≡ (settings_in bs).dimension = ap (λ (s : Settings). s.dimension) e in
    let place : next ≡ levels_place bs = z ∙ ap₂ point_place axes k in
    record {
      settings = e;
      count = k;
      place = place;
      inside = omega (arith, has.inside);
      axes = omega (arith, has.axes);
      axes_few = omega (arith, has.axes_few);
      rows_few = omega (arith, has.rows_few);
      neighbours_few = omega (arith, has.neighbours_few, ap (λ (s : Settings). s.neighbours) e);
    }
