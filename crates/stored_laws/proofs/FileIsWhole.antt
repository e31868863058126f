-- `file-is-whole`: where the build takes what stands in a file and its tree passes the tests, the bytes are the writer's exactly where
-- each record stands whole at its place and nothing follows. And what stands there can be written (`read-writable`). Assumes nothing.
use mathlib.Core.Path.{◌≡◌, sym, ap, ◌∙◌}
use Prim.Native.Nat.{ℕ, zero, suc, ◌+◌, ◌*◌, ◌%◌}
use native.Mathlib.Nat.{mul-mod_right}
use native.Mathlib.Omega.{arith}
use mathlib.Core.Bool.{Bool, true, false, not, ◌&&◌, cond}
use mathlib.Core.List.{List, [], ◌∷◌, ◌++◌, map, append_assoc}
use lib.ListN.{length, drop}
use lib.Dec.{leb}
use lib.Ieee.{Float, binary64}
use lib.Ieee.Bits.{of_bits-fits}
use lib.Ieee.Scale.{finite}
use borrow.Author.Tests.{eq-eqb, not-false}
use Rattle.lists.specs.Lists.{from, joined}
use Rattle.lists.specs.Ascends.{All}
use Rattle.lists.proofs.Tests.{same_test, and-of, and-fst, and-snd, three-pass, four-pass}
use Rattle.lists.proofs.All.{all_append, all_map, all-of, all-joined, all_drop}
use Rattle.lists.proofs.Members.{none_any}
use Rattle.definition.specs.Points.{box_width_lem}
use Rattle.definition.specs.Levels.{policy_from}
use Rattle.definition.specs.Tree.{Settings, Leaf, Level, point_count}
use Rattle.definition.specs.Packed.{most_levels, leaf_floats}
use Rattle.definition.specs.Refusals.{not_finite_lem}
use Rattle.definition.proofs.Cuts.{finite-known}
use Rattle.definition_laws.proofs.Accepted.{Passed}
use Rattle.formats.specs.Bytes.{mark_size, whole, field, value_at, number_size, float_size, float_at, floats_at}
use Rattle.formats.specs.Stream.{leaf_field, factor_field, policy_field, threshold_field, settings_in, policy_fits_lem}
use Rattle.stored.specs.File.{head_mark, head_bytes_lem, point_bytes, front_bytes_lem, file_bytes}
use Rattle.stored.specs.Sound.{same, first_all, sound_levels, fits, sound}
use Rattle.stored.specs.Stored.{head_size, bounds_place, cover_place, leaf_in, leaf_size, leaves_at_lem, second_count, one_domain, domains_place, level_in, after_level, levels_at, count_in, points_in, levels_place, tree_in, buildable}
use Rattle.tree_tests.specs.Whole.{points_whole, front_whole, levels_whole}
use Rattle.tree_tests.proofs.AllRows.{same-is, same_self}
use Rattle.stored_laws.specs.Writable.{NumberFits, FloatFits, IsByte, policy_threshold, BoxesFit, SettingsFit, Writable}
use Rattle.stored_laws.proofs.Stowed.{zeros-fit}
use Rattle.stored_laws.proofs.ReadBack.{buildable-passed}
use Rattle.stored_laws.proofs.WrittenWhole.{written-whole}
use Rattle.stored_laws.proofs.FieldsAgain.{field-small, NoNan}
use Rattle.stored_laws.proofs.LevelsAgain.{levels-again}
use Rattle.stored_laws.proofs.FrontAgain.{head-again, length-points-in, count_is, points-again}

-- ---- what is read is of the format: floats, boxes and covers, settings
floats_fit : (n at : ℕ) (bs : List ℕ) → All FloatFits (floats_at n at bs)
unfolding floats_at
floats_fit n at bs =
    all_map FloatFits (λ i. float_at (at + float_size * i) bs) (from 0 n)
    (all-of (λ i. FloatFits (float_at (at + float_size * i) bs)) (from 0 n) (λ i m. of_bits-fits binary64 (field float_size (at + float_size * i) bs)))

box_fits : (d : ℕ) (coarse : Bool) (bs : List ℕ) → All FloatFits (leaf_in d coarse bs).box
unfolding leaf_in
box_fits d true bs = zeros-fit (box_width_lem d)
box_fits d false bs = floats_fit (box_width_lem d) (bounds_place bs) bs

leaf-fits : (d : ℕ) (coarse : Bool) (bs : List ℕ) → All FloatFits (leaf_floats (leaf_in d coarse bs))
unfolding leaf_in All
leaf-fits d coarse bs =
    all_append FloatFits (leaf_in d coarse bs).box ((leaf_in d coarse bs).cover ∷ []) (box_fits d coarse bs)
    (of_bits-fits binary64 (field float_size (cover_place d coarse bs) bs), tt)

leaves-fit : (d : ℕ) (coarse : Bool) (m : ℕ) (bs : List ℕ) → All (λ (f : Leaf). All FloatFits (leaf_floats f)) (leaves_at_lem d coarse m bs)
unfolding leaves_at_lem All
leaves-fit d coarse zero bs = tt
leaves-fit d coarse (suc m) bs = (leaf-fits d coarse bs, leaves-fit d coarse m (drop (leaf_size d coarse bs) bs))

pub levels-fit : (d fuel : ℕ) (bs : List ℕ) → All BoxesFit (levels_at d fuel bs)
unfolding levels_at level_in All
levels-fit d zero bs = tt
levels-fit d (suc fuel) bs = (leaves-fit d (one_domain bs) (second_count bs) (drop (domains_place bs) bs), go (one_domain bs) (levels-fit d fuel (after_level d bs)))
  where
    go : (b : Bool) → All BoxesFit (levels_at d fuel (after_level d bs)) → All BoxesFit (cond b [] (levels_at d fuel (after_level d bs)))
    go true h = tt
    go false h = h

threshold-small : (kind limit : ℕ) → NumberFits limit → NumberFits (policy_threshold (policy_from kind limit))
threshold-small zero limit h = omega arith
threshold-small (suc kind) limit h = h

settings-fit-in : (bs : List ℕ) → All IsByte bs → SettingsFit (settings_in bs)
unfolding settings_in
settings-fit-in bs bytes =
    record {
      leaf = field-small bs bytes number_size leaf_field.offset;
      factor = field-small bs bytes number_size factor_field.offset;
      threshold = threshold-small (value_at policy_field bs) (value_at threshold_field bs) (field-small bs bytes number_size threshold_field.offset);
    }

module _ (bs : List ℕ) (bytes : All IsByte bs) (takes : buildable (settings_in bs) (points_in bs) ≡ true) (passes : sound (settings_in bs) (count_in bs) (tree_in bs) ≡ true) where
  abbrev s : Settings
  s = settings_in bs

  abbrev cs : List Float
  cs = points_in bs

  abbrev ls : List Level
  ls = tree_in bs

  abbrev d : ℕ
  d = s.dimension

  has : Passed s (point_count d cs) false false (not_finite_lem cs)
  has = buildable-passed s cs takes

  counted : point_count d cs ≡ count_in bs
  counted = count_is bs has.axes

  points_fit : All FloatFits cs
  unfolding points_in
  points_fit =
      all-joined FloatFits (map (λ i. floats_at d (head_size + i * (mark_size + float_size * d) + mark_size) bs) (from 0 (count_in bs)))
      (all_map (All FloatFits) (λ i. floats_at d (head_size + i * (mark_size + float_size * d) + mark_size) bs) (from 0 (count_in bs))
      (all-of (λ i. All FloatFits (floats_at d (head_size + i * (mark_size + float_size * d) + mark_size) bs)) (from 0 (count_in bs)) (λ i m. floats_fit d (head_size + i * (mark_size + float_size * d) + mark_size) bs)))

  boxes_fit : All BoxesFit ls
  unfolding tree_in
  boxes_fit = levels-fit d most_levels (drop (levels_place bs) bs)

  -- what stands in the bytes can be written
  pub read-writable : Writable s cs ls
  read-writable =
      record {
        settings_fit = settings-fit-in bs bytes;
        takes = takes;
        whole = ap not (eq-eqb (length cs % d) 0 (ap (λ (k : ℕ). k % d) (length-points-in bs) ∙ mul-mod_right d (count_in bs)));
        points_fit = points_fit;
        passes = ap (λ (k : ℕ). sound s k ls) counted ∙ passes;
        boxes_fit = boxes_fit;
      }

  points-clean : All NoNan cs
  points-clean = all-of NoNan cs (λ x m. finite-known x (not-false (finite x) (none_any (λ y. not (finite y)) cs has.judged-passes m)))

  levels_sound : sound_levels d (levels_at d most_levels (drop (levels_place bs) bs)) ≡ true
  unfolding sound tree_in
  levels_sound = (four-pass (leb (length ls) most_levels) (first_all (count_in bs) ls) (sound_levels d ls) (fits d (count_in bs) s.neighbours ls) passes).2

  -- the records stand whole: the bytes are the writer's
  whole_is : front_whole bs ≡ true → levels_whole d most_levels (drop (levels_place bs) bs) ≡ true → bs ≡ file_bytes s cs ls
  unfolding front_whole file_bytes front_bytes_lem tree_in
  whole_is h t =
      let g = three-pass (whole head_mark head_size bs) (policy_fits_lem bs) (points_whole d (count_in bs) (drop head_size bs)) h in
      let rest = drop (levels_place bs) bs in
      let points = joined (map (point_bytes d cs) (from 0 (count_in bs))) in
      head-again bs bytes g.0 g.1
      ∙ ap (λ (r : List ℕ). head_bytes_lem s (count_in bs) ++ r) (points-again bs bytes g.2 points-clean)
      ∙ sym (append_assoc (head_bytes_lem s (count_in bs)) points rest)
      ∙ ap (λ (n : ℕ). head_bytes_lem s n ++ joined (map (point_bytes d cs) (from 0 n)) ++ rest) (sym counted)
      ∙ ap (λ (r : List ℕ). head_bytes_lem s (point_count d cs) ++ joined (map (point_bytes d cs) (from 0 (point_count d cs))) ++ r)
      (levels-again d most_levels rest (all_drop IsByte (levels_place bs) bs bytes) t levels_sound)

  pub file-is-whole : same bs (file_bytes s cs ls) ≡ front_whole bs && levels_whole d most_levels (drop (levels_place bs) bs)
  file-is-whole =
      same_test (same bs (file_bytes s cs ls)) (front_whole bs && levels_whole d most_levels (drop (levels_place bs) bs))
      (λ h. let g = written-whole s cs ls bs read-writable (same-is bs (file_bytes s cs ls) h) in and-of g.0 g.1)
      (λ h.
      let front = and-fst (front_whole bs) (levels_whole d most_levels (drop (levels_place bs) bs)) h in
      let tree = and-snd (front_whole bs) (levels_whole d most_levels (drop (levels_place bs) bs)) h in
      ap (same bs) (sym (whole_is front tree)) ∙ same_self bs)
