-- A well-formed file with the present settings and points: its dimension, neighbour count and point count are theirs, and lists that
-- are long enough for a build can hold its tree. Assumes nothing.
-- Holds: front-stands, settings-inside, taken-with, its-dimension, its-count, levels-here, tree-here, can-hold-it
use mathlib.Core.Path.{◌≡◌, sym, ap, ◌∙◌}
use mathlib.Core.Bool.{Bool, true, false, ◌&&◌}
use mathlib.Core.List.{List, [], ◌∷◌}
use Prim.Native.Nat.{ℕ, zero, suc, ◌≤◌, ◌<◌}
use native.Mathlib.Decide.{ℕ_discrete}
use native.Mathlib.Omega.{arith}
use borrow.Author.Tests.{eqb-true, ltb-false}
use lib.Dec.{leb}
use lib.ListN.{length, get_or, drop}
use lib.Ieee.{Float}
use Rattle.lists.specs.Lists.{part}
use Rattle.lists.specs.Ascends.{All}
use Rattle.lists.proofs.Tests.{clash, and-fst, and-snd, or-none}
use Rattle.definition.specs.Tree.{Settings, point_count}
use Rattle.definition.specs.Packed.{most_levels, TreeSizes, tree_stated}
use Rattle.definition.specs.Refusals.{tree_short, accepted, verdict, not_finite_lem}
use Rattle.definition.specs.Outcome.{TreeLists}
use Rattle.definition_laws.proofs.Accepted.{Passed}
use Rattle.packed.specs.Reading.{packed}
use Rattle.formats.specs.Bytes.{field, bytes_of}
use Rattle.formats.specs.Stream.{settings_in, settings_size, policy_bytes}
use Rattle.stored.specs.Sound.{same, first_all, sound_levels, fits, sound}
use Rattle.stored.specs.Stored.{count_in, points_in, levels_place, tree_in, buildable, well_formed}
use Rattle.stored.specs.Outcome.{lists_short_lem, own_tests, same_settings_lem, same_points_lem}
use Rattle.tree_tests.specs.Whole.{front_whole, levels_whole}
use Rattle.stored_laws.specs.Writable.{IsByte}
use Rattle.stored_laws.proofs.ReadBack.{buildable-passed}
use Rattle.stored_laws.proofs.Verdicts.{own-long, own-takes}
use Rattle.stored_laws.proofs.WellFormed.{well-formed-bytes, well-formed-sound, well-formed-in-turn}
use Rattle.settings_record.proofs.Compared.{field-same, settings-same}
use Rattle.file_front.proofs.Tested.{head-inside}
use Rattle.file_front.proofs.Compared.{count-differs}
use Rattle.file_front.proofs.PresentPoints.{front-parts, same-dimension}
use Rattle.load_lists.specs.Places.{tree_from, CanHold}
use Rattle.load_lists.proofs.Fitted.{can-hold}

-- ---- a well-formed file
byte_at : (bs : List ℕ) → All IsByte bs → (k : ℕ) → get_or bs k 0 < 256
unfolding All
byte_at [] h k = omega arith
byte_at (b ∷ bs) h zero = h.0
byte_at (b ∷ bs) h (suc k) = byte_at bs h.1 k

module _ (bs : List ℕ) (well : well_formed bs ≡ true) where
  both : front_whole bs && levels_whole (settings_in bs).dimension most_levels (drop (levels_place bs) bs) ≡ true
  both =
      and-snd (buildable (settings_in bs) (points_in bs) && sound (settings_in bs) (count_in bs) (tree_in bs)) _
      (sym (well-formed-in-turn bs (well-formed-bytes bs well)) ∙ well)

  pub front-stands : front_whole bs ≡ true
  front-stands = and-fst (front_whole bs) _ both

  levels-stand : levels_whole (settings_in bs).dimension most_levels (drop (levels_place bs) bs) ≡ true
  levels-stand = and-snd (front_whole bs) _ both

  pub settings-inside : settings_size ≤ length bs
  settings-inside = omega (arith, head-inside bs (front-parts bs front-stands).0)

  bytes : (k : ℕ) → get_or bs k 0 < 256
  bytes = byte_at bs (well-formed-bytes bs well)

-- ---- lists that are long enough
module _ (s : Settings) (cs : List Float) (old : TreeLists) (own : verdict (own_tests s cs old) ≡ accepted) where
  abbrev n : ℕ
  n = point_count s.dimension cs

  abbrev stated : TreeSizes
  stated = tree_stated s.dimension n s.neighbours

  -- what the build's own tests say
  pub taken-with : Passed s n false false (not_finite_lem cs)
  taken-with = buildable-passed s cs (own-takes s cs old own)

  -- ---- and a well-formed file that has the settings
  module _ (bs : List ℕ) (well : well_formed bs ≡ true) (settings : same_settings_lem s bs ≡ true) where
    pub its-dimension : (settings_in bs).dimension ≡ s.dimension
    its-dimension = same-dimension s bs (settings-inside bs well) (omega (arith, taken-with.axes_few)) (bytes bs well) settings

    neighbours-same : same (bytes_of 4 s.neighbours) (part bs 7 4) ≡ true
    neighbours-same =
        five-third (same (bytes_of 1 s.dimension) (part bs 2 1)) (same (bytes_of 4 s.leaf) (part bs 3 4)) (same (bytes_of 4 s.neighbours) (part bs 7 4))
        (same (bytes_of 4 s.factor) (part bs 11 4)) (same (policy_bytes s.policy) (part bs 15 5)) (sym (settings-same s bs (settings-inside bs well)) ∙ settings)
      where
        five-third : (a b c e f : Bool) → a && b && c && e && f ≡ true → c ≡ true
        five-third a b c e f t = and-snd (a && b) c (and-fst (a && b && c) e (and-fst (a && b && c && e) f t))

    its-neighbours : (settings_in bs).neighbours ≡ s.neighbours
    unfolding settings_in
    its-neighbours =
        sym
        (eqb-true s.neighbours (field 4 7 bs)
        (field-same 4 s.neighbours 7 bs (omega (arith, taken-with.neighbours_few)) (omega (arith, settings-inside bs well)) (bytes bs well) ∙ neighbours-same))

    -- and the points
    module _ (points : same_points_lem s cs bs ≡ true) where
      pub its-count : count_in bs ≡ n
      its-count = elim (ℕ_discrete n (count_in bs)) [
        | yes e ↦ sym e
        | no e ↦ clash points (sym (count-differs s bs (front-parts bs (front-stands bs well)).0 settings (bytes bs well) cs (omega (arith, taken-with.rows_few)) e))
      ]

      its-tree-fits : fits s.dimension n s.neighbours (tree_in bs) ≡ true
      unfolding sound
      its-tree-fits =
          rw (← its-count, ← its-neighbours, ← its-dimension)
          (and-snd (leb (length (tree_in bs)) most_levels && first_all (count_in bs) (tree_in bs) && sound_levels (settings_in bs).dimension (tree_in bs)) _ (well-formed-sound bs well))

      -- ---- where the levels begin
      module _ (at : ℕ) (place : at ≡ levels_place bs) where
        pub levels-here : levels_whole s.dimension most_levels (drop at bs) ≡ true
        levels-here = rw (place, ← its-dimension) (levels-stand bs well)

        pub tree-here : tree_from s.dimension at bs ≡ tree_in bs
        unfolding tree_in
        tree-here = rw (place, ← its-dimension)

        pub can-hold-it : CanHold (tree_from s.dimension at bs) old.level_points (packed old.internals old.domains old.boxes old.borrowed s.dimension)
        unfolding lists_short_lem tree_short
        can-hold-it =
            let borrowed-fail = or-none _ _ (own-long s cs old own) in
            let boxes-fail = or-none _ _ borrowed-fail.0 in
            let domains-fail = or-none _ _ boxes-fail.0 in
            let internals-fail = or-none _ _ domains-fail.0 in
            can-hold s.dimension n s.neighbours at bs old.level_points _ (ap (fits s.dimension n s.neighbours) tree-here ∙ its-tree-fits)
            (ltb-false _ stated.level_points internals-fail.0) (ltb-false _ stated.internals internals-fail.1)
            (ltb-false _ stated.domains domains-fail.1) (ltb-false _ stated.boxes boxes-fail.1)
            (ltb-false _ stated.borrowed borrowed-fail.1)
