-- The test of a file's front and the test of its levels decide whether it is well-formed. Assumes nothing.
use mathlib.Core.Path.{◌≡◌, refl, sym, ap, ◌∙◌}
use mathlib.Core.Bool.{Bool, true, false, ◌&&◌}
use mathlib.Core.List.{List}
use Prim.Native.Nat.{ℕ, ◌<◌}
use lib.ListN.{get_or, drop}
use Rattle.lists.proofs.All.{all-by-index}
use Rattle.lists.proofs.Tests.{clash}
use Rattle.definition.specs.Tree.{Settings}
use Rattle.definition.specs.Packed.{most_levels}
use Rattle.formats.specs.Stream.{settings_in}
use Rattle.stored.specs.Sound.{sound}
use Rattle.stored.specs.Stored.{levels_at, count_in, points_in, levels_place, tree_in, buildable, well_formed}
use Rattle.tree_tests.specs.Whole.{front_whole, levels_whole}
use Rattle.stored_laws.specs.Writable.{IsByte}
use Rattle.stored_laws.proofs.WellFormed.{well-formed-in-turn}
use Rattle.file_front.specs.declared.Front.{Front}
use Rattle.file_front.specs.Reading.{FrontRead}

-- what the test of the levels says, for settings with this dimension and neighbour count
abbrev pub LevelsTested : List ℕ → ℕ → ℕ → ℕ → ℕ → Bool → Type 0
LevelsTested bs at d n neighbours t =
    (s : Settings) → s.dimension ≡ d → s.neighbours ≡ neighbours
    → t ≡ levels_whole d most_levels (drop at bs) && sound s n (levels_at d most_levels (drop at bs))

module _ (bs : List ℕ) (bytes : (k : ℕ) → get_or bs k 0 < 256) where
  abbrev takes : Bool
  takes = buildable (settings_in bs) (points_in bs)

  abbrev passes : Bool
  passes = sound (settings_in bs) (count_in bs) (tree_in bs)

  abbrev stand : Bool
  stand = levels_whole (settings_in bs).dimension most_levels (drop (levels_place bs) bs)

  in-turn : well_formed bs ≡ takes && passes && (front_whole bs && stand)
  in-turn = well-formed-in-turn bs (all-by-index IsByte bs 0 (λ i h. bytes i))

  pub front-fails : front_whole bs && takes ≡ false → false ≡ well_formed bs
  front-fails h = sym (in-turn ∙ go (front_whole bs) takes passes stand h)
    where
      go : (f b s l : Bool) → f && b ≡ false → b && s && (f && l) ≡ false
      go true true s l e = clash refl e
      go true false s l e = refl
      go false false s l e = refl
      go false true true l e = refl
      go false true false l e = refl

  -- the front passes, and the levels are tested by what stands in it
  module _ (whole : front_whole bs && takes ≡ true) (f : Front) (read : FrontRead f bs) where
    dimension : f.settings.dimensions ≡ (settings_in bs).dimension
    dimension = ap (λ (s : Settings). s.dimension) read.settings

    here : levels_whole f.settings.dimensions most_levels (drop f.next bs) && sound (settings_in bs) f.n (levels_at f.settings.dimensions most_levels (drop f.next bs)) ≡ stand && passes
    unfolding tree_in
    here = rw (dimension, read.place, read.count)

    pub levels-decide : (t : Bool) → LevelsTested bs f.next f.settings.dimensions f.n f.settings.params.overlap_knn t → t ≡ well_formed bs
    levels-decide t e =
        e (settings_in bs) (sym dimension) (ap (λ (s : Settings). s.neighbours) (sym read.settings)) ∙ here
        ∙ sym (in-turn ∙ go (front_whole bs) takes passes stand whole)
      where
        go : (f b s l : Bool) → f && b ≡ true → b && s && (f && l) ≡ l && s
        go true true true true e = refl
        go true true true false e = refl
        go true true false true e = refl
        go true true false false e = refl
        go true false s l e = clash e refl
        go false b s l e = clash e refl
