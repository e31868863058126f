-- What the writer accepts can be read back: its bytes load again, as the tree that stands in the lists. Assumes nothing.
-- Holds: writes-own, writes-packs, writes-sound, writes
use mathlib.Core.Path.{◌≡◌}
use Prim.Native.Nat.{ℕ, zero, suc, ◌+◌, ◌*◌}
use mathlib.Core.Bool.{Bool, true, false, not, ◌&&◌}
use mathlib.Core.List.{List, [], ◌∷◌}
use lib.ListN.{length, drop, get_or}
use lib.Dec.{ltb}
use lib.Ieee.{Float, binary64}
use lib.Ieee.Bits.{of_bits-fits}
use borrow.Author.Tests.{not-false}
use Rattle.lists.specs.Lists.{from, part}
use Rattle.lists.specs.Ascends.{All}
use Rattle.lists.proofs.All.{all_append, all_map, all-of, all_take, all_drop}
use Rattle.lists.proofs.Tests.{and-fst, and-snd}
use Rattle.definition.specs.Number.{plus_zero}
use Rattle.definition.specs.Points.{box_width_lem}
use Rattle.definition.specs.Tree.{Settings, Level, point_count}
use Rattle.definition.specs.Packed.{Counts, row_floats_lem, leaf_floats}
use Rattle.definition.specs.Refusals.{Test, on, accepted, verdict}
use Rattle.definition.specs.Outcome.{TreeLists}
use Rattle.packed.specs.Reading.{packed, box_at_lem, cover_at, up_to, read_leaf, read_leaves, read_level, read_levels}
use Rattle.definition_laws.proofs.Accepted.{accepted-iff, first-accepts, second-accepts}
use Rattle.stored.specs.File.{file_bytes}
use Rattle.stored.specs.Sound.{sound}
use Rattle.stored.specs.Outcome.{own_tests, tree_held, packs, write_verdict}
use Rattle.stored_laws.specs.Writable.{FloatFits, SettingsFit, BoxesFit, Writable}
use Rattle.stored_laws.proofs.Verdicts.{own-takes, own-whole}

-- ---- the floats in the lists are the bounds and the covers of the tree

-- what holds of each element and of the one that stands past them holds at each index
at-any : {A : Type 0} (P : A → Type 0) (l : List A) (i : ℕ) (x : A) → All P l → P x → P (get_or l i x)
unfolding All
at-any P [] i x h k = k
at-any P (y ∷ l) zero x h k = h.0
at-any P (y ∷ l) (suc i) x h k = at-any P l i x h.1 k

held-boxes : (d : ℕ) (c : Counts) (l : TreeLists) → All FloatFits l.boxes → All BoxesFit (tree_held d c l)
unfolding tree_held read_levels read_level read_leaves read_leaf part All
held-boxes d c l h =
    let p = packed l.internals l.domains l.boxes l.borrowed d in
    all_map BoxesFit (read_level p l.level_points c.rows c.domains) (from 0 c.levels)
    (all-of (λ t. BoxesFit (read_level p l.level_points c.rows c.domains t)) (from 0 c.levels)
    (λ t m. all_map (λ f. All FloatFits (leaf_floats f)) (read_leaf p) (from (up_to c.domains t) (get_or c.domains t 0))
    (all-of (λ j. All FloatFits (leaf_floats (read_leaf p j))) (from (up_to c.domains t) (get_or c.domains t 0))
    (λ j u. all_append FloatFits (box_at_lem d l.boxes j) (cover_at d l.boxes j ∷ [])
    (all_take FloatFits (box_width_lem d) (drop (row_floats_lem d * j) l.boxes) (all_drop FloatFits (row_floats_lem d * j) l.boxes h))
    (at-any FloatFits l.boxes (row_floats_lem d * j + box_width_lem d) plus_zero h (of_bits-fits binary64 0), tt)))))

-- ---- the writer's own tests
module _ (s : Settings) (cs : List Float) (c : Counts) (l : TreeLists) (file : List ℕ) where
  abbrev tree : List Level
  tree = tree_held s.dimension c l

  abbrev good : Bool
  good = packs c l tree && sound s (point_count s.dimension cs) tree

  abbrev short : Bool
  short = ltb (length file) (length (file_bytes s cs tree))

  abbrev tree_tests : List Test
  tree_tests = on (not good) 20 ∷ on short 11 ∷ []

  -- ---- an accepted writer
  module _ (ok : write_verdict s cs c l file ≡ accepted) where
    pub writes-own : verdict (own_tests s cs l) ≡ accepted
    unfolding write_verdict
    writes-own = first-accepts (own_tests s cs l) tree_tests ok

    fails : (not good ≡ false) × (short ≡ false)
    unfolding write_verdict All
    fails = let g = (accepted-iff tree_tests).0 (second-accepts (own_tests s cs l) tree_tests ok) in (g.0, g.1.0)

    pub writes-packs : packs c l tree ≡ true
    writes-packs = and-fst (packs c l tree) (sound s (point_count s.dimension cs) tree) (not-false good fails.0)

    pub writes-sound : sound s (point_count s.dimension cs) tree ≡ true
    writes-sound = and-snd (packs c l tree) (sound s (point_count s.dimension cs) tree) (not-false good fails.0)

    -- the tree that stands in the lists can be written
    pub writes : SettingsFit s → All FloatFits cs → All FloatFits l.boxes → Writable s cs tree
    writes fit held boxes =
        record {
          settings_fit = fit;
          takes = own-takes s cs l writes-own;
          whole = own-whole s cs l writes-own;
          points_fit = held;
          passes = writes-sound;
          boxes_fit = held-boxes s.dimension c l boxes;
        }
