-- A file's tree that passes the tests has demand 3's rules where it is handed out, because the floats that stand in a file are values of
-- the format; and its leaves' sizes follow from their depths. So it is with what an accepted call of the loader hands out. Assumes nothing.
-- Holds: tree-fits, file-rules, load-rules, load-depths
use mathlib.Core.Path.{◌≡◌}
use mathlib.Core.Bool.{true, false, not}
use mathlib.Core.List.{List, [], ◌∷◌, ◌++◌}
use Prim.Native.Nat.{ℕ}
use borrow.Author.Tests.{not-false}
use lib.ListN.{drop}
use lib.Ieee.{Float}
use Rattle.lists.specs.Ascends.{All}
use Rattle.lists.proofs.All.{all_right}
use Rattle.definition.specs.Tree.{Settings}
use Rattle.definition.specs.Packed.{most_levels, counts_of}
use Rattle.definition.specs.Refusals.{Test, on, accepted}
use Rattle.definition.specs.Outcome.{TreeLists, number_of, place_of, value_of, tree_lists_after}
use Rattle.definition_laws.proofs.Accepted.{accepted-iff}
use Rattle.formats.specs.Stream.{settings_in}
use Rattle.demand3.specs.Handed.{handed}
use Rattle.demand3.specs.LoadedTree.{LoadedTree}
use Rattle.demand3.specs.Depths.{TreeDepths}
use Rattle.stored.specs.Sound.{sound}
use Rattle.stored.specs.Stored.{count_in, levels_place, tree_in, well_formed}
use Rattle.stored.specs.Outcome.{own_tests, same_settings_lem, same_points_lem, load_verdict, load_answer, load_lists_lem}
use Rattle.stored_laws.specs.Writable.{BoxesFit}
use Rattle.stored_laws.proofs.FileIsWhole.{levels-fit}
use Rattle.stored_laws.proofs.WellFormed.{well-formed-sound}
use Rattle.stored_rules.proofs.LoadedRules.{loaded-rules, loaded-depths}

pub tree-fits : (bs : List ℕ) → All BoxesFit (tree_in bs)
unfolding tree_in
tree-fits bs = levels-fit (settings_in bs).dimension most_levels (drop (levels_place bs) bs)

-- THE LAWS: a tree that stands in bytes
pub file-rules : (s : Settings) (n : ℕ) (bs : List ℕ) (old : TreeLists) → sound s n (tree_in bs) ≡ true
    → LoadedTree s.dimension n (handed (record { number = 0; place = 0; value = counts_of (tree_in bs) }) (tree_lists_after accepted (tree_in bs) old))
file-rules s n bs old h = loaded-rules s n (tree_in bs) old h (tree-fits bs)

-- ---- what the loader hands out
module _ (s : Settings) (cs : List Float) (bs : List ℕ) (old : TreeLists) (e : load_verdict s cs bs old ≡ accepted) where
  load-sound : sound (settings_in bs) (count_in bs) (tree_in bs) ≡ true
  unfolding load_verdict All
  load-sound =
      let own = own_tests s cs old in
      let further = on (not (well_formed bs)) 20 ∷ on (not (same_settings_lem s bs)) 18 ∷ on (not (same_points_lem s cs bs)) 19 ∷ [] in
      let none = all_right (λ (t : Test). t.holds ≡ false) own further ((accepted-iff (own ++ further)).0 e) in
      well-formed-sound bs (not-false (well_formed bs) none.0)

  -- over the settings and the point count that stand in the bytes
  pub load-rules : LoadedTree (settings_in bs).dimension (count_in bs) (handed (load_answer s cs bs old) (load_lists_lem s cs bs old))
  unfolding load_answer load_lists_lem number_of place_of value_of
  load-rules = rw e (file-rules (settings_in bs) (count_in bs) bs old load-sound)

  pub load-depths : TreeDepths (handed (load_answer s cs bs old) (load_lists_lem s cs bs old))
  unfolding load_answer load_lists_lem number_of place_of value_of
  load-depths = rw e (loaded-depths (settings_in bs) (count_in bs) (tree_in bs) old load-sound)
