-- The rows of a level that is sound, and of its leaves: at most 32, each below 32, where the level's are. Assumes nothing.
use mathlib.Core.Path.{◌≡◌, sym, ◌∙◌}
use Prim.Native.Nat.{ℕ, ◌<◌}
use native.Mathlib.Omega.{arith}
use mathlib.Core.Bool.{true, not, ◌&&◌}
use mathlib.Core.List.{List, map, Memᴰ}
use lib.Dec.{eqb}
use Rattle.lists.specs.Lists.{member}
use Rattle.lists.specs.Ascends.{Ascends}
use Rattle.lists.specs.Times.{times}
use Rattle.lists.proofs.Tests.{and-fst, and-snd, three-pass}
use Rattle.lists.proofs.All.{all-mem, all-of}
use Rattle.lists.proofs.Members.{member-mem, mem-joined, mem-map}
use Rattle.lists.proofs.Times.{once-short}
use Rattle.lists.proofs.Ascends.{ascends-once}
use Rattle.definition.specs.Tree.{Leaf, Level}
use Rattle.formats.specs.Stream.{stream_points}
use Rattle.stored.specs.Sound.{all_of, ascending, partitioned, sound_leaf, sound_rows}
use Rattle.tree_tests.proofs.AllPass.{all-pass-each, ascending-ascends}
use Rattle.tree_tests.proofs.Partition.{own_rows, partitioned-is, inside-times}
use Rattle.stream_laws.proofs.Long.{FewRows}

-- rows that ascend inside few rows that ascend
pub few-inside : (inner rows : List ℕ) → Ascends inner → Ascends rows → FewRows rows → ((i : ℕ) → Memᴰ i inner → member i rows ≡ true) → FewRows inner
few-inside inner rows up rising f h =
    record {
      below = all-of (λ i. i < stream_points) inner (λ i m. all-mem (λ i. i < stream_points) rows f.below i (member-mem rows i (h i m)));
      few = omega (arith, f.few, once-short rows inner (ascends-once rows rising) (inside-times inner rows up h));
    }

-- ---- a leaf of a sound level
module _ (l : Level) (h : sound_rows l ≡ true) (rows : FewRows l.points) where
  facts : (ascending l.points ≡ true) × (partitioned l ≡ true) × (all_of (sound_leaf l.points) l.leaves ≡ true)
  unfolding sound_rows
  facts = three-pass (ascending l.points) (partitioned l) (all_of (sound_leaf l.points) l.leaves) h

  rising : Ascends l.points
  rising = ascending-ascends l.points facts.0

  -- its internal rows are the level's
  own-inside : (f : Leaf) → Memᴰ f l.leaves → (i : ℕ) → Memᴰ i f.own → member i l.points ≡ true
  own-inside f m i k =
      let own = own_rows l.leaves in
      all-pass-each (λ i. member i l.points) own
      (and-snd (all_of (λ i. eqb (times i own) 1) l.points) (all_of (λ i. member i l.points) own) (sym (partitioned-is l) ∙ facts.1))
      i (mem-joined (map (λ (f : Leaf). f.own) l.leaves) (mem-map (λ (f : Leaf). f.own) l.leaves m) k)

  module _ (f : Leaf) (m : Memᴰ f l.leaves) where
    tests : (ascending f.own ≡ true) × (ascending f.borrowed ≡ true) × (all_of (λ j. member j l.points && not (member j f.own)) f.borrowed ≡ true)
    unfolding sound_leaf
    tests =
        three-pass (ascending f.own) (ascending f.borrowed) (all_of (λ j. member j l.points && not (member j f.own)) f.borrowed)
        (all-pass-each (sound_leaf l.points) l.leaves facts.2 f m)

    pub own-few : FewRows f.own
    own-few = few-inside f.own l.points (ascending-ascends f.own tests.0) rising rows (own-inside f m)

    pub borrowed_few : FewRows f.borrowed
    borrowed_few =
        few-inside f.borrowed l.points (ascending-ascends f.borrowed tests.1) rising rows
        (λ j k. and-fst (member j l.points) (not (member j f.own))
        (all-pass-each (λ j. member j l.points && not (member j f.own)) f.borrowed tests.2 j k))
