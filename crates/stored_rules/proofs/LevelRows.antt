-- What the rows of a level have that pass their tests: they ascend, its leaves share them out, and no leaf borrows its own row or a
-- row that isn't listed. Assumes nothing.
-- Holds: LeafRows, leaf-rows, LevelRows, level-rows
use mathlib.Core.Path.{◌≡◌}
use mathlib.Core.Bool.{true, not, ◌&&◌}
use mathlib.Core.List.{List, map}
use Prim.Native.Nat.{ℕ, ◌<◌}
use borrow.Author.Tests.{not-true}
use Rattle.lists.specs.Lists.{member, joined}
use Rattle.lists.specs.Ascends.{All, Ascends}
use Rattle.lists.specs.Times.{times}
use Rattle.lists.proofs.Tests.{and-fst, and-snd, both-pass}
use Rattle.lists.proofs.All.{all-imp}
use Rattle.lists.proofs.Ascends.{ascends-once}
use Rattle.lists.proofs.Times.{member-zero, to-times, member-times}
use Rattle.definition.specs.Tree.{Leaf, Level}
use Rattle.stored.specs.Sound.{partitioned, sound_leaf, sound_rows}
use Rattle.tree_tests.proofs.AllPass.{all-passed, ascending-ascends}
use Rattle.tree_tests.proofs.Partition.{divided-times}

-- ---- a leaf of a level that lists these rows
pub record LeafRows (rows : List ℕ) (f : Leaf) : Type 0 where
  pub own-ascends : Ascends f.own
  pub borrowed-ascends : Ascends f.borrowed
  -- what it borrows is listed, and none of its own
  pub borrows-listed : (r : ℕ) → 0 < times r f.borrowed → 0 < times r rows
  pub borrows-foreign : (r : ℕ) → 0 < times r f.borrowed → times r f.own ≡ 0

pub leaf-rows : (rows : List ℕ) (f : Leaf) → sound_leaf rows f ≡ true → LeafRows rows f
unfolding sound_leaf
leaf-rows rows f h =
    let g = both-pass h in
    let k = both-pass g.0 in
    let each = to-times (λ j. member j rows && not (member j f.own) ≡ true) f.borrowed (all-passed (λ j. member j rows && not (member j f.own)) f.borrowed g.1) in
    record {
      own-ascends = ascending-ascends f.own k.0;
      borrowed-ascends = ascending-ascends f.borrowed k.1;
      borrows-listed = λ r m. member-times r rows (and-fst (member r rows) (not (member r f.own)) (each r m));
      borrows-foreign = λ r m. member-zero r f.own (not-true (member r f.own) (and-snd (member r rows) (not (member r f.own)) (each r m)));
    }

-- ---- a level
pub record LevelRows (l : Level) : Type 0 where
  pub ascends : Ascends l.points
  -- its leaves' own rows are the rows that it lists
  pub shares : (r : ℕ) → times r (joined (map (λ f. f.own) l.leaves)) ≡ times r l.points
  pub leaves-have : All (LeafRows l.points) l.leaves

-- THE LAW
pub level-rows : (l : Level) → sound_rows l ≡ true → LevelRows l
unfolding sound_rows partitioned
level-rows l h =
    let g = both-pass h in
    let k = both-pass g.0 in
    let up = ascending-ascends l.points k.0 in
    record {
      ascends = up;
      shares = divided-times l.points (joined (map (λ f. f.own) l.leaves)) (ascends-once l.points up) k.1;
      leaves-have = all-imp (λ f. sound_leaf l.points f ≡ true) (LeafRows l.points) l.leaves (leaf-rows l.points) (all-passed (sound_leaf l.points) l.leaves g.1);
    }
