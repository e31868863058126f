-- What holds of a tree that passes its tests in turn: as many internals as level rows, and no more than n rows in each level. Assumes nothing.
-- Holds: Passed, passed_is, own-length, internals-length, points-most
use mathlib.Core.Path.{◌≡◌, sym, ap, ◌∙◌}
use Prim.Native.Nat.{ℕ, ◌*◌, ◌≤◌}
use native.Mathlib.Omega.{arith}
use mathlib.Core.Bool.{true, true≢false}
use mathlib.Core.List.{List, [], ◌∷◌, map, map-map, Memᴰ}
use lib.ListN.{length}
use lib.Dec.{ltb, eqb}
use borrow.Author.Tests.{eqb-true}
use Rattle.lists.specs.Lists.{total}
use Rattle.lists.proofs.Times.{once-length}
use Rattle.lists.proofs.Ascends.{ascends-once}
use Rattle.lists.proofs.Joined.{length-joined}
use Rattle.lists.proofs.Sums.{sum_same, sum-most}
use Rattle.lists.proofs.Tests.{three-pass}
use Rattle.definition.specs.Tree.{Leaf, Level}
use Rattle.definition.specs.Packed.{packed_level_points, packed_internals}
use Rattle.definition_laws.proofs.Fit.{length-points, length-own}
use Rattle.stored.specs.Sound.{all_of, ascending, partitioned, sound_leaf, sound_rows, sound_levels}
use Rattle.tree_tests.specs.InTurn.{levels_pass}
use Rattle.tree_tests.proofs.Partition.{own_rows, divided-times}
use Rattle.tree_tests.proofs.Levels.{levels-pass-is}
use Rattle.tree_tests.proofs.SoundLevels.{sound-rows-ascend, sound-rows-each, rows-most}

-- its levels are sound, and none has more than n rows
pub record Passed (d n : ℕ) (ls : List Level) : Type 0 where
  pub levels : sound_levels d ls ≡ true
  pub rows : (m : Level) → Memᴰ m ls → length m.points ≤ n

pub passed_is : (d n : ℕ) (ls : List Level) → levels_pass d (λ k. eqb k n) (λ i. ltb i n) ls ≡ true → Passed d n ls
unfolding levels_pass
passed_is d n [] h = absurd (true≢false (sym h))
passed_is d n (l ∷ ls) h =
    let a = length l.points in
    let g = three-pass (eqb a n) (all_of (λ i. ltb i n) l.points) (sound_levels d (l ∷ ls)) (sym (levels-pass-is d (λ k. eqb k n) (λ i. ltb i n) l ls) ∙ h) in
    record { levels = g.2; rows = λ m k. omega (arith, eqb-true a n g.0, rows-most d l ls g.2 m k) }

-- ---- as many internals as level rows
pub own-length : (l : Level) → sound_rows l ≡ true → total (map (λ f. length f.own) l.leaves) ≡ length l.points
unfolding sound_rows partitioned
own-length l h =
    let up = ascends-once l.points (sound-rows-ascend l h) in
    let g = three-pass (ascending l.points) (partitioned l) (all_of (sound_leaf l.points) l.leaves) h in
    sym (length-joined (map (λ f. f.own) l.leaves) ∙ ap total (map-map length (λ (f : Leaf). f.own) l.leaves))
    ∙ once-length l.points (own_rows l.leaves) up (divided-times l.points (own_rows l.leaves) up g.1)

module _ (d n : ℕ) (ls : List Level) (p : Passed d n ls) where
  pub internals-length : length (packed_internals ls) ≡ length (packed_level_points ls)
  internals-length =
      length-own ls
      ∙ sum_same (λ (l : Level). total (map (λ (f : Leaf). length f.own) l.leaves)) (λ (l : Level). length l.points) ls (λ l m. own-length l (sound-rows-each d ls p.levels l m))
      ∙ sym (length-points ls)

  -- no more than n in each level
  pub points-most : length (packed_level_points ls) ≤ length ls * n
  points-most = omega (arith, length-points ls, sum-most (λ (l : Level). length l.points) n ls p.rows)
