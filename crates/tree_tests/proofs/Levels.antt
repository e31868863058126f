-- The levels of a tree tested one after the other: the first one's count and rows, and `sound_levels`. Assumes nothing.
-- Holds: level-passes-is, levels-pass-is, level-passes-same, levels-pass-same
use mathlib.Core.Path.{◌≡◌, refl}
use Prim.Native.Nat.{ℕ}
use mathlib.Core.Bool.{Bool, true, false, not, ◌&&◌, and_assoc, and_comm}
use mathlib.Core.List.{List, [], ◌∷◌}
use lib.ListN.{length}
use lib.Dec.{eqb}
use Rattle.lists.proofs.Tests.{and-true}
use Rattle.definition.specs.Tree.{Level}
use Rattle.stored.specs.Sound.{all_of, ascending, partitioned, sound_leaf, sound_box, no_box, sound_rows, sound_depths, at_root, proper_part, sound_levels}
use Rattle.tree_tests.specs.InTurn.{among, boxed, fitted, leaves_pass, level_passes, fewer, levels_pass}
use Rattle.tree_tests.proofs.AllPass.{ascending-ascends}
use Rattle.tree_tests.proofs.Rows.{in-order-is, in-order-same}
use Rattle.tree_tests.proofs.Leaves.{each_from, leaves-in-turn}
use Rattle.tree_tests.proofs.Fitted.{and_left, root_only, fitted-in-turn}

-- ---- a level: its count, its rows among those above, sound rows, the boxes and the depths
regroup : (c a i l p s b : Bool) → (a ≡ true → l ≡ p && s && b) → c && (a && i) && l ≡ c && i && (a && p && s && b)
regroup false a i l p s b h = refl
regroup true false true l p s b h = refl
regroup true false false l p s b h = refl
regroup true true true l p s b h = h refl
regroup true true false l p s b h = refl

pub level-passes-is : (d : ℕ) (coarse : Bool) (counts above : ℕ → Bool) (l : Level)
    → level_passes d coarse counts above l
    ≡ counts (length l.points) && all_of above l.points && (sound_rows l && (all_of (boxed d coarse) l.leaves && sound_depths l && root_only coarse l.leaves))
unfolding level_passes sound_rows sound_depths
level-passes-is d coarse counts above l =
    let a = length l.points in
    rw (in-order-is above l.points, ← fitted-in-turn d coarse a 0 l.leaves)
    (regroup (counts a) (ascending l.points) (all_of above l.points)
    (leaves_pass (fitted d coarse a) (among l.points) (among l.points) a 0 l.leaves)
    (partitioned l) (all_of (sound_leaf l.points) l.leaves) (each_from (fitted d coarse a) 0 l.leaves)
    (λ u. leaves-in-turn (fitted d coarse a) l.points l.leaves (ascending-ascends l.points u)))

-- ---- the levels from one on
coarse-order : (o c a s b e r : Bool) → o && (c && a && (s && (b && e && r))) ≡ c && a && (s && e && o && b && r)
coarse-order o c a s b e r = simp (and_assoc, and_comm, and_left)

fine-order : (o c a s b e p r : Bool) → o && (c && a && (s && (b && e && true))) && (p && r) ≡ c && a && (s && e && o && b && p && r)
fine-order o c a s b e p r = rw (and-true (b && e)) (simp (and_assoc, and_comm, and_left))

pub levels-pass-is : (d : ℕ) (counts above : ℕ → Bool) (l : Level) (ls : List Level)
    → levels_pass d counts above (l ∷ ls) ≡ counts (length l.points) && all_of above l.points && sound_levels d (l ∷ ls)
unfolding levels_pass sound_levels proper_part
levels-pass-is d counts above l [] =
    rw (level-passes-is d true counts above l)
    (coarse-order (eqb (length l.leaves) 1) (counts (length l.points)) (all_of above l.points) (sound_rows l) (all_of (no_box d) l.leaves)
    (sound_depths l) (all_of at_root l.leaves))
levels-pass-is d counts above l (m ∷ ls) =
    rw (level-passes-is d false counts above l, levels-pass-is d (fewer (length l.points)) (among l.points) m ls)
    (fine-order (not (eqb (length l.leaves) 1)) (counts (length l.points)) (all_of above l.points) (sound_rows l) (all_of (sound_box d) l.leaves)
    (sound_depths l) (proper_part m.points l.points) (sound_levels d (m ∷ ls)))

-- ---- sets that agree give the same answer
pub level-passes-same : (d : ℕ) (coarse : Bool) (counts above above' : ℕ → Bool) (l : Level) → ((i : ℕ) → above i ≡ above' i)
    → level_passes d coarse counts above l ≡ level_passes d coarse counts above' l
unfolding level_passes
level-passes-same d coarse counts above above' l h = rw (in-order-same 0 above above' l.points (λ i k. h i))

pub levels-pass-same : (d : ℕ) (counts above above' : ℕ → Bool) (ls : List Level) → ((i : ℕ) → above i ≡ above' i)
    → levels_pass d counts above ls ≡ levels_pass d counts above' ls
unfolding levels_pass
levels-pass-same d counts above above' [] h = refl
levels-pass-same d counts above above' (l ∷ []) h = rw (level-passes-same d true counts above above' l h)
levels-pass-same d counts above above' (l ∷ m ∷ ls) h = rw (level-passes-same d false counts above above' l h)
