-- The depths of a tree's leaves where its lists are handed back: of any packed tree whose levels have the laws of the shape, as those of what
-- a build makes. Assumes nothing.
use mathlib.Core.Path.{◌≡◌, sym, ap, ◌∙◌, subst}
use mathlib.Core.Logic.{⊎_elim}
use mathlib.Core.List.{List, map, map-map}
use Prim.Native.Nat.{ℕ, suc, ◌-◌, ◌≤◌, ◌<◌}
use native.Mathlib.Omega.{arith}
use lib.ListN.{length, get_or, length-map, get_or-eq_default}
use lib.Ieee.{Float}
use Rattle.lists.specs.Ascends.{All, NeverFalls}
use Rattle.lists.proofs.Tests.{le-or-lt}
use Rattle.lists.proofs.All.{all-at, map-all}
use Rattle.lists.proofs.Map.{get_d-map-in}
use Rattle.lists.proofs.NeverFalls.{falls_at}
use Rattle.definition.specs.Tree.{Settings, Leaf, Level, next_active, most_depth, levels_from}
use Rattle.definition.specs.Refusals.{most_points}
use Rattle.definition.proofs.Cuts.{Good}
use Rattle.definition.proofs.Levels.{next-short, next-good, levels-all}
use Rattle.definition_laws.specs.Shape.{Sized}
use Rattle.definition_laws.proofs.Depths.{Halved, LevelHolds, leaf_sized, fine-holds, coarse-holds}
use Rattle.packed.proofs.Counts.{no_level}
use Rattle.packed.proofs.Unpacked.{no_leaf}
use Rattle.demand3.specs.Handed.{Handed, level_count, leaves_on, listed, own_of, depth_of}
use Rattle.demand3.specs.Depths.{TreeDepths}
use Rattle.demand3.proofs.Unpack.{PackedIn, handed-levels, handed-leaves, handed-listed, handed-own, handed-depth}

-- ---- a packed tree

-- a level past the last has no leaves
none-hold : LevelHolds no_level
unfolding All NeverFalls
none-hold = record { never_fall = tt; at_most = tt; halved = tt }

module _ (d : ℕ) (ls : List Level) (h : Handed) (k : PackedIn d ls h) (holds : All LevelHolds ls) where
  level_holds : (l : ℕ) → LevelHolds (get_or ls l no_level)
  level_holds l =
      ⊎_elim
      (λ (past : length ls ≤ l). subst LevelHolds (sym (get_or-eq_default ls no_level past)) none-hold)
      (λ (in_tree : l < length ls). all-at LevelHolds ls l no_level holds in_tree)
      (le-or-lt (length ls) l)

  module _ (l : ℕ) where
    abbrev leaves : List Leaf
    leaves = (get_or ls l no_level).leaves

    inside : (i : ℕ) → i < leaves_on h l → i < length leaves
    inside i m = omega (arith, handed-leaves d ls h k l)

    depth_at : (i : ℕ) → i < length leaves → get_or (map (λ z. z.depth) (map leaf_sized leaves)) i 0 ≡ depth_of h l i
    depth_at i m =
        ap (λ (x : List ℕ). get_or x i 0) (map-map (λ (z : Sized). z.depth) leaf_sized leaves) ∙ get_d-map-in (λ (f : Leaf). f.depth) leaves i no_leaf 0 m
        ∙ sym (handed-depth d ls h k l i m)

    falls : (i : ℕ) → suc i < leaves_on h l → depth_of h l i ≤ depth_of h l (suc i)
    falls i m =
        let z = inside (suc i) m in
        let n : length (map (λ (z : Sized). z.depth) (map leaf_sized leaves)) ≡ length leaves = length-map (map leaf_sized leaves) (λ (z : Sized). z.depth) ∙ length-map leaves leaf_sized in
        omega (arith, depth_at i (omega arith), depth_at (suc i) z, falls_at 0 (map (λ (z : Sized). z.depth) (map leaf_sized leaves)) (level_holds l).never_fall i (omega arith))

    most : (i : ℕ) → i < leaves_on h l → depth_of h l i ≤ most_depth
    most i m =
        let z = inside i m in
        omega (arith, handed-depth d ls h k l i z, all-at (λ (f : Leaf). f.depth ≤ most_depth) leaves i no_leaf (map-all (λ (z : Sized). z.depth ≤ most_depth) leaf_sized leaves (level_holds l).at_most) z)

    sizes : (i : ℕ) → i < leaves_on h l → Halved (length (listed h l)) (depth_of h l i) (length (own_of h l i))
    sizes i m =
        let z = inside i m in
        let a = length (get_or ls l no_level).points in
        rw (handed-listed d ls h k l, handed-depth d ls h k l i z, handed-own d ls h k l i z)
        (all-at (λ (f : Leaf). Halved a f.depth (length f.own)) leaves i no_leaf (map-all (λ (z : Sized). Halved a z.depth z.size) leaf_sized leaves (level_holds l).halved) z)

  -- the lists have the depths, where the coarse domain is at depth 0
  pub depths-handed : 0 < length (get_or ls (length ls - 1) no_level).leaves → (get_or (get_or ls (length ls - 1) no_level).leaves 0 no_leaf).depth ≡ 0 → TreeDepths h
  depths-handed some root =
      let last : level_count h - 1 ≡ length ls - 1 = ap (λ (n : ℕ). n - 1) (handed-levels d ls h k) in
      record {
        each_level = λ l. record { never_fall = falls l; at_most = most l; holds = sizes l };
        coarse_zero = ap (λ (l : ℕ). depth_of h l 0) last ∙ handed-depth d ls h k (length ls - 1) 0 some ∙ root;
      }

-- ---- the levels of a tree
module _ (s : Settings) (cs : List Float) (pos : 0 < s.dimension) (lp : 1 ≤ s.leaf) where
  abbrev Rows : List ℕ → Type 0
  Rows active = Good s.dimension cs active × (length active ≤ most_points)

  stays : (active : List ℕ) (sent : List (List ℕ)) → Rows active → Rows (next_active active sent)
  stays active sent q = (next-good active sent s.dimension cs q.0, omega (arith, next-short active sent, q.1))

  -- every level of a tree over good rows
  pub levels-hold : (c k fuel built : ℕ) (active : List ℕ) → Good s.dimension cs active → length active ≤ most_points
      → All LevelHolds (levels_from s cs c k fuel built active)
  levels-hold c k fuel built active g few =
      levels-all s cs c k Rows stays LevelHolds (λ size active q many. fine-holds s cs pos lp size active q.0 q.1) (λ active q. coarse-holds s.dimension active) fuel built active (g, few)
