-- The depths of a tree's leaves, and how the size of a leaf follows from its depth. This speaks of the lists and counts alone: one record for
-- what either engine builds, and for a tree that was loaded. Definitions only.
use Rattle.std.specs.Prelude.{ℕ, suc, ◌+◌, ◌-◌, ◌/◌, ◌^◌, ◌≤◌, ◌<◌, ◌≡◌, ◌⊎◌, length}
use Rattle.definition.specs.Tree.{most_depth}
use Rattle.demand3.specs.Handed.{Handed, level_count, leaves_on, listed, own_of, depth_of}

-- level l
pub record LevelDepths (h : Handed) (l : ℕ) : Type 0 where
  -- in row order depths never fall
  pub never_fall : (i : ℕ) → suc i < leaves_on h l → depth_of h l i ≤ depth_of h l (suc i)
  -- none is above 21
  pub at_most : (i : ℕ) → i < leaves_on h l → depth_of h l i ≤ most_depth
  -- a leaf at depth e in a level of a rows holds a / 2^e of them, rounded down, or one more
  pub holds : (i : ℕ) → i < leaves_on h l
      → (length (own_of h l i) ≡ length (listed h l) / 2 ^ depth_of h l i) ⊎ (length (own_of h l i) ≡ length (listed h l) / 2 ^ depth_of h l i + 1)

-- every level; and the coarse domain is at depth 0
pub record TreeDepths (h : Handed) : Type 0 where
  pub each_level : (l : ℕ) → LevelDepths h l
  pub coarse_zero : depth_of h (level_count h - 1) 0 ≡ 0
