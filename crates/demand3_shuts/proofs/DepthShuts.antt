-- What the record of a tree's depths shuts out: for each of its fields lists that are wrong in one depth, and that this field refuses. Each
-- is computed. Assumes nothing.
-- Holds: not-falling, not-too-deep, not-too-shallow, not-too-many, not-coarse-deep
use Prim.Native.Nat.{ℕ, ◌≤◌}
use mathlib.Core.Path.{◌≡◌}
use mathlib.Core.Logic.{⊎_elim}
use mathlib.Core.List.{[], ◌∷◌}
use native.Mathlib.Omega.{arith}
use Rattle.demand3.specs.Depths.{TreeDepths}
use Rattle.demand3_shuts.proofs.RightLists.{all-open, in_lists, counts, level_points, internals, boxes, borrowed, domains_with, domains-but}

-- the right half of each cut is said to be one deeper than the left one, so depths fall
pub not-falling : TreeDepths (domains-but (domains_with 2 3 2 3 0)) → ⊥
unfolding all-open
not-falling h = let e : 3 ≤ 2 = (h.each_level 0).never_fall 1 (omega arith) in omega arith

-- a leaf at depth 22: it would have none of the four rows, or one
pub not-too-deep : TreeDepths (domains-but (domains_with 2 2 2 22 0)) → ⊥
unfolding all-open
not-too-deep h = let e : 22 ≤ 21 = (h.each_level 0).at_most 3 (omega arith) in omega arith

-- at depth 1 a leaf has two of the four rows, or three, and not one
pub not-too-shallow : TreeDepths (domains-but (domains_with 1 2 2 2 0)) → ⊥
unfolding all-open
not-too-shallow h =
    ⊎_elim (λ (e : ◌≡◌ {A = ℕ} 1 2). omega arith) (λ (e : ◌≡◌ {A = ℕ} 1 3). omega arith) ((h.each_level 0).holds 0 (omega arith))

-- three rows at depth 2, where one of four is due, or two
pub not-too-many : TreeDepths (in_lists level_points internals (0 ∷ 3 ∷ 0 ∷ 1 ∷ 2 ∷ 3 ∷ 1 ∷ 1 ∷ 2 ∷ 2 ∷ 4 ∷ 2 ∷ 6 ∷ 0 ∷ 0 ∷ []) boxes borrowed (counts 2 (4 ∷ 2 ∷ 0 ∷ 0 ∷ []) (2 ∷ 1 ∷ 0 ∷ 0 ∷ []))) → ⊥
unfolding all-open
not-too-many h =
    ⊎_elim (λ (e : ◌≡◌ {A = ℕ} 3 1). omega arith) (λ (e : ◌≡◌ {A = ℕ} 3 2). omega arith) ((h.each_level 0).holds 0 (omega arith))

-- the coarse domain at depth 1
pub not-coarse-deep : TreeDepths (domains-but (domains_with 2 2 2 2 1)) → ⊥
unfolding all-open
not-coarse-deep h = let e : ◌≡◌ {A = ℕ} 1 0 = h.coarse_zero in omega arith
