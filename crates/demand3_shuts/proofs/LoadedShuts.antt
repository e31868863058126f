-- What the rules of a loaded tree shut out: for each field of `LoadedTree` lists or counts that are wrong in one thing, and that this
-- field refuses. Lists that have demand 3 have the rules. Each is computed. Assumes nothing.
-- Holds: right-loaded, not-loaded-empty, not-loaded-many, not-loaded-partial, not-loaded-shared, not-loaded-foreign,
--   not-loaded-own, not-loaded-twice, not-loaded-elsewhere, not-loaded-repeated, not-loaded-again, not-loaded-two-last,
--   not-loaded-last-other, not-loaded-last-borrowing, not-loaded-last-boxed, not-loaded-counted, not-loaded-beyond
use Prim.Native.Nat.{ℕ, ◌≤◌, ◌<◌}
use mathlib.Core.Path.{◌≡◌, refl, ap}
use mathlib.Core.List.{List, [], ◌∷◌}
use native.Mathlib.Omega.{arith}
use lib.ListN.{length, get_or, replicate}
use lib.Ieee.{Float, nan, binary64, to_bits}
use Rattle.definition.specs.Number.{plus_zero, plus_infinity}
use Rattle.definition.proofs.WorkedSamples.{line}
use Rattle.demand3.specs.LoadedTree.{LoadedTree}
use Rattle.demand3.proofs.Loaded.{demand-3-loaded}
use Rattle.demand3_shuts.proofs.RightLists.{all-open, four, set, in_lists, counts, level_points, two, right, right-has-it, level-points-but, internals-but, domains-but, boxes_with, boxes-but, borrowed-but}

-- the right lists: four rows on one axis
pub right-loaded : LoadedTree 1 4 right
unfolding all-open
right-loaded = demand-3-loaded set four right right-has-it

-- no level, and five
pub not-loaded-empty : LoadedTree 1 4 (in_lists [] [] [] [] [] (counts 0 (replicate 4 0) (replicate 4 0))) → ⊥
not-loaded-empty h = omega (arith, h.some_level)

pub not-loaded-many : LoadedTree 1 4 (level-points-but level_points (counts 5 (4 ∷ 2 ∷ 0 ∷ 0 ∷ []) (4 ∷ 1 ∷ 0 ∷ 0 ∷ []))) → ⊥
not-loaded-many h = let e : 5 ≤ 4 = h.few_levels in omega arith

-- the first level leaves a row out
pub not-loaded-partial : LoadedTree 1 4 (level-points-but (0 ∷ 1 ∷ 3 ∷ 0 ∷ 1 ∷ []) (counts 2 (3 ∷ 2 ∷ 0 ∷ 0 ∷ []) (4 ∷ 1 ∷ 0 ∷ 0 ∷ []))) → ⊥
unfolding all-open
not-loaded-partial h = let e : ◌≡◌ {A = ℕ} 3 4 = ap length h.first_lists_all in omega arith

-- a row is internal to two leaves; one that isn't listed is internal to a leaf
pub not-loaded-shared : LoadedTree 1 4 (internals-but (0 ∷ 1 ∷ 2 ∷ 2 ∷ 0 ∷ 1 ∷ [])) → ⊥
unfolding all-open
not-loaded-shared h = let e : ◌≡◌ {A = ℕ} 2 1 = (h.each_rows 0 (omega arith)).internal_once 2 (omega arith) in omega arith

pub not-loaded-foreign : LoadedTree 1 4 (internals-but (0 ∷ 1 ∷ 2 ∷ 8 ∷ 0 ∷ 1 ∷ [])) → ⊥
unfolding all-open
not-loaded-foreign h = let e : ◌≡◌ {A = ℕ} 1 0 = (h.each_rows 0 (omega arith)).internal_none 8 refl in omega arith

-- a leaf borrows its own row; one borrows a row twice
pub not-loaded-own : LoadedTree 1 4 (borrowed-but (0 ∷ 0 ∷ 2 ∷ 1 ∷ 3 ∷ 2 ∷ [])) → ⊥
unfolding all-open
not-loaded-own h = let e : ◌≡◌ {A = ℕ} 1 0 = (h.each_rows 0 (omega arith)).borrows_not_own 0 (omega arith) 0 (omega arith) in omega arith

pub not-loaded-twice : LoadedTree 1 4 (borrowed-but (1 ∷ 2 ∷ 2 ∷ 1 ∷ 3 ∷ 2 ∷ [])) → ⊥
unfolding all-open
not-loaded-twice h = let e : 2 ≤ 1 = (h.each_rows 0 (omega arith)).borrows_once 1 (omega arith) 2 in omega arith

-- the next level lists a row that the level above doesn't, a row twice, or all rows again
pub not-loaded-elsewhere : LoadedTree 1 4 (level-points-but (0 ∷ 1 ∷ 2 ∷ 3 ∷ 0 ∷ 8 ∷ []) two) → ⊥
unfolding all-open
not-loaded-elsewhere h = let e : 0 < 0 = (h.each_next 0 (omega arith)).from_this 8 (omega arith) in omega arith

pub not-loaded-repeated : LoadedTree 1 4 (level-points-but (0 ∷ 1 ∷ 2 ∷ 3 ∷ 0 ∷ 0 ∷ []) two) → ⊥
unfolding all-open
not-loaded-repeated h = let e : 2 ≤ 1 = (h.each_next 0 (omega arith)).each_once 0 in omega arith

pub not-loaded-again : LoadedTree 1 4 (level-points-but (0 ∷ 1 ∷ 2 ∷ 3 ∷ 0 ∷ 1 ∷ 2 ∷ 3 ∷ []) (counts 2 (4 ∷ 4 ∷ 0 ∷ 0 ∷ []) (4 ∷ 1 ∷ 0 ∷ 0 ∷ []))) → ⊥
unfolding all-open
not-loaded-again h = let e : 4 < 4 = (h.each_next 0 (omega arith)).fewer in omega arith

-- the last level has two domains; its domain holds other rows than it lists; its domain borrows a row; it has a box
pub not-loaded-two-last : LoadedTree 1 4 (level-points-but level_points (counts 2 (4 ∷ 2 ∷ 0 ∷ 0 ∷ []) (4 ∷ 2 ∷ 0 ∷ 0 ∷ []))) → ⊥
unfolding all-open
not-loaded-two-last h = let e : ◌≡◌ {A = ℕ} 2 1 = h.last_single.one_domain in omega arith

pub not-loaded-last-other : LoadedTree 1 4 (internals-but (0 ∷ 1 ∷ 2 ∷ 3 ∷ 0 ∷ 2 ∷ [])) → ⊥
unfolding all-open
not-loaded-last-other h = let e : ◌≡◌ {A = ℕ} 2 1 = ap (λ (x : List ℕ). get_or x 1 9) h.last_single.holds_all in omega arith

pub not-loaded-last-borrowing : LoadedTree 1 4 (domains-but (0 ∷ 1 ∷ 0 ∷ 1 ∷ 2 ∷ 1 ∷ 1 ∷ 1 ∷ 2 ∷ 2 ∷ 2 ∷ 1 ∷ 3 ∷ 2 ∷ 2 ∷ 3 ∷ 1 ∷ 5 ∷ 1 ∷ 2 ∷ 4 ∷ 2 ∷ 5 ∷ 1 ∷ 0 ∷ [])) → ⊥
unfolding all-open
not-loaded-last-borrowing h = let e : ◌≡◌ {A = ℕ} 1 0 = ap length h.last_single.borrows_none in omega arith

pub not-loaded-last-boxed : LoadedTree 1 4 (boxes-but (boxes_with plus_zero plus_infinity (line (0 ∷ 1 ∷ 0 ∷ [])))) → ⊥
unfolding all-open
not-loaded-last-boxed h = let e : ◌≡◌ {A = ℕ} 0x3ff0000000000000 0 = ap (λ (x : List Float). to_bits binary64 (get_or x 1 nan)) h.last_single.no_box in omega arith

-- a count goes past its list; leaves are counted beyond the last level
pub not-loaded-counted : LoadedTree 1 4 (level-points-but level_points (counts 2 (4 ∷ 30 ∷ 0 ∷ 0 ∷ []) (4 ∷ 1 ∷ 0 ∷ 0 ∷ []))) → ⊥
unfolding all-open
not-loaded-counted h = let e : ◌≡◌ {A = ℕ} 12 30 = (h.counted 1).of_level in omega arith

pub not-loaded-beyond : LoadedTree 1 4 (level-points-but level_points (counts 2 (4 ∷ 2 ∷ 0 ∷ 0 ∷ []) (4 ∷ 1 ∷ 1 ∷ 0 ∷ []))) → ⊥
not-loaded-beyond h = let e : ◌≡◌ {A = ℕ} 1 0 = (h.none_beyond 2 (omega arith)).1 in omega arith
