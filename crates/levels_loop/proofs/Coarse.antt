-- The coarse level, packed. Assumes nothing.
-- Holds: coarse-points, coarse-own, coarse-borrowed, coarse-boxes, coarse-rows, coarse-row-count, coarse-domain-count
use mathlib.Core.Path.{◌≡◌, refl, ◌∙◌}
use mathlib.Core.List.{List, [], ◌∷◌, ◌++◌, map, append-nil}
use Prim.Native.Nat.{ℕ}
use lib.ListN.{length, replicate, replicate-append-replicate}
use Rattle.lists.specs.Lists.{joined}
use Rattle.definition.specs.Number.{plus_zero}
use Rattle.definition.specs.Tree.{Level, coarse_level_lem}
use Rattle.definition.specs.Points.{box_width_lem}
use Rattle.definition.specs.Packed.{row_floats_lem, leaves_in_lem, packed_level_points, packed_internals, packed_borrowed, packed_boxes, stretches}

module _ (d : ℕ) (active : List ℕ) where
  pub coarse-points : packed_level_points (coarse_level_lem d active ∷ []) ≡ active
  unfolding packed_level_points coarse_level_lem joined
  coarse-points = append-nil active

  pub coarse-own : packed_internals (coarse_level_lem d active ∷ []) ≡ active
  unfolding packed_internals leaves_in_lem coarse_level_lem joined
  coarse-own = append-nil active

  pub coarse-borrowed : packed_borrowed (coarse_level_lem d active ∷ []) ≡ []
  unfolding packed_borrowed leaves_in_lem coarse_level_lem joined
  coarse-borrowed = refl

  pub coarse-boxes : packed_boxes (coarse_level_lem d active ∷ []) ≡ replicate (row_floats_lem d) plus_zero
  unfolding packed_boxes leaves_in_lem coarse_level_lem joined
  coarse-boxes = append-nil (replicate (box_width_lem d) plus_zero ++ plus_zero ∷ []) ∙ replicate-append-replicate (box_width_lem d) 1 plus_zero

  pub coarse-rows : (a b : ℕ) → stretches a b (leaves_in_lem (coarse_level_lem d active ∷ [])) ≡ a ∷ length active ∷ b ∷ 0 ∷ 0 ∷ []
  unfolding stretches leaves_in_lem coarse_level_lem joined
  coarse-rows a b = refl

  pub coarse-row-count : map (λ (l : Level). length l.points) (coarse_level_lem d active ∷ []) ≡ length active ∷ []
  unfolding coarse_level_lem
  coarse-row-count = refl

  pub coarse-domain-count : map (λ (l : Level). length l.leaves) (coarse_level_lem d active ∷ []) ≡ 1 ∷ []
  unfolding coarse_level_lem
  coarse-domain-count = refl
