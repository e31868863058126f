-- The two products in the length of a file, for counts that a sound tree can have: no sum of them wraps. Assumes nothing.
use Prim.Native.Nat.{ℕ, ◌-◌, ◌*◌, ◌≤◌}
use native.Mathlib.Nat.{mul-le-mul}
use native.Mathlib.Omega.{arith}
use mathlib.Core.Path.{◌≡◌}
use Rattle.definition.specs.Points.{box_width_lem}
use Rattle.definition.specs.Refusals.{most_points}
use Rattle.formats.specs.Bytes.{float_size}
use Rattle.formats.specs.Stream.{point_size_lem}
use Rattle.store.specs.Limits.{Limited}

module _ {d n levels rows domains borrowed : ℕ} (h : Limited d n levels rows domains borrowed) where
  -- the bytes of the points, of w each
  pub points-most : (w : ℕ) → w ≡ point_size_lem d → n * w ≤ most_points * point_size_lem 3
  points-most w e = let a : w ≤ point_size_lem 3 = omega (arith, h.axes) in mul-le-mul h.points a

  -- the bytes of the boxes, of w bounds each
  pub boxes-most : (w : ℕ) → w ≡ box_width_lem d → float_size * w * (domains - 1) ≤ float_size * box_width_lem 3 * (6 * most_points)
  boxes-most w e =
      let a : float_size * w ≤ float_size * box_width_lem 3 = omega (arith, h.axes) in
      let b : domains - 1 ≤ 6 * most_points = omega (arith, h.points, h.domains_few) in
      mul-le-mul a b
