-- `leaves::put_boxes` meets its contract. Assumes nothing.
use mathlib.Core.Path.{◌≡◌, ap}
use Prim.Native.Nat.{ℕ, ◌+◌, ◌*◌, ◌≤◌}
use native.Mathlib.Nat.{mul-add}
use native.Mathlib.Omega.{arith}
use lib.ListN.{length}
use Rattle.definition.specs.Points.{box_width_lem}
use Rattle.leaves.proofs.Place.{lent-back}
use Rattle.leaves.proofs.put_boxes.Goals as goal

pub returns : goal.returns
returns c = let a = c.args in
    let w = box_width_lem a.whole.dimensions in
    let at = c.bounds_before-at.result in
    let n = 2 * c.box_width-width.result in
    let start : at ≡ w * a.k = c.bounds_before-at.ensures in
    let wide : n ≡ 2 * w = ap (λ (x : ℕ). 2 * x) c.box_width-width.ensures in
    let fit : at + n ≤ length a.boxes.now = omega (arith, start, wide, mul-add w a.k 2, c.requires.2) in
    lent-back a.boxes.now _ _ at (w * a.k) n start fit c.write_halves.auto.bounds c.write_halves.ensures
