-- `covers::put_cover` meets its contract. Assumes nothing.
use mathlib.Core.Path.{ap, ◌∙◌}
use Prim.Native.Nat.{ℕ, ◌+◌, ◌*◌, ◌≤◌}
use native.Mathlib.Omega.{arith}
use native.Mathlib.Nat.{mul-add, mul-le-mul_right}
use lib.ListN.{length}
use Rattle.lists.specs.Lists.{part, put}
use Rattle.lists.proofs.Put.{length_part, part-back, part-lent, put-snoc}
use Rattle.definition.specs.Points.{box_width_lem}
use Rattle.definition.specs.Packed.{row_floats_lem}
use Rattle.covers.proofs.put_cover.Goals as goal

pub returns : goal.returns
returns c = let P = c.args in
    let d = P.dimensions in
    let w = box_width_lem d in
    let from = P.start + w * P.l in
    let to = P.start + row_floats_lem d * P.l in
    let lent = P.start + c.floats_before.result in
    let wide = c.box_width-width in
    let fits : from + w ≤ length P.boxes.now = omega (arith, c.requires.1, mul-add (row_floats_lem d) P.l 1, before d P.l) in
    let room : lent + wide.result ≤ length P.boxes.now = rw (wide.ensures, c.floats_before.ensures) (omega (arith, c.requires.1, mul-add (row_floats_lem d) P.l 1)) in
    let long = c.write_box.auto.bounds ∙ ap length (part-lent P.boxes.now lent wide.result) ∙ length_part P.boxes.now lent wide.result room in
    let wrote = c.write_box.ensures ∙ c.read_box-whole.ensures.1 ∙ part-lent P.boxes.now (P.start + c.bounds_before.result) wide.result in
    let moved = part-back P.boxes.now lent wide.result _ long ∙ ap (put P.boxes.now lent) wrote in
    rw (moved, c.floats_before.ensures, c.bounds_before.ensures, wide.ensures)
    (put-snoc P.boxes.now to (part P.boxes.now from w) P.cover (to + w) (omega (arith, length_part P.boxes.now from w fits)) (omega (arith, c.requires.1, mul-add (row_floats_lem d) P.l 1)))
  where
    before : (d l : ℕ) → box_width_lem d * l ≤ row_floats_lem d * l
    before d l = mul-le-mul_right l (more (box_width_lem d))
      where
        more : (w : ℕ) → w ≤ w + 1
        more w = omega arith
