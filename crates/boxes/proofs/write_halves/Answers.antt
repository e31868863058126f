-- `boxes::write_halves` meets its contract. Assumes nothing.
use mathlib.Core.Path.{◌∙◌}
use Prim.Native.Nat.{◌+◌}
use Rattle.boxes.specs.Boxes.{floats_of}
use Rattle.boxes.proofs.Halves.{length-floats, two-boxes}
use Rattle.boxes.proofs.write_halves.Goals as goal

pub returns : goal.returns
returns c = let a = c.args in
    let b = a.whole in
    let g = c.well_formed.0.1.1 in
    let h = c.halves.ensures in
    let w = length-floats b g.0.1.0.1 g.1.0.1.0.1 c.requires.1 in
    two-boxes a.bounds.now _ _ (floats_of b) b.dimensions _ (b.dimensions + a.axis) a.axis a.plane c.box_width-width.ensures w c.requires.2
    (c.write_box.ensures ∙ h.left.1) (c.write_box-2.ensures ∙ h.right.1)
