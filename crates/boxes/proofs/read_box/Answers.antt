-- `boxes::read_box` meets its contract. Assumes nothing.
use mathlib.Core.Path.{refl}
use Rattle.boxes.proofs.Boxed.{box_read}
use Rattle.boxes.proofs.read_box.Goals as goal

pub returns : goal.returns
returns c = let a = c.args in
    (refl, box_read a.bounds.now _ _ _ _ a.dimensions c.requires.0 c.copy_from_slice.ensures.after c.copy_from_slice-2.ensures.after)
