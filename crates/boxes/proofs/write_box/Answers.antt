-- `boxes::write_box` meets its contract. Assumes nothing.
use Rattle.boxes.proofs.Boxed.{box-written}
use Rattle.boxes.proofs.write_box.Goals as goal

pub returns : goal.returns
returns c = let a = c.args in
    let w = c.well_formed.0.1.1 in
    box-written a.bounds.now _ _ a.b w.0.1.0.1 w.1.0.1.0.1 c.requires.1 c.requires.0 c.copy_from_slice.ensures.after c.copy_from_slice-2.ensures.after
