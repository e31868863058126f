-- `leaves::box_at` meets its contract. Assumes nothing.
use mathlib.Core.Path.{ap₂, ◌∙◌}
use Rattle.lists.specs.Lists.{part}
use Rattle.lists.proofs.Put.{part-lent}
use Rattle.leaves.proofs.box_at.Goals as goal

pub returns : goal.returns
returns c = let read = c.read_box.ensures in
    let boxes = c.args.boxes.now in
    (read.0, read.1 ∙ part-lent boxes c.bounds_before-at.result c.box_width-width.result ∙ ap₂ (part boxes) c.bounds_before-at.ensures c.box_width-width.ensures)
