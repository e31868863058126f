-- `packed::Packed::leaf` meets its contract. Assumes nothing.
use Rattle.packed.proofs.Leaves.{leaf-lent}
use Rattle.packed.specs.View.{packed_of}
use Rattle.packed.proofs.Packed.leaf.Goals as goal

pub returns : goal.returns
returns c = leaf-lent (packed_of c.args.self) c.args.j _ c.read_row-row.ensures _ _ c.floats_before-start.ensures c.box_width.ensures c.requires
