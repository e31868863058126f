-- `cut::cut_stretch` meets its contract. Assumes nothing.
use mathlib.Core.Path.{◌∙◌}
use Rattle.rows.proofs.Good.{good-inside}
use Rattle.cut.proofs.Stretch.{axis_in, value_in, plane-value}
use Rattle.cut.proofs.cut_stretch.Goals as goal

pub longest_axis-axis-requires : goal.longest_axis-axis-requires
longest_axis-axis-requires c = let p = c.requires in (p.0, p.1, good-inside _ p.2)

pub halves-row-requires : goal.halves-row-requires
halves-row-requires c = let p = c.requires in
    rw c.column-column.ensures (axis_in p.0 p.2 c.longest_axis-axis.ensures, p.1, p.2, p.3)

pub at-value-requires : goal.at-value-requires
at-value-requires c = let p = c.requires in
    let e = c.column-column.ensures in
    rw e (value_in p.0 p.2 c.longest_axis-axis.ensures (rw e at c.halves-row.ensures.row))

pub returns : goal.returns
returns c = let h = c in
    let p = h.requires in
    let x = h.longest_axis-axis.ensures in
    let k = h.column-column.ensures in
    let e = rw k at h.halves-row.ensures in
    record {
      rows = rw x at e.rows;
      room = e.room;
      plane = (x, (rw k at h.at-value.ensures) ∙ plane-value p.0 p.2 x e.row);
    }
