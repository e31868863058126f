-- `store_records::put_point` meets its contract. Assumes nothing.
use mathlib.Core.Path.{sym}
use Rattle.bytes_out.proofs.Writing.{spelt_as, takes_as, takes_first, takes_next, ◌▸◌}
use Rattle.store_records.proofs.Parts.{point-parts}
use Rattle.store_records.proofs.put_point.Goals as goal

pub mark-requires : goal.mark-requires
mark-requires c = takes_first _ _ (takes_as (point-parts c.args.points.dimensions c.args.points.coordinates.now c.args.i c.requires.dimensions_in_bounds) c.requires.room_for)

pub fields-requires : goal.fields-requires
fields-requires c = rw c.point.ensures.coordinates (takes_next c.mark.ensures (takes_as (point-parts c.args.points.dimensions c.args.points.coordinates.now c.args.i c.requires.dimensions_in_bounds) c.requires.room_for))

pub returns : goal.returns
returns c = spelt_as (sym (point-parts c.args.points.dimensions c.args.points.coordinates.now c.args.i c.requires.dimensions_in_bounds)) (c.mark.ensures ▸ (rw c.point.ensures.coordinates at c.fields.ensures))
