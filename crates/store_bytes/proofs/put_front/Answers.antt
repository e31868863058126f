-- `store_bytes::put_front` meets its contract. Assumes nothing.
use Rattle.bytes_out.proofs.Writing.{takes_first, takes_next, ◌▸◌}
use Rattle.stored.specs.File.{front_bytes_lem}
use Rattle.store_bytes.proofs.put_front.Goals as goal

pub put_head-requires : goal.put_head-requires
unfolding front_bytes_lem
put_head-requires c = rw c.count-n.ensures (takes_first _ _ c.requires.room_for)

pub put_points-requires : goal.put_points-requires
unfolding front_bytes_lem
put_points-requires c = record {
  dimensions_nonzero = c.requires.le_dimensions.0;
  room_for = takes_next (rw c.count-n.ensures at c.put_head.ensures) c.requires.room_for;
}

pub returns : goal.returns
unfolding front_bytes_lem
returns c = (rw c.count-n.ensures at c.put_head.ensures) ▸ c.put_points.ensures
