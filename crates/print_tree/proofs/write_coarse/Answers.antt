-- `print_tree::write_coarse` meets its contract. Assumes nothing.
use Rattle.bytes_out.proofs.Writing.{takes_first, takes_next, ◌▸◌}
use Rattle.print_tree.specs.Unpack.{coarse_level_text}
use Rattle.print_tree.proofs.write_coarse.Goals as goal

pub write_level-requires : goal.write_level-requires
unfolding coarse_level_text
write_level-requires c = takes_first _ _ c.requires.room_for

pub write_leaf-requires : goal.write_leaf-requires
unfolding coarse_level_text
write_leaf-requires c = record { row_fits = c.requires.row_fits; room_for = takes_next c.write_level.ensures c.requires.room_for }

pub returns : goal.returns
unfolding coarse_level_text
returns c = c.write_level.ensures ▸ c.write_leaf.ensures
