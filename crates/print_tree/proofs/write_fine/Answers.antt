-- `print_tree::write_fine` meets its contract. Assumes nothing.
use Rattle.bytes_out.proofs.Writing.{takes_first, takes_next, ◌▸◌}
use Rattle.print_tree.specs.Unpack.{fine_level_text}
use Rattle.print_tree.proofs.write_fine.Goals as goal

pub write_level-requires : goal.write_level-requires
unfolding fine_level_text
write_level-requires c = takes_first _ _ c.requires.room_for

pub write_leaves-requires : goal.write_leaves-requires
unfolding fine_level_text
write_leaves-requires c = record { by_index = c.requires.by_index; room_for = takes_next c.write_level.ensures c.requires.room_for }

pub returns : goal.returns
unfolding fine_level_text
returns c = c.write_level.ensures ▸ c.write_leaves.ensures
