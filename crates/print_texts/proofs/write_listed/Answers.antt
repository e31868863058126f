-- `print_texts::write_listed` meets its contract. Assumes nothing.
use Rattle.bytes_out.proofs.Writing.{takes_first, takes_next, ◌▸◌}
use Rattle.print_texts.proofs.write_listed.Goals as goal

pub text-requires : goal.text-requires
text-requires c = takes_first _ _ c.requires

pub write_rows-requires : goal.write_rows-requires
write_rows-requires c = takes_next c.text.ensures c.requires

pub returns : goal.returns
returns c = c.text.ensures ▸ c.write_rows.ensures
