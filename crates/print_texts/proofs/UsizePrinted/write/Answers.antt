-- A row's text is written. Assumes nothing.
use Rattle.bytes_out.proofs.Writing.{◌▸◌}
use Rattle.print_texts.proofs.UsizePrinted.write.Goals as goal

pub returns : goal.returns
returns c = c.byte.ensures ▸ c.write_decimal.ensures
