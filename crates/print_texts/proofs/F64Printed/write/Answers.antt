-- A float's text is written. Assumes nothing.
use Rattle.print_texts.proofs.Digits.{bits-text}
use Rattle.bytes_out.proofs.Writing.{spelt_as, ◌▸◌}
use mathlib.Core.Path.{sym}
use Rattle.print_texts.proofs.F64Printed.write.Goals as goal

pub returns : goal.returns
returns c = c.byte.ensures ▸ spelt_as (sym (bits-text _ _ c.bits_of.ensures)) c.write_hex.ensures
