-- A number is appended. Assumes nothing.
use mathlib.Core.Path.{sym}
use Rattle.bytes_out.proofs.Bytes.{number-spelt}
use Rattle.bytes_out.proofs.Writing.{spelt_as, takes_as}
use Rattle.bytes_out.proofs.UsizeField.append.Goals as goal

pub text-requires : goal.text-requires
text-requires c = takes_as (sym (number-spelt c.args.self _ c.to_le_bytes.ensures)) c.requires

pub returns : goal.returns
returns c = spelt_as (number-spelt c.args.self _ c.to_le_bytes.ensures) c.text.ensures
