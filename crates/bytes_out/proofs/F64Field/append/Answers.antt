-- A float is appended. Assumes nothing.
use mathlib.Core.Path.{sym}
use Rattle.bytes_out.proofs.Bytes.{float-spelt}
use Rattle.bytes_out.proofs.Writing.{spelt_as, takes_as}
use Rattle.bytes_out.proofs.F64Field.append.Goals as goal

pub text-requires : goal.text-requires
text-requires c = takes_as (sym (float-spelt c.args.self _ _ c.bits_of.ensures c.to_le_bytes.ensures)) c.requires

pub returns : goal.returns
returns c = spelt_as (float-spelt c.args.self _ _ c.bits_of.ensures c.to_le_bytes.ensures) c.text.ensures
