-- `Writer::mark` meets its contract. Assumes nothing.
use mathlib.Core.Path.{sym}
use borrow.Author.Rules.{rules}
use Rattle.bytes_out.proofs.Bytes.{mark-spelt}
use Rattle.bytes_out.proofs.Writing.{spelt_as, takes_as}
use Rattle.bytes_out.proofs.writer.Writer.mark.Goals as goal

pub text-requires : goal.text-requires
text-requires c = takes_as (sym (mark-spelt _ (search rules))) c.requires

pub returns : goal.returns
returns c = spelt_as (mark-spelt _ (search rules)) c.text.ensures
