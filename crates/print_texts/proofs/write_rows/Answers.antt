-- `print_texts::write_rows` meets its contract. Assumes nothing.
use Rattle.print_texts.proofs.Texts.{rows-dash, rows-listed}
use Rattle.bytes_out.proofs.Writing.{spelt_as, takes_as}
use mathlib.Core.Path.{sym}
use borrow.Author.Rules.{rules}
use Rattle.print_texts.proofs.write_rows.Goals as goal

pub text-requires : goal.text-requires
text-requires c = takes_as (rows-dash _ (search rules)) c.requires

pub returns-then-is_empty : goal.returns-then-is_empty
returns-then-is_empty c = spelt_as (sym (rows-dash _ (search rules))) c.text.ensures

pub write_each-requires : goal.write_each-requires
write_each-requires c = takes_as (rows-listed _ (search rules)) c.requires

pub returns : goal.returns
returns c = spelt_as (sym (rows-listed _ (search rules))) c.write_each.ensures
