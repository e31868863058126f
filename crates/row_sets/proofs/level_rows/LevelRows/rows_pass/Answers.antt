-- `LevelRows::rows_pass` meets its contract: each way out has its law. Assumes nothing.
use borrow.Author.Rules.{rules}
use Rattle.row_sets.proofs.RowTests.{own-fail, own-markable, borrowed-fail, rows-good}
use Rattle.row_sets.proofs.level_rows.LevelRows.rows_pass.Goals as goal

pub returns-then-not-take_rows-clause-tested : goal.returns-then-not-take_rows-clause-tested
returns-then-not-take_rows-clause-tested g c = own-fail _ _ _ _ _ _ c.requires c.take_rows.ensures c.if-not-take_rows.true _

pub returns-then-not-rows_marked-clause-tested : goal.returns-then-not-rows_marked-clause-tested
returns-then-not-rows_marked-clause-tested g c =
    borrowed-fail _ _ _ _ _ _ c.requires c.take_rows.ensures c.if-not-take_rows.false _ _ c.rows_marked.ensures c.if-not-rows_marked.true

pub mark_rows-requires : goal.mark_rows-requires
mark_rows-requires g c = own-markable _ _ _ _ _ _ c.requires c.take_rows.ensures c.if-not-take_rows.false (search rules)

pub returns-clause-tested : goal.returns-clause-tested
returns-clause-tested g c =
    rows-good _ _ _ _ _ _ c.requires c.take_rows.ensures c.if-not-take_rows.false _ _ c.rows_marked.ensures c.if-not-rows_marked.false _ c.mark_rows.ensures
