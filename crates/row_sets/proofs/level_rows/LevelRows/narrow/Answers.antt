-- `LevelRows::narrow` meets its contract: rows that pass can be marked in a cleared set. Assumes nothing.
use borrow.Author.Rules.{rules}
use Rattle.row_sets.proofs.PutBack.{passed-markable}
use Rattle.row_sets.proofs.level_rows.LevelRows.narrow.Goals as goal

pub mark_rows-requires : goal.mark_rows-requires
mark_rows-requires g c = passed-markable _ c.args.self.now.listed.now _ _ (search rules) c.rows_marked.ensures c.if-not-rows_marked.false c.clear.ensures
