-- The two sets that a caller lends, and that the same ones are lent on. Definitions only.
use Rattle.std.specs.Prelude.{◌≡◌, length}
use Rattle.row_sets.specs.declared.level_rows.LevelRows.{LevelRows}

-- both hold the same two sets, each as long as it was
pub record SameSets (l m : LevelRows) : Type 0 where
  pub left : m.left.ghost_name ≡ l.left.ghost_name
  pub left_len : length m.left.now ≡ length l.left.now
  pub listed : m.listed.ghost_name ≡ l.listed.ghost_name
  pub listed_len : length m.listed.now ≡ length l.listed.now
