-- A level's record that is filed, so that its rows can be searched. Definitions only.
use Rattle.std.specs.Prelude.{ℕ, List, Float}
use Rattle.lists.specs.Same.{Same}
use Rattle.definition.specs.Points.{extents}
use Rattle.definition.specs.Record.{Cuts}
use Rattle.record_laws.specs.Table.{rows_under}
use Rattle.gap_laws.specs.Boxed.{Boxed}
use Rattle.cut_index.specs.Filed.{Filed}

-- the lists hold the record, the index and the leaves of a domain that has the active rows, and whose boxes hold them, from their extents down
abbrev pub LevelFiled : ℕ → List Float → List ℕ → List ℕ → List Float → List ℕ → List ℕ → List ℕ → ℕ → ℕ → ℕ → List ℕ → Type 0
LevelFiled d cs active cuts planes index I D first m from positions =
    (t : Cuts) × Filed active cuts planes index I D first m from positions t 0 × Boxed d cs (extents d cs active) t × Same (rows_under t) active
