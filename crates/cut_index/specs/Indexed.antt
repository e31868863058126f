-- A record, and a filed one, by the value that holds its lists. Definitions only.
use Rattle.std.specs.Prelude.{ℕ, List}
use Rattle.definition.specs.Record.{Cuts}
use Rattle.cut_index.specs.Filed.{Filed}
use Rattle.cut_index.specs.Recorded.{Recorded}
use Rattle.cut_index.specs.declared.CutIndex.{CutIndex}
use Rattle.cut_index.specs.declared.CutRecord.{CutRecord}

-- all nodes of a domain whose record stands from `at` on, over these active rows
abbrev pub FiledBy : CutIndex → List ℕ → Cuts → ℕ → Type 0
FiledBy c active t at =
    Filed active c.cuts.now c.planes.now c.index.now c.leaves.internals.now c.leaves.domains.now c.leaves.first c.leaves.count c.from c.positions.now t at

-- the same before the index is made
abbrev pub RecordedBy : CutRecord → List ℕ → Cuts → ℕ → Type 0
RecordedBy c active t at =
    Recorded active c.cuts.now c.planes.now c.leaves.internals.now c.leaves.domains.now c.leaves.first c.leaves.count c.from c.positions.now t at
