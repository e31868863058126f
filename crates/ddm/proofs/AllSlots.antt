-- Over a table that 27 passes, whose slots are all live and fill its capacity, with the coordinates of exactly that many points, the build
-- over slots hands back what the build does: the same answer, place and counts, and every list, those of the records too. Assumes nothing.
use mathlib.Core.Path.{◌≡◌, sym, ◌∙◌}
use mathlib.Core.List.{List}
use Prim.Native.Nat.{ℕ, ◌*◌}
use lib.ListN.{length}
use lib.Ieee.{Float}
use Rattle.definition.specs.Tree.{Settings}
use Rattle.definition.specs.Packed.{Counts}
use Rattle.definition.specs.Outcome.{Answer, TreeLists, RecordLists}
use Rattle.definition.specs.Table.{Table, capacity}
use Rattle.table_laws.proofs.Live.{Sound}
use Rattle.table_laws.proofs.AllLive.{same-answers, same_lists, same-records}
use Rattle.table_build.specs.Outcome.{BuiltSlots}
use Rattle.points_build.specs.Outcome.{Built}

pub slots-are-build : (s : Settings) (t : Table) → Sound t → t.head.live ≡ t.head.slots → capacity t.flags ≡ t.head.slots
    → length t.coordinates ≡ t.head.slots * s.dimension
    → (old : TreeLists) (floats : List Float) (wholes : List ℕ) (records : RecordLists) {new lists : TreeLists} {floats' floats'' : List Float} {wholes' wholes'' : List ℕ} {records' records'' : RecordLists} {answer said : Answer Counts}
    → Built s t.coordinates old new floats floats' wholes wholes' records records' answer → BuiltSlots s t old lists floats floats'' wholes wholes'' records records'' said
    → (said ≡ answer) × ((lists ≡ new) × (records'' ≡ records'))
slots-are-build s t sound live filled exact old floats wholes records b o = (
  o.answers ∙ same-answers s t sound live filled exact old floats wholes records ∙ sym b.answers,
  (
    o.lists ∙ same_lists s t sound live filled exact old floats wholes records ∙ sym b.lists,
    o.records ∙ same-records s t sound live filled exact old floats wholes records ∙ sym b.records,
  ),
)
