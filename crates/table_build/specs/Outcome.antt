-- The outcome of a build over the live slots of a table. Definitions only.
use Rattle.std.specs.Prelude.{ℕ, List, Float, ◌≡◌}
use Rattle.definition.specs.Tree.{Settings}
use Rattle.definition.specs.Packed.{Counts}
use Rattle.definition.specs.Refusals.{accepted}
use Rattle.definition.specs.Outcome.{Answer, TreeLists, RecordLists, RoomAfter}
use Rattle.definition.specs.Table.{Table}
use Rattle.definition.specs.Slots.{rows_of, slots_call, slots_answer, slots_lists, slots_records}
use Rattle.demand3.specs.Handed.{handed}
use Rattle.demand3.specs.Demand3.{Demand3Over}
use Rattle.demand3.specs.Depths.{TreeDepths}

-- The complete outcome of a call: its answer, the five lists, the two lists of the records, and the working room; and, of an accepted
-- call, demand 3 of what it hands back, over the live slots, and its leaves' depths. A list named with a prime is the list after the call.
pub record BuiltSlots (s : Settings) (t : Table) (old new : TreeLists) (floats floats' : List Float) (wholes wholes' : List ℕ)
    (records-old records-new : RecordLists) (answer : Answer Counts) : Type 0 where
  pub answers : answer ≡ slots_answer s t old floats wholes records-old
  pub lists : new ≡ slots_lists s t old floats wholes records-old
  pub records : records-new ≡ slots_records s t old floats wholes records-old
  pub floats_free : RoomAfter (slots_call s t old floats wholes records-old) floats floats'
  pub wholes_free : RoomAfter (slots_call s t old floats wholes records-old) wholes wholes'
  pub demand3 : slots_call s t old floats wholes records-old ≡ accepted → Demand3Over s t.coordinates (rows_of t) (handed answer new)
  pub depths : slots_call s t old floats wholes records-old ≡ accepted → TreeDepths (handed answer new)
