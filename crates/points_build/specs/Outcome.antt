-- The outcome of a build over all points. Definitions only.
use Rattle.std.specs.Prelude.{ℕ, List, Float, ◌≡◌}
use Rattle.definition.specs.Tree.{Settings}
use Rattle.definition.specs.Packed.{Counts}
use Rattle.definition.specs.Refusals.{accepted}
use Rattle.definition.specs.Outcome.{Answer, TreeLists, RecordLists, build_call, build_answer, build_lists, build_records, RoomAfter}
use Rattle.demand3.specs.Handed.{handed}
use Rattle.demand3.specs.Demand3.{Demand3}
use Rattle.demand3.specs.Depths.{TreeDepths}

-- The complete outcome of a call: its answer, the five lists, the two lists of the records, and the working room; and, of an accepted
-- call, demand 3 of what it hands back, and its leaves' depths. A list named with a prime is the list after the call.
pub record Built (s : Settings) (cs : List Float) (old new : TreeLists) (floats floats' : List Float) (wholes wholes' : List ℕ)
    (records-old records-new : RecordLists) (answer : Answer Counts) : Type 0 where
  pub answers : answer ≡ build_answer s cs old floats wholes records-old
  pub lists : new ≡ build_lists s cs old floats wholes records-old
  pub records : records-new ≡ build_records s cs old floats wholes records-old
  pub floats_free : RoomAfter (build_call s cs old floats wholes records-old) floats floats'
  pub wholes_free : RoomAfter (build_call s cs old floats wholes records-old) wholes wholes'
  pub demand3 : build_call s cs old floats wholes records-old ≡ accepted → Demand3 s cs (handed answer new)
  pub depths : build_call s cs old floats wholes records-old ≡ accepted → TreeDepths (handed answer new)
