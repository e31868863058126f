-- What a table has that passes the tests that every edit tries first. Assumes nothing.
use mathlib.Core.Path.{◌≡◌}
use Prim.Native.Nat.{ℕ, ◌*◌, ◌≤◌}
use native.Mathlib.Omega.{arith}
use borrow.Author.Tests.{ltb-false}
use lib.ListN.{length}
use Rattle.definition.specs.Refusals.{accepted, on, verdict, wrong_dimension_lem}
use Rattle.definition.specs.Table.{Table, capacity, unsound, coordinates_short, table_tests}
use Rattle.definition_laws.proofs.Accepted.{passes, right-dimension}
use Rattle.table_laws.proofs.Live.{SoundTable, sound-table, live-few}

-- ---- what a table has that passes
pub record Editable (d : ℕ) (t : Table) : Type 0 where
  pub axes : 1 ≤ d
  pub axes_few : d ≤ 3
  pub room : capacity t.flags * d ≤ length t.coordinates
  pub sound : SoundTable t.head t.flags

pub editable : (d : ℕ) (t : Table) → verdict (table_tests d t) ≡ accepted → Editable d t
editable d t e =
    let p1 = passes (on (wrong_dimension_lem d) 1) _ e in
    let p11 = passes (on (coordinates_short d t) 11) _ p1.1 in
    let p27 = passes (on (unsound t.head t.flags) 27) _ p11.1 in
    let axes = right-dimension d p1.0 in
    record {
      axes = axes.0;
      axes_few = axes.1;
      room = ltb-false (length t.coordinates) (capacity t.flags * d) p11.0;
      sound = sound-table t.head t.flags p27.0;
    }

-- no more slots are live than there are
pub live_below : (d : ℕ) (t : Table) → Editable d t → t.head.live ≤ t.head.slots
live_below d t s = omega (arith, s.sound.counted, live-few t.head t.flags)
