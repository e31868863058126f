-- A retirement, case by case: what a refused one leaves, and what an accepted one answers and leaves. Assumes nothing.
-- Holds: retire-kept, retire-high, slot-in, retire-free, live-some, retire-done
use mathlib.Core.Path.{◌≡◌, refl, sym, ap, ◌∙◌}
use mathlib.Core.Bool.{Bool, true, false, cond}
use mathlib.Core.List.{List, [], ◌∷◌}
use Prim.Native.Nat.{ℕ, ◌-◌, ◌≤◌, ◌<◌, zero-le}
use native.Mathlib.Omega.{arith}
use borrow.Author.Tests.{le-leb, lt-leb, eq-eqb, ne_eqb}
use lib.ListN.{length, get_or, set}
use Rattle.lists.specs.Lists.{from}
use Rattle.lists.proofs.Count.{length-keep, count-some}
use Rattle.lists.proofs.From.{mem-from}
use Rattle.definition.specs.Refusals.{Refusal, Test, accepted, refused, on, verdict}
use Rattle.definition.specs.Outcome.{number_of, place_of, value_of}
use Rattle.definition.specs.Table.{Table, flagged, live_slots_lem, table_tests, not_live_lem, retire_verdict, retired, retire_answer_lem, retire_table}
use Rattle.point_checks.proofs.Laws.{fault-first, fault-second}
use Rattle.table_checks.specs.Tables.{table_of}
use Rattle.table_edits.specs.Edits.{Retired}
use Rattle.table_edits.proofs.TableTests.{Editable, editable}

module _ (d : ℕ) (t : Table) (slot : ℕ) where
  abbrev later : List Test
  later = on (not_live_lem t slot) 22 ∷ []

  kept : (r : Refusal) → refused r ≡ retire_verdict d t slot → Retired d t t slot (record { number = r.number; place = r.place; value = 0 })
  unfolding retire_answer_lem retire_table number_of place_of value_of
  kept r e = record { answers = rw (← e) refl; table = rw (← e) refl }

  pub retire-kept : (r : Refusal) → refused r ≡ verdict (table_tests d t) → Retired d t t slot (record { number = r.number; place = r.place; value = 0 })
  unfolding retire_verdict
  retire-kept r e = kept r (fault-first (table_tests d t) later r e)

  module _ (e : accepted ≡ verdict (table_tests d t)) where
    -- 22, or none
    liveness : (b : Bool) → not_live_lem t slot ≡ b → cond b (refused (record { number = 22; place = 0 })) accepted ≡ retire_verdict d t slot
    unfolding verdict retire_verdict
    liveness b h = ap (λ (x : Bool). cond x (refused (record { number = 22; place = 0 })) accepted) (sym h) ∙ fault-second (table_tests d t) later e

    able : Editable d t
    able = editable d t (sym e)

    pub retire-high : t.head.slots ≤ slot → Retired d t t slot (record { number = 22; place = 0; value = 0 })
    retire-high h = kept (record { number = 22; place = 0 }) (liveness true (rw (le-leb t.head.slots slot h)))

    module _ (low : slot < t.head.slots) where
      pub slot-in : slot < length t.flags
      slot-in = omega (arith, able.sound.within)

      pub retire-free : get_or t.flags slot 0 ≡ 0 → Retired d t t slot (record { number = 22; place = 0; value = 0 })
      retire-free f = kept (record { number = 22; place = 0 }) (liveness true (rw (lt-leb t.head.slots slot low, eq-eqb (get_or t.flags slot 0) 0 f)))

      module _ (f : get_or t.flags slot 0 ≡ 0 → ⊥) where
        pub live-some : 1 ≤ t.head.live
        unfolding live_slots_lem
        live-some =
            let l : flagged t.flags slot ≡ true = rw (ne_eqb (get_or t.flags slot 0) 0 f) in
            omega (arith, able.sound.counted, length-keep (flagged t.flags) (from 0 t.head.slots), count-some (flagged t.flags) (from 0 t.head.slots) slot (mem-from 0 t.head.slots zero-le (omega arith)) l)

        pub retire-done : Retired d t (table_of t.head.slots (t.head.live - 1) (set t.flags slot 0) t.coordinates) slot (record { number = 0; place = 0; value = 0 })
        unfolding retire_answer_lem retire_table retired number_of place_of value_of
        retire-done =
            let v : accepted ≡ retire_verdict d t slot = liveness false (rw (lt-leb t.head.slots slot low, ne_eqb (get_or t.flags slot 0) 0 f)) in
            record { answers = rw (← v) refl; table = rw (← v) refl }
