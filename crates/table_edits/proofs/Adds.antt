-- An add, case by case: what a refused one leaves, the room that an accepted one has, and what it answers and leaves. Assumes nothing.
-- Holds: point_tests, kept-table, kept-point, kept-full, AddRoom, add-room, add-done
use mathlib.Core.Path.{◌≡◌, refl, sym, ◌∙◌}
use mathlib.Core.Bool.{Bool, true, false, not, cond}
use mathlib.Core.Logic.{◌⊎◌, ⊎_elim}
use mathlib.Core.List.{List, [], ◌∷◌, ◌++◌}
use Prim.Native.Nat.{ℕ, suc, ◌+◌, ◌*◌, ◌≤◌, ◌<◌, max}
use native.Mathlib.Omega.{arith}
use native.Mathlib.Numerals.{add-one}
use native.Mathlib.Nat.{mul-le-mul, mul-le-mul_right, suc-mul}
use borrow.Author.Tests.{eq-eqb, ne_eqb, eqb-true, not-false}
use lib.Dec.{eqb}
use lib.ListN.{length, set}
use lib.Ieee.{Float}
use Rattle.lists.specs.Lists.{put}
use Rattle.definition.specs.Refusals.{Refusal, Test, accepted, refused, on, verdict, most_points, not_finite_lem}
use Rattle.definition.specs.Outcome.{number_of, place_of, value_of}
use Rattle.definition.specs.Table.{Table, capacity, next_slot, full, table_tests, add_verdict, added, add_answer_lem, add_table}
use Rattle.definition_laws.proofs.Accepted.{passes}
use Rattle.point_checks.proofs.Laws.{fault-first, fault-second}
use Rattle.table_checks.specs.Tables.{table_of}
use Rattle.table_edits.specs.Edits.{Added}
use Rattle.table_laws.proofs.Live.{next-high}
use Rattle.table_edits.proofs.TableTests.{editable, live_below}

module _ (d : ℕ) (t : Table) (point : List Float) where
  -- the tests of the point, and the one after them
  abbrev pub point_tests : List Test
  point_tests = on (not (eqb (length point) d)) 7 ∷ not_finite_lem point ∷ []

  abbrev full_test : List Test
  full_test = on (full t) 21 ∷ []

  -- ---- refusals
  kept : (r : Refusal) → refused r ≡ add_verdict d t point → Added d t t point (record { number = r.number; place = r.place; value = 0 })
  unfolding add_answer_lem add_table number_of place_of value_of
  kept r e = record { answers = rw (← e) refl; table = rw (← e) refl }

  pub kept-table : (r : Refusal) → refused r ≡ verdict (table_tests d t) → Added d t t point (record { number = r.number; place = r.place; value = 0 })
  unfolding add_verdict
  kept-table r e = kept r (fault-first (table_tests d t) (point_tests ++ full_test) r e)

  module _ (e : accepted ≡ verdict (table_tests d t)) where
    after-table : verdict (point_tests ++ full_test) ≡ add_verdict d t point
    unfolding add_verdict
    after-table = fault-second (table_tests d t) (point_tests ++ full_test) e

    pub kept-point : (r : Refusal) → refused r ≡ verdict point_tests → Added d t t point (record { number = r.number; place = r.place; value = 0 })
    kept-point r p = kept r (fault-first point_tests full_test r p ∙ after-table)

    module _ (p : accepted ≡ verdict point_tests) (slot : ℕ) (s : slot ≡ next_slot t.head t.flags) where
      fullness : (b : Bool) → full t ≡ b → cond b (refused (record { number = 21; place = 0 })) accepted ≡ add_verdict d t point
      unfolding verdict
      fullness b h = rw h at (fault-second point_tests full_test p ∙ after-table)

      pub kept-full : slot ≡ t.head.slots → t.head.slots ≡ capacity t.flags → Added d t t point (record { number = 21; place = 0; value = 0 })
      kept-full a b = kept (record { number = 21; place = 0 }) (fullness true (rw (← s, eq-eqb slot t.head.slots a, eq-eqb t.head.slots (capacity t.flags) b)))

      -- ---- an accepted add: the slot and its coordinates stand in the lists
      pub record AddRoom : Type 0 where
        pub below : slot < capacity t.flags
        pub in-flags : slot < length t.flags
        pub long : length point ≡ d
        pub in-coordinates : slot * d + d ≤ length t.coordinates
        pub few : slot * d < 3 * most_points
        pub live-few : t.head.live ≤ most_points

      module _ (room : ℕ) (r : room ≡ capacity t.flags) (free : ((slot ≡ t.head.slots) × (t.head.slots ≡ room → ⊥)) ⊎ (slot ≡ t.head.slots → ⊥)) where
        not_full : full t ≡ false
        not_full = ⊎_elim (λ h. rw (← s, eq-eqb slot t.head.slots h.0, ← r, ne_eqb t.head.slots room h.1)) (λ h. rw (← s, ne_eqb slot t.head.slots h)) free

        pub add-room : AddRoom
        add-room =
            let able = editable d t (sym e) in
            let long : length point ≡ d = eqb-true (length point) d (not-false (eqb (length point) d) (passes (on (not (eqb (length point) d)) 7) (not_finite_lem point ∷ []) (sym p)).0) in
            let u : suc slot ≤ capacity t.flags = ⊎_elim (λ h. omega (arith, h.0, h.1, r, able.sound.within)) (λ h. omega (arith, h, s, able.sound.within, next-high t.head t.flags)) free in
            record {
              below = u;
              in-flags = omega arith;
              long = long;
              in-coordinates = omega (arith, mul-le-mul_right d u, suc-mul slot d, able.room);
              few = omega (arith, mul-le-mul u able.axes_few, suc-mul slot d, able.axes);
              live-few = omega (arith, live_below d t able, able.sound.within);
            }

        pub add-done : Added d t (table_of (max t.head.slots (slot + 1)) (t.head.live + 1) (set t.flags slot 1) (put t.coordinates (slot * d) point)) point (record { number = 0; place = 0; value = slot })
        unfolding add_answer_lem add_table added number_of place_of value_of
        add-done = let v = fullness false not_full in record { answers = rw (← v, s) refl; table = rw (← v, s) (simp add-one) }
