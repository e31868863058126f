-- A call that closes the gaps: what a refused one answers, the room that an accepted one has, and what it answers and leaves. Assumes nothing.
-- Holds: CloseRoom, close-refused, close-room, close-done
use mathlib.Core.Path.{◌≡◌, sym, ap, ◌∙◌}
use mathlib.Core.List.{List, ◌++◌}
use Prim.Native.Nat.{ℕ, ◌+◌, ◌-◌, ◌*◌, ◌≤◌}
use native.Mathlib.Omega.{arith}
use native.Mathlib.Nat.{mul-le-mul_right, add-mul}
use lib.ListN.{length, replicate, length-replicate}
use lib.Ieee.{Float}
use Rattle.lists.specs.Lists.{put}
use Rattle.lists.proofs.Put.{put-zero, put-next-at}
use Rattle.definition.specs.Number.{plus_zero}
use Rattle.definition.specs.Refusals.{Refusal, accepted, refused}
use Rattle.definition.specs.Outcome.{number_of, place_of, value_of, written, list_after}
use Rattle.definition.specs.Table.{Table, live_slots_lem}
use Rattle.definition.specs.Closing.{rename_list, live_coordinates, close_verdict, closed, close_answer, close_table, close_rename}
use Rattle.table_checks.specs.Tables.{table_of}
use Rattle.table_laws.proofs.Live.{SoundTable, sound-table, live-few}
use Rattle.table_laws.proofs.Closing.{Closes, closes}
use Rattle.closing.specs.Passed.{live_below_lem, live_parts, renames}
use Rattle.closing.specs.Outcome.{Closed}
use Rattle.closing.proofs.Moves.{parts-length}

module _ (d : ℕ) (t : Table) (rename : List ℕ) where
  -- the lists hold all slots, and what is left of the coordinates past the live ones ends with the last slot's
  pub record CloseRoom : Type 0 where
    pub in-flags : t.head.slots ≤ length t.flags
    pub in-coordinates : t.head.slots * d ≤ length t.coordinates
    pub in-rename : t.head.slots ≤ length rename
    pub live-few : t.head.live ≤ t.head.slots
    pub parted : t.head.live * d + (t.head.slots - t.head.live) * d ≡ t.head.slots * d

  pub close-refused : (r : Refusal) → refused r ≡ close_verdict d t (length rename) → Closed d t t rename rename (record { number = r.number; place = r.place; value = 0 })
  unfolding close_verdict close_answer close_table close_rename number_of place_of value_of list_after
  close-refused r v = record { answers = rw (← v); table = rw (← v); renamed = rw (← v) }

  module _ (passed : accepted ≡ close_verdict d t (length rename)) where
    able : Closes d t (length rename)
    able = closes d t (length rename) (sym passed)

    sound : SoundTable t.head t.flags
    sound = sound-table t.head t.flags able.sound

    pub close-room : CloseRoom
    close-room =
        let few : t.head.live ≤ t.head.slots = omega (arith, sound.counted, live-few t.head t.flags) in
        let whole : t.head.live + (t.head.slots - t.head.live) ≡ t.head.slots = omega (arith, few) in
        record {
          in-flags = omega (arith, sound.within);
          in-coordinates = omega (arith, mul-le-mul_right d sound.within, able.covered);
          in-rename = able.room;
          live-few = few;
          parted = sym (add-mul t.head.live (t.head.slots - t.head.live) d) ∙ ap (λ (n : ℕ). n * d) whole;
        }

    live-is : length (live_below_lem t.flags t.head.slots) ≡ t.head.live
    unfolding live_slots_lem
    live-is = sym sound.counted

    flags-left : put (put t.flags 0 (replicate t.head.live 1)) t.head.live (replicate (t.head.slots - t.head.live) 0)
        ≡ written (replicate t.head.live 1 ++ replicate (t.head.slots - t.head.live) 0) t.flags
    unfolding written
    flags-left =
        put-next-at t.flags 0 (replicate t.head.live 1) (replicate (t.head.slots - t.head.live) 0) t.head.live (omega arith) (omega (arith, length-replicate {A = ℕ} t.head.live 1))
        ∙ put-zero t.flags _

    coordinates-left : put (put t.coordinates 0 (live_parts d t.coordinates t.flags t.head.slots)) (t.head.live * d) (replicate ((t.head.slots - t.head.live) * d) plus_zero)
        ≡ written (live_coordinates d t ++ replicate ((t.head.slots - t.head.live) * d) plus_zero) t.coordinates
    unfolding written live_coordinates live_slots_lem
    coordinates-left =
        let many = parts-length d t.coordinates t.flags t.head.slots close-room.in-coordinates ∙ ap (λ (n : ℕ). n * d) live-is in
        put-next-at t.coordinates 0 (live_parts d t.coordinates t.flags t.head.slots) (replicate ((t.head.slots - t.head.live) * d) plus_zero) (t.head.live * d) (omega arith) (omega (arith, many))
        ∙ put-zero t.coordinates _

    renames-left : put rename 0 (renames t.flags t.head.slots t.head.slots) ≡ written (rename_list t.head t.flags) rename
    unfolding written rename_list
    renames-left = put-zero rename _

    -- the pass, the cleared flags and the cleared coordinates, one after the other
    pub close-done : (flags₁ flags₂ : List ℕ) (cs₁ cs₂ : List Float) (rename₁ : List ℕ) → flags₁ ≡ put t.flags 0 (replicate (length (live_below_lem t.flags t.head.slots)) 1)
        → cs₁ ≡ put t.coordinates 0 (live_parts d t.coordinates t.flags t.head.slots) → rename₁ ≡ put rename 0 (renames t.flags t.head.slots t.head.slots)
        → flags₂ ≡ put flags₁ t.head.live (replicate (t.head.slots - t.head.live) 0) → cs₂ ≡ put cs₁ (t.head.live * d) (replicate ((t.head.slots - t.head.live) * d) plus_zero)
        → Closed d t (table_of t.head.live t.head.live flags₂ cs₂) rename rename₁ (record { number = 0; place = 0; value = t.head.live })
    unfolding close_verdict closed close_answer close_table close_rename number_of place_of value_of list_after
    close-done flags₁ flags₂ cs₁ cs₂ rename₁ f c r f' c' =
        record {
          answers = rw (← passed);
          table = rw (← passed, ← flags-left, ← coordinates-left, f', c', f, c, live-is);
          renamed = r ∙ rw (← passed) renames-left;
        }
