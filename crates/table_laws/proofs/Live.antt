-- The live slots of a table: how many they are, and which; what a table that 27 passes has. Assumes nothing.
-- Holds: Sound, SoundTable, sound-table, is-sound, nonzero, live-many, live-few, next-high, live-mem, live-member
use mathlib.Core.Path.{◌≡◌, sym, ap, ◌∙◌}
use mathlib.Core.Bool.{Bool, true, false, not, ◌&&◌}
use mathlib.Core.List.{List, Memᴰ}
use Prim.Native.Nat.{ℕ, zero, suc, ◌≤◌, ◌<◌}
use native.Mathlib.Omega.{arith}
use borrow.Author.Tests.{eq-eqb, eqb-true, ltb-true, ltb-false, le-ltb, lt-ltb, not-false}
use lib.ListN.{length, take}
use lib.Dec.{eqb, ltb}
use Rattle.lists.specs.Lists.{count, member, from}
use Rattle.lists.proofs.Tests.{or-none, same_test}
use Rattle.lists.proofs.Least.{least-high}
use Rattle.lists.proofs.Count.{length-keep, count-more, count-nil, count-len}
use Rattle.lists.proofs.From.{from-mem, mem-from, count-below-snoc, count-below-nil, length_from}
use Rattle.lists.proofs.Members.{keep-mem, member-keep, member-mem, mem-member}
use Rattle.definition.specs.Table.{Head, Table, capacity, flagged, live_slots_lem, next_slot, unsound}

-- ---- a table that 27 passes
abbrev pub Sound : Table → Type 0
Sound t = unsound t.head t.flags ≡ false

-- its slot count is at most the capacity, and its live count is the number of live slots
pub record SoundTable (h : Head) (flags : List ℕ) : Type 0 where
  pub within : h.slots ≤ capacity flags
  pub counted : h.live ≡ length (live_slots_lem h flags)

pub sound-table : (h : Head) (flags : List ℕ) → unsound h flags ≡ false → SoundTable h flags
unfolding unsound
sound-table h flags e =
    let both = or-none _ _ e in
    record {
      within = ltb-false (capacity flags) h.slots both.0;
      counted = eqb-true _ _ (not-false _ both.1);
    }

pub is-sound : (h : Head) (flags : List ℕ) → SoundTable h flags → unsound h flags ≡ false
unfolding unsound
is-sound h flags s = simp (le-ltb (capacity flags) h.slots s.within, eq-eqb h.live (length (live_slots_lem h flags)) s.counted)

-- ---- how many slots are live: as many as flags below the slot count are not 0
abbrev pub nonzero : ℕ → Bool
nonzero b = not (eqb b 0)

below-flags : (flags : List ℕ) (n : ℕ) → n ≤ length flags → count (flagged flags) (from 0 n) ≡ count nonzero (take n flags)
below-flags flags zero h = count-below-nil (flagged flags) ∙ sym (count-nil nonzero)
below-flags flags (suc n) h =
    omega (arith, count-below-snoc n (flagged flags), count-more nonzero flags n 0 (omega arith), below-flags flags n (omega arith))

pub live-many : (h : Head) (flags : List ℕ) → h.slots ≤ length flags → length (live_slots_lem h flags) ≡ count nonzero (take h.slots flags)
unfolding live_slots_lem
live-many h flags fits = length-keep (flagged flags) (from 0 h.slots) ∙ below-flags flags h.slots fits

-- no more than there are slots
pub live-few : (h : Head) (flags : List ℕ) → length (live_slots_lem h flags) ≤ h.slots
unfolding live_slots_lem
live-few h flags = omega (arith, length-keep (flagged flags) (from 0 h.slots), count-len (flagged flags) (from 0 h.slots), length_from 0 h.slots)

-- the slot that an add takes is a retired one, or the slot count
pub next-high : (h : Head) (flags : List ℕ) → next_slot h flags ≤ h.slots
unfolding next_slot
next-high h flags = least-high (λ i. not (flagged flags i)) h.slots

-- ---- which slots are live
pub live-mem : (h : Head) (flags : List ℕ) (i : ℕ) → Memᴰ i (live_slots_lem h flags) → (i < h.slots) × (flagged flags i ≡ true)
unfolding live_slots_lem
live-mem h flags i m = let k = keep-mem (flagged flags) (from 0 h.slots) m in (omega (arith, from-mem 0 h.slots k.0), k.1)

below-member : (n i : ℕ) → member i (from 0 n) ≡ ltb i n
below-member n i =
    same_test (member i (from 0 n)) (ltb i n)
    (λ e. lt-ltb i n (omega (arith, from-mem 0 n (member-mem (from 0 n) i e))))
    (λ e. mem-member (from 0 n) i (mem-from 0 n (omega arith) (omega (arith, ltb-true i n e))))

pub live-member : (h : Head) (flags : List ℕ) (i : ℕ) → member i (live_slots_lem h flags) ≡ (ltb i h.slots && flagged flags i)
unfolding live_slots_lem
live-member h flags i = member-keep (flagged flags) (from 0 h.slots) i ∙ ap (λ (b : Bool). b && flagged flags i) (below-member h.slots i)
