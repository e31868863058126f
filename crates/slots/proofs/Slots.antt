-- A call by the length of its slot: a short one is refused before anything else, and any other gets what the call answers.
-- Assumes nothing.
-- Holds: slot-short, slot-long, slot-written, room-short, room-long, number-long, part-four, slot_counts, slot_read
use mathlib.Core.Path.{◌≡◌, refl, ap, ◌∙◌}
use mathlib.Core.List.{List, [], ◌∷◌, ◌++◌}
use Prim.Native.Nat.{ℕ, suc, ◌+◌, ◌≤◌, ◌<◌}
use native.Mathlib.Omega.{arith}
use lib.ListN.{length, get_or}
use borrow.Author.Tests.{lt-ltb, le-ltb}
use Rattle.lists.specs.Lists.{put, part}
use Rattle.lists.proofs.Put.{put-zero, put-next-at, part-cons, part-nil}
use Rattle.definition.specs.Refusals.{Verdict}
use Rattle.definition.specs.Outcome.{Answer, written, RoomAfter}
use Rattle.slots.specs.Slots.{unless_short, number_after, slot_after, slot_first, counts_in}

module _ {B : Type 0} (n : ℕ) (slot : List B) where
  pub slot-short : {A : Type 0} (x y : A) → length slot < n → x ≡ unless_short n slot x y
  unfolding unless_short
  slot-short x y h = rw (lt-ltb (length slot) n h)

  pub slot-long : {A : Type 0} (x y z : A) → n ≤ length slot → z ≡ y → z ≡ unless_short n slot x y
  unfolding unless_short
  slot-long x y z h e = rw (le-ltb (length slot) n h) e

  -- the slot after a call that found it long enough
  pub slot-written : (xs new : List B) → n ≤ length slot → new ≡ put slot 0 xs → new ≡ slot_after n slot xs
  unfolding written
  slot-written xs new h e = slot-long slot (written xs slot) new h (e ∙ put-zero slot xs)

  -- working room: as it was where the slot is short
  pub room-short : {A : Type 0} (v : Verdict) (old : List A) → length slot < n → RoomAfter (slot_first n slot v) old old
  unfolding unless_short RoomAfter
  room-short v old h = rw (lt-ltb (length slot) n h) refl

  pub room-long : {A : Type 0} (v : Verdict) (old new : List A) → n ≤ length slot → RoomAfter v old new → RoomAfter (slot_first n slot v) old new
  unfolding unless_short
  room-long v old new h r = rw (le-ltb (length slot) n h) r

  -- what a call returns that found its slot long enough
  pub number-long : {A : Type 0} (a b : Answer A) (k : ℕ) → n ≤ length slot → k ≡ a.number → a ≡ b → k ≡ number_after n slot b
  number-long a b k h e g = slot-long 11 b.number k h (e ∙ ap (λ (x : Answer _). x.number) g)

-- four numbers of a list, by their places
pub part-four : (l : List ℕ) (at : ℕ) → at + 4 ≤ length l
    → get_or l at 0 ∷ get_or l (suc at) 0 ∷ get_or l (suc (suc at)) 0 ∷ get_or l (suc (suc (suc at))) 0 ∷ [] ≡ part l at 4
part-four l at h =
    rw (
      part-cons l at 3 0 (omega arith),
      part-cons l (suc at) 2 0 (omega arith),
      part-cons l (suc (suc at)) 1 0 (omega arith),
      part-cons l (suc (suc (suc at))) 0 0 (omega arith),
      part-nil l (suc (suc (suc (suc at)))),
    ) refl

-- place and levels, then the rows of each level, then the domains of each level
pub slot_counts : (old first second third : List ℕ) (place levels : ℕ) (rows domains : List ℕ) → length rows ≡ 4 → length domains ≡ 4
    → first ≡ put old 0 (place ∷ levels ∷ []) → second ≡ put first 2 rows → third ≡ put second 6 domains
    → third ≡ put old 0 (place ∷ levels ∷ rows ++ domains)
slot_counts old first second third place levels rows domains m k e f g =
    let two : second ≡ put old 0 (place ∷ levels ∷ rows) =
    f ∙ rw e (put-next-at old 0 (place ∷ levels ∷ []) rows 2 (omega arith) refl) in
    g ∙ rw two (put-next-at old 0 (place ∷ levels ∷ rows) domains 6 (omega arith) (omega arith))

-- the counts in a slot, entry by entry
pub slot_read : (slot : List ℕ) → 10 ≤ length slot
    → record {
      levels = get_or slot 1 0;
      rows = get_or slot 2 0 ∷ get_or slot 3 0 ∷ get_or slot 4 0 ∷ get_or slot 5 0 ∷ [];
      domains = get_or slot 6 0 ∷ get_or slot 7 0 ∷ get_or slot 8 0 ∷ get_or slot 9 0 ∷ [];
    }
    ≡ counts_in slot
slot_read slot h = rw (part-four slot 2 (omega arith), part-four slot 6 (omega arith)) refl
