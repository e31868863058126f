-- The test of a head against its flags, from what the pass found. Assumes nothing.
-- Holds: unsound-high, unsound-live, sound-live, next-is
use mathlib.Core.Path.{◌≡◌}
use mathlib.Core.Bool.{true, false, not}
use mathlib.Core.List.{List}
use Prim.Native.Nat.{ℕ, ◌≤◌, ◌<◌}
use borrow.Author.Tests.{lt-ltb, le-ltb, eq-eqb, ne_eqb}
use lib.ListN.{length}
use Rattle.lists.specs.Lists.{keep, least, from}
use Rattle.definition.specs.Table.{Head, capacity, flagged, live_slots_lem, next_slot, unsound}

module _ (h : Head) (flags : List ℕ) where
  pub unsound-high : capacity flags < h.slots → unsound h flags ≡ true
  unfolding unsound
  unsound-high l = simp (lt-ltb (capacity flags) h.slots l)

  module _ (l : h.slots ≤ capacity flags) (n : ℕ) (e : n ≡ length (keep (flagged flags) (from 0 h.slots))) where
    pub unsound-live : (h.live ≡ n → ⊥) → unsound h flags ≡ true
    unfolding unsound live_slots_lem
    unsound-live o = rw (le-ltb (capacity flags) h.slots l, ← e, ne_eqb h.live n o)

    pub sound-live : h.live ≡ n → unsound h flags ≡ false
    unfolding unsound live_slots_lem
    sound-live o = rw (le-ltb (capacity flags) h.slots l, ← e, eq-eqb h.live n o)

  pub next-is : (n : ℕ) → n ≡ least (λ i. not (flagged flags i)) h.slots → n ≡ next_slot h flags
  unfolding next_slot
  next-is n e = e
