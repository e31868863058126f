-- Closing the gaps of a table: what an accepted call has, and what it leaves. Afterwards 27 passes, the live slots are those below the live
-- count, and the next slot is the slot count; a second closing changes nothing; and the list from old slot to new renames the live slots
-- in their order, each with its coordinates. Assumes nothing.
-- Holds: Closes, closes, closed-flags-length, closed-rows, closed-sound, live-length, live-point, closed-length, closed-point,
--   new_slot, closed_is, rename-is, new-slot, new-position, new-order, new-rows, rows-renamed, close-renames, NoGaps,
--   closed-full, closed-add, closed-twice
use mathlib.Core.Path.{◌≡◌, sym, ap, ap₂, ◌∙◌}
use mathlib.Core.Bool.{true, false, not, cond, and-false}
use mathlib.Core.List.{List, ◌++◌, map, Memᴰ, append-nil, map-id}
use Prim.Native.Nat.{ℕ, ◌+◌, ◌-◌, ◌*◌, ◌≤◌, ◌<◌}
use native.Mathlib.Omega.{arith}
use native.Mathlib.Nat.{mul-le-mul_right, mul_comm, add-mul, zero-mul, sub_self}
use borrow.Author.Tests.{ne_eqb, ltb-false}
use lib.ListN.{length, get_or, take, replicate, length-append, length-map, length-replicate, get_or-replicate, get_or-append}
use lib.Seq.{take-append-le, take_at}
use lib.Dec.{eqb}
use lib.Ieee.{Float, nan}
use Rattle.lists.specs.Lists.{count, member, from, joined, part}
use Rattle.lists.proofs.Tests.{or-none, cond-true}
use Rattle.lists.proofs.Least.{least-is}
use Rattle.lists.proofs.Count.{count-all, length-keep}
use Rattle.lists.proofs.From.{from-mem, length_from, get_d-map-below, map-below-same, length-map-from}
use Rattle.lists.proofs.Joined.{parts-front}
use Rattle.lists.proofs.Map.{map_same}
use Rattle.lists.proofs.Members.{map-mem, member-mem, mem-member}
use Rattle.lists.proofs.Ascends.{ascends-map, ascends-full}
use Rattle.definition.specs.Number.{plus_zero}
use Rattle.definition.specs.Points.{coordinate}
use Rattle.definition.specs.Refusals.{accepted}
use Rattle.definition.specs.Outcome.{written}
use Rattle.definition.specs.Table.{Head, Table, capacity, flagged, live_slots_lem, next_slot, full, add_verdict, add_answer_lem}
use Rattle.definition.specs.Slots.{rows_of}
use Rattle.definition.specs.Closing.{rename_list, live_coordinates, close_verdict, closed, close_table, close_rename}
use Rattle.definition_laws.proofs.Accepted.{passes, right-dimension}
use Rattle.renaming_laws.specs.Renaming.{Renames}
use Rattle.table_laws.proofs.Ranks.{rank-at, rank-low, keep-every, stretch-below, length-parts, get_d-parts}
use Rattle.table_laws.proofs.Outcomes.{value-accepted, list-accepted, length-written, get_d-written, written_same}
use Rattle.table_laws.proofs.Live.{Sound, SoundTable, sound-table, is-sound, nonzero, live-few, live-mem}
use Rattle.table_laws.proofs.Slots.{live-ascends}

-- ---- what an accepted closing has
pub record Closes (d : ℕ) (t : Table) (lent : ℕ) : Type 0 where
  pub axes : 1 ≤ d
  pub axes_few : d ≤ 3
  pub room : t.head.slots ≤ lent
  pub covered : capacity t.flags * d ≤ length t.coordinates
  pub sound : Sound t

pub closes : (d : ℕ) (t : Table) (lent : ℕ) → close_verdict d t lent ≡ accepted → Closes d t lent
unfolding close_verdict
closes d t lent e =
    let t1 = passes _ _ e in
    let t11 = passes _ _ t1.1 in
    let t27 = passes _ _ t11.1 in
    let right = right-dimension d t1.0 in
    let short = or-none _ _ t11.0 in
    record {
      axes = right.0;
      axes_few = right.1;
      room = ltb-false lent t.head.slots short.0;
      covered = ltb-false (length t.coordinates) (capacity t.flags * d) short.1;
      sound = t27.0;
    }

-- ---- the flags: 1 below the live count, then 0
module _ (t : Table) (sound : Sound t) where
  abbrev n : ℕ
  n = t.head.live

  abbrev slots : ℕ
  slots = t.head.slots

  abbrev ones : List ℕ
  ones = replicate n 1 ++ replicate (slots - n) 0

  abbrev closed-flags : List ℕ
  closed-flags = written ones t.flags

  abbrev closed-head : Head
  closed-head = record { slots = n; live = n }

  held : SoundTable t.head t.flags
  held = sound-table t.head t.flags sound

  -- the live slots are no more than the slots
  few : t.head.live ≤ t.head.slots
  few = omega (arith, held.counted, live-few t.head t.flags)

  ones-length : length ones ≡ slots
  ones-length = simp (length-append, length-replicate) (omega (arith, few))

  flags-length : length closed-flags ≡ length t.flags
  flags-length = length-written ones t.flags (omega (arith, ones-length, held.within))

  one_at : (i : ℕ) → i < t.head.live → flagged closed-flags i ≡ true
  one_at i h =
      ap nonzero
      (get_d-written ones t.flags i 0 (omega (arith, few, ones-length))
      ∙ get_or-append (replicate n 1) (replicate (slots - n) 0) 0 i (rw length-replicate h) ∙ get_or-replicate n i 1 0 h)

  all-flagged : (m : ℕ) → m ≤ t.head.live → (i : ℕ) → Memᴰ i (from 0 m) → flagged closed-flags i ≡ true
  all-flagged m h i k = one_at i (omega (arith, from-mem 0 m k))

  rows_are : live_slots_lem closed-head closed-flags ≡ from 0 n
  unfolding live_slots_lem
  rows_are = keep-every (flagged closed-flags) (from 0 n) (all-flagged n (omega arith))

  next-is : next_slot closed-head closed-flags ≡ n
  unfolding next_slot
  next-is = least-is (λ i. not (flagged closed-flags i)) n n (omega arith) (λ i h. ap not (one_at i h)) (λ h. absurd (omega arith))

  -- a second list from old slot to new says 0, 1, ..
  second-list : rename_list closed-head closed-flags ≡ from 0 n
  unfolding rename_list
  second-list =
      map-below-same (λ i. cond (flagged closed-flags i) (count (flagged closed-flags) (from 0 i)) n) (λ i. i) n
      (λ i h.
      cond-true (flagged closed-flags i) (count (flagged closed-flags) (from 0 i)) n (one_at i h)
      ∙ count-all (flagged closed-flags) (from 0 i) (all-flagged i (omega arith)) ∙ length_from 0 i)
      ∙ map-id (from 0 n)

  -- second flags are the first
  second-flags : written (replicate n 1 ++ replicate (n - n) 0) closed-flags ≡ closed-flags
  unfolding written
  second-flags =
      ap (λ (k : ℕ). written (replicate n 1 ++ replicate k 0) closed-flags) (sub_self n)
      ∙ ap (λ (l : List ℕ). written l closed-flags) (append-nil (replicate n 1) ∙ sym front)
      ∙ written_same n closed-flags (omega (arith, flags-length, few, held.within))
    where
      front : take n closed-flags ≡ replicate n 1
      front =
          take-append-le n ones _ (omega (arith, few, ones-length)) ∙ take_at (replicate n 1) (replicate (slots - n) 0) n (length-replicate n 1)

  -- ---- the closed table
  module _ (d : ℕ) where
    pub closed-flags-length : length (closed d t).flags ≡ length t.flags
    unfolding closed
    closed-flags-length = flags-length

    pub closed-rows : rows_of (closed d t) ≡ from 0 t.head.live
    unfolding closed
    closed-rows = rows_are

    pub closed-sound : Sound (closed d t)
    unfolding closed
    closed-sound =
        is-sound closed-head closed-flags
        (record { within = rw flags-length (omega (arith, few, held.within)); counted = sym (ap length rows_are ∙ length_from 0 n) })

-- ---- the coordinates: those of the live slots, then +0
abbrev moved : ℕ → Table → List Float
moved d t = live_coordinates d t ++ replicate ((t.head.slots - t.head.live) * d) plus_zero

-- where all slots below m are live and no other, they are those that stand there
front-coordinates : (d m : ℕ) (t : Table) → rows_of t ≡ from 0 m → live_coordinates d t ≡ take (m * d) t.coordinates
unfolding live_coordinates
front-coordinates d m t e =
    ap (λ (rows : List ℕ). joined (map (λ i. part t.coordinates (i * d) d) rows)) e
    ∙ ap joined (map_same (λ i. part t.coordinates (i * d) d) (λ i. part t.coordinates (d * i) d) (from 0 m) (λ i k. ap (λ (j : ℕ). part t.coordinates j d) (mul_comm i d)))
    ∙ parts-front t.coordinates d m ∙ ap (λ (j : ℕ). take j t.coordinates) (mul_comm d m)

module _ (d : ℕ) (t : Table) (sound : Sound t) (covered : capacity t.flags * d ≤ length t.coordinates) where
  abbrev cs : List Float
  cs = t.coordinates

  all-covered : t.head.slots * d ≤ length t.coordinates
  all-covered = omega (arith, mul-le-mul_right {m = t.head.slots} {n = capacity t.flags} d (held t sound).within)

  live_inside : (i : ℕ) → Memᴰ i (rows_of t) → i * d + d ≤ length t.coordinates
  live_inside i m = omega (arith, stretch-below d i t.head.slots (live-mem t.head t.flags i m).0, all-covered)

  pub live-length : length (live_coordinates d t) ≡ t.head.live * d
  unfolding live_coordinates
  live-length = length-parts cs d (rows_of t) live_inside ∙ ap (λ (k : ℕ). k * d) (sym (held t sound).counted)

  -- the k-th of them is that of the k-th live slot
  pub live-point : (k a : ℕ) → k < t.head.live → a < d → coordinate d (live_coordinates d t) k a ≡ coordinate d t.coordinates (get_or (rows_of t) k 0) a
  unfolding live_coordinates
  live-point k a h small = get_d-parts cs d (rows_of t) live_inside k a nan (omega (arith, (held t sound).counted)) small

  moved_length : length (moved d t) ≡ t.head.slots * d
  moved_length =
      let gone = t.head.slots - t.head.live in
      let all : t.head.live + gone ≡ t.head.slots = omega (arith, few t sound) in
      length-append (live_coordinates d t) (replicate (gone * d) plus_zero)
      ∙ ap₂ (λ (a b : ℕ). a + b) live-length (length-replicate (gone * d) plus_zero) ∙ sym (add-mul t.head.live gone d) ∙ ap (λ (k : ℕ). k * d) all

  pub closed-length : length (closed d t).coordinates ≡ length t.coordinates
  unfolding closed
  closed-length = length-written (moved d t) cs (omega (arith, moved_length, all-covered))

  pub closed-point : (k a : ℕ) → k < t.head.live → a < d → coordinate d (closed d t).coordinates k a ≡ coordinate d t.coordinates (get_or (rows_of t) k 0) a
  unfolding closed
  closed-point k a h small =
      let low = stretch-below d k t.head.live h in
      let more = mul-le-mul_right {m = t.head.live} {n = t.head.slots} d (few t sound) in
      get_d-written (moved d t) cs (k * d + a) nan (omega (arith, moved_length))
      ∙ get_or-append (live_coordinates d t) (replicate ((t.head.slots - t.head.live) * d) plus_zero) nan (k * d + a) (omega (arith, live-length))
      ∙ live-point k a h small

-- ---- an accepted call

-- the new name of a slot: what the call wrote to the rename list
abbrev pub new_slot : ℕ → Table → List ℕ → ℕ → ℕ
new_slot d t rename i = get_or (close_rename d t rename) i 0

module _ (d : ℕ) (t : Table) (rename : List ℕ) (e : close_verdict d t (length rename) ≡ accepted) where
  abbrev flags : List ℕ
  flags = t.flags

  has : Closes d t (length rename)
  has = closes d t (length rename) e

  pub closed_is : close_table d t rename ≡ closed d t
  unfolding close_table
  closed_is = value-accepted (close_verdict d t (length rename)) (closed d t) t e

  pub rename-is : close_rename d t rename ≡ written (rename_list t.head t.flags) rename
  unfolding close_rename
  rename-is = list-accepted (close_verdict d t (length rename)) (rename_list t.head t.flags) rename e

  -- a live slot goes to the number of live slots below it, which is its position among them
  pub new-slot : (i : ℕ) → member i (rows_of t) ≡ true → new_slot d t rename i ≡ count (flagged t.flags) (from 0 i)
  unfolding rename_list
  new-slot i m =
      let live = live-mem t.head flags i (member-mem (rows_of t) i m) in
      let new : ℕ → ℕ = λ j. cond (flagged flags j) (count (flagged flags) (from 0 j)) t.head.slots in
      ap (λ (l : List ℕ). get_or l i 0) rename-is
      ∙ get_d-written (map new (from 0 t.head.slots)) rename i 0 (omega (arith, live, length-map-from new 0 t.head.slots))
      ∙ get_d-map-below new t.head.slots i 0 live.0
      ∙ cond-true (flagged flags i) (count (flagged flags) (from 0 i)) t.head.slots live.1

  pub new-position : (i : ℕ) → member i (rows_of t) ≡ true → get_or (rows_of t) (new_slot d t rename i) 0 ≡ i
  unfolding live_slots_lem
  new-position i m =
      let live = live-mem t.head flags i (member-mem (rows_of t) i m) in
      ap (λ (k : ℕ). get_or (rows_of t) k 0) (new-slot i m) ∙ rank-at (flagged flags) i t.head.slots live.0 live.1

  new-low : (i : ℕ) → member i (rows_of t) ≡ true → new_slot d t rename i < t.head.live
  unfolding live_slots_lem
  new-low i m =
      let live = live-mem t.head flags i (member-mem (rows_of t) i m) in
      omega (arith, new-slot i m, rank-low (flagged flags) i t.head.slots live.0 live.1, length-keep (flagged flags) (from 0 t.head.slots), (held t has.sound).counted)

  pub new-order : (i j : ℕ) → member i (rows_of t) ≡ true → member j (rows_of t) ≡ true → i < j → new_slot d t rename i < new_slot d t rename j
  new-order i j m k h =
      omega (arith, new-slot i m, new-slot j k, rank-low (flagged flags) i j h (live-mem t.head flags i (member-mem (rows_of t) i m)).1)

  -- so the live slots go to 0, 1, .., and these are the live slots then
  pub new-rows : map (new_slot d t rename) (rows_of t) ≡ from 0 t.head.live
  new-rows =
      ascends-full 0 t.head.live (map (new_slot d t rename) (rows_of t))
      (ascends-map (new_slot d t rename) (rows_of t) (λ i j m k. new-order i j (mem-member (rows_of t) i m) (mem-member (rows_of t) j k)) (live-ascends t))
      (λ x m. let r = map-mem (new_slot d t rename) (rows_of t) m in (omega arith, omega (arith, r.2, new-low r.0 (mem-member (rows_of t) r.0 r.1))))
      (length-map (rows_of t) (new_slot d t rename) ∙ sym (held t has.sound).counted)

  pub rows-renamed : rows_of (close_table d t rename) ≡ map (new_slot d t rename) (rows_of t)
  rows-renamed = ap rows_of closed_is ∙ closed-rows t has.sound d ∙ sym new-rows

  -- each with its coordinates
  pub close-renames : Renames d t.coordinates (close_table d t rename).coordinates (rows_of t) (new_slot d t rename)
  close-renames =
      record {
        order = new-order;
        points =
            λ i a m h.
            ap (λ (u : Table). coordinate d u.coordinates (new_slot d t rename i) a) closed_is
            ∙ closed-point d t has.sound has.covered (new_slot d t rename i) a (new-low i m) h
            ∙ ap (λ (j : ℕ). coordinate d t.coordinates j a) (new-position i m);
      }

-- ---- after closing every slot is live, and an add takes the next new one
pub record NoGaps (t : Table) : Type 0 where
  pub all_live : rows_of t ≡ from 0 t.head.slots
  pub next-new : next_slot t.head t.flags ≡ t.head.slots
  pub has_room : t.head.slots < capacity t.flags → full t ≡ false

module _ (d : ℕ) (t : Table) (rename : List ℕ) (e : close_verdict d t (length rename) ≡ accepted) where
  full-then : Sound t → NoGaps (closed d t)
  unfolding closed
  full-then s =
      record {
        all_live = rows_are t s;
        next-new = next-is t s;
        has_room = λ h. rw (ne_eqb t.head.live (capacity (closed-flags t s)) (λ z. omega arith)) (and-false (eqb (next_slot (closed-head t s) (closed-flags t s)) t.head.live));
      }

  pub closed-full : NoGaps (close_table d t rename)
  closed-full = rw (closed_is d t rename e) (full-then (closes d t (length rename) e).sound)

  pub closed-add : (k : ℕ) (point : List Float) → add_verdict k (close_table d t rename) point ≡ accepted → (add_answer_lem k (close_table d t rename) point).value ≡ (close_table d t rename).head.slots
  unfolding add_answer_lem
  closed-add k point ok = value-accepted (add_verdict k (close_table d t rename) point) _ 0 ok ∙ closed-full.next-new

-- ---- closing twice: the second time head, flags and coordinates stay, and 0, 1, .. is written
module _ (d k : ℕ) (t : Table) (r r' : List ℕ) (e : close_verdict d t (length r) ≡ accepted) (again : close_verdict k (close_table d t r) (length r') ≡ accepted) where
  twice : Sound t → capacity (closed d t).flags * k ≤ length (closed d t).coordinates → closed k (closed d t) ≡ closed d t
  unfolding closed
  twice s c =
      ap₂ (λ (fs : List ℕ) (xs : List Float). record { head = closed-head t s; flags = fs; coordinates = xs }) (second-flags t s)
      (ap (λ (m : ℕ). written (live_coordinates k (closed d t) ++ replicate (m * k) plus_zero) (closed d t).coordinates) (sub_self t.head.live)
      ∙ ap (λ (m : ℕ). written (live_coordinates k (closed d t) ++ replicate m plus_zero) (closed d t).coordinates) (zero-mul k)
      ∙ ap (λ (l : List Float). written l (closed d t).coordinates) (append-nil (live_coordinates k (closed d t)) ∙ front-coordinates k t.head.live (closed d t) (rows_are t s))
      ∙ written_same (t.head.live * k) (closed d t).coordinates (omega (arith, all-covered k (closed d t) (closed-sound t s d) c)))

  twice-list : Sound t → rename_list (closed d t).head (closed d t).flags ≡ from 0 t.head.live
  unfolding closed
  twice-list s = second-list t s

  pub closed-twice : (close_table k (close_table d t r) r' ≡ close_table d t r) × (close_rename k (close_table d t r) r' ≡ written (from 0 t.head.live) r')
  closed-twice =
      let one = closed_is d t r e in
      let s = (closes d t (length r) e).sound in
      let c : capacity (closed d t).flags * k ≤ length (closed d t).coordinates = rw one at (closes k (close_table d t r) (length r') again).covered in (
        closed_is k (close_table d t r) r' again ∙ ap (closed k) one ∙ twice s c ∙ sym one,
        rename-is k (close_table d t r) r' again ∙ ap (λ (u : Table). written (rename_list u.head u.flags) r') one ∙ ap (λ (l : List ℕ). written l r') (twice-list s),
      )
