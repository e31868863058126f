-- What adding, retiring and closing leave of a table: a refused edit leaves it; an accepted add makes one slot live that was not, the
-- lowest; an accepted retirement ends one; and 27 passes after any list of edits from a table that it passes. Assumes nothing.
-- Holds: Adds, adds, Retires, retires, added-sound, retired-sound, refused-edit, edit-sound, edits-sound, add-live, add-new,
--   add-lowest, retire-live
use mathlib.Core.Path.{◌≡◌, refl, sym, ap, ◌∙◌}
use mathlib.Core.Logic.{⊎_elim}
use mathlib.Core.Bool.{true, false, not, ◌&&◌, ◌||◌, and-false}
use mathlib.Core.List.{List, [], ◌∷◌}
use Prim.Native.Nat.{ℕ, suc, ◌-◌, ◌≤◌, ◌<◌, max}
use native.Mathlib.Omega.{arith}
use borrow.Author.Tests.{eq-eqb, ne_eqb, leb-false, lt-ltb, le-ltb, not-false, not-true}
use lib.ListN.{length, set, take, length-set, length-take}
use lib.Seq.{get_or-set_same, get_or-set_other, get_or-take, take-set-le, take-set-lt}
use lib.Dec.{ltb, eqb}
use lib.Ieee.{Float}
use Rattle.lists.specs.Lists.{count, member}
use Rattle.lists.proofs.Tests.{clash, or-none, or-false, or-true, and-of, and-true, le-or-lt, same_or}
use Rattle.lists.proofs.Least.{least-before, least-holds}
use Rattle.lists.proofs.Count.{count_set, count-more}
use Rattle.definition.specs.Refusals.{Verdict, accepted, refused, Refusal}
use Rattle.definition.specs.Outcome.{value_of}
use Rattle.definition.specs.Table.{Head, Table, capacity, flagged, live_slots_lem, next_slot, full, add_verdict, retire_verdict, added, add_answer_lem, add_table, retired, retire_table}
use Rattle.definition.specs.Slots.{rows_of}
use Rattle.definition.specs.Closing.{close_verdict, closed, close_table}
use Rattle.definition.specs.Edits.{Edit, adding, retiring, closing, lending, lent_by, edit_verdict, edited, after_all}
use Rattle.definition_laws.proofs.Accepted.{passes}
use Rattle.table_laws.proofs.Outcomes.{accepted-or, value-accepted, value-refused}
use Rattle.table_laws.proofs.Live.{Sound, SoundTable, sound-table, is-sound, nonzero, live-many, live-member, next-high}
use Rattle.table_laws.proofs.Closing.{closed-sound}

-- ---- what an accepted call has

-- adding: 27 passes, and there is a slot to take
pub record Adds (t : Table) : Type 0 where
  pub sound : Sound t
  pub room : full t ≡ false

pub adds : (d : ℕ) (t : Table) (point : List Float) → add_verdict d t point ≡ accepted → Adds t
unfolding add_verdict
adds d t point e =
    let t1 = passes _ _ e in
    let t11 = passes _ _ t1.1 in
    let t27 = passes _ _ t11.1 in
    let t7 = passes _ _ t27.1 in
    let t10 = passes _ _ t7.1 in
    let t21 = passes _ _ t10.1 in
    record { sound = t27.0; room = t21.0 }

-- retiring: 27 passes, and the slot is live
pub record Retires (t : Table) (slot : ℕ) : Type 0 where
  pub sound : Sound t
  pub below : slot < t.head.slots
  pub live : flagged t.flags slot ≡ true

pub retires : (d : ℕ) (t : Table) (slot : ℕ) → retire_verdict d t slot ≡ accepted → Retires t slot
unfolding retire_verdict
retires d t slot e =
    let t1 = passes _ _ e in
    let t11 = passes _ _ t1.1 in
    let t27 = passes _ _ t11.1 in
    let t22 = passes _ _ t27.1 in
    let both = or-none _ _ t22.0 in
    record { sound = t27.0; below = leb-false t.head.slots slot both.0; live = not-false _ both.1 }

-- ---- flags: one of them changed
flag-set : (flags : List ℕ) (slot b : ℕ) → slot < length flags → flagged (set flags slot b) slot ≡ nonzero b
flag-set flags slot b h = ap nonzero (get_or-set_same flags slot b 0 h)

flag-other : (flags : List ℕ) (slot b i : ℕ) → (i ≡ slot → ⊥) → flagged (set flags slot b) i ≡ flagged flags i
flag-other flags slot b i n = ap nonzero (get_or-set_other flags slot i b 0 n)

-- ---- an accepted add
module _ (t : Table) (a : Adds t) where
  abbrev slots : ℕ
  slots = t.head.slots

  abbrev slot : ℕ
  slot = next_slot t.head t.flags

  held : SoundTable t.head t.flags
  held = sound-table t.head t.flags a.sound

  slot-high : next_slot t.head t.flags ≤ t.head.slots
  slot-high = next-high t.head t.flags

  -- every slot below it is live, and it is not
  slot-lowest : (i : ℕ) → i < next_slot t.head t.flags → flagged t.flags i ≡ true
  unfolding next_slot
  slot-lowest i h = not-false _ (least-before (λ i. not (flagged t.flags i)) t.head.slots i h)

  slot-free : next_slot t.head t.flags < t.head.slots → flagged t.flags (next_slot t.head t.flags) ≡ false
  unfolding next_slot
  slot-free h = not-true _ (least-holds (λ i. not (flagged t.flags i)) t.head.slots h)

  -- there is room for it
  slot-within : slot < capacity t.flags
  slot-within =
      ⊎_elim
      (λ (h : slots ≤ slot). let e : slot ≡ slots = omega (arith, slot-high) in
      ⊎_elim
      (λ (f : slots ≡ capacity t.flags). clash (and-of (eq-eqb slot slots e) (eq-eqb slots (capacity t.flags) f)) a.room)
      (λ (f : slots ≡ capacity t.flags → ⊥). omega (arith, held.within))
      (same_or slots (capacity t.flags)))
      (λ (h : slot < slots). omega (arith, held.within))
      (le-or-lt slots slot)

  slot-fits : slot < length t.flags
  slot-fits = omega (arith, slot-within)

  -- how many flags are not 0 then
  one_more : count nonzero (take (max slots (suc slot)) (set t.flags slot 1)) ≡ suc (count nonzero (take slots t.flags))
  one_more =
      ⊎_elim
      (λ (h : slots ≤ slot). new (omega (arith, slot-high)))
      (λ (h : slot < slots). reused h)
      (le-or-lt slots slot)
    where
      new : slot ≡ slots → count nonzero (take (max slots (suc slot)) (set t.flags slot 1)) ≡ suc (count nonzero (take slots t.flags))
      new e =
          let m : max slots (suc slot) ≡ suc slot = omega arith in
          let c = count-more nonzero (set t.flags slot 1) slot 0 (omega (arith, slot-fits, length-set t.flags slot 1)) in
          ap (λ (n : ℕ). count nonzero (take n (set t.flags slot 1))) m
          ∙ omega (arith, rw (get_or-set_same t.flags slot 1 0 slot-fits, take-set-le slot t.flags slot 1 (omega arith)) at c, ap (λ (n : ℕ). count nonzero (take n t.flags)) e)

      reused : slot < slots → count nonzero (take (max slots (suc slot)) (set t.flags slot 1)) ≡ suc (count nonzero (take slots t.flags))
      reused h =
          let m : max slots (suc slot) ≡ slots = omega arith in
          let c = count_set nonzero (take slots t.flags) slot 1 0 (omega (arith, length-take slots t.flags, held.within)) in
          ap (λ (n : ℕ). count nonzero (take n (set t.flags slot 1))) m
          ∙ ap (count nonzero) (take-set-lt slots t.flags slot 1 h)
          ∙ omega (arith, rw (get_or-take slots t.flags slot 0 h, slot-free h) at c)

  abbrev added-head : Head
  added-head = record { slots = max slots (suc slot); live = suc t.head.live }

  pub added-sound : (d : ℕ) (point : List Float) → Sound (added d t point)
  unfolding added
  added-sound d point =
      let fits : max slots (suc slot) ≤ capacity (set t.flags slot 1) = rw (length-set t.flags slot 1) (omega (arith, slot-within, held.within)) in
      is-sound added-head (set t.flags slot 1)
      (record {
        within = fits;
        counted = ap suc (held.counted ∙ live-many t.head t.flags (omega (arith, held.within))) ∙ sym one_more ∙ sym (live-many added-head (set t.flags slot 1) (omega (arith, fits)));
      })

  -- which slots are live then: those before, and the one taken, which was not
  added-flags : (i : ℕ) → member i (live_slots_lem added-head (set t.flags slot 1)) ≡ (member i (live_slots_lem t.head t.flags) || eqb i slot)
  added-flags i =
      ⊎_elim
      (λ (e : i ≡ slot).
      rw (live-member added-head (set t.flags slot 1) i, e, lt-ltb slot (max slots (suc slot)) (omega arith), flag-set t.flags slot 1 slot-fits, eq-eqb slot slot refl, or-true))
      (λ (n : i ≡ slot → ⊥).
      rw (live-member added-head (set t.flags slot 1) i, live-member t.head t.flags i, flag-other t.flags slot 1 i n, ne_eqb i slot n, or-false, below i n))
      (same_or i slot)
    where
      below : (i : ℕ) → (i ≡ slot → ⊥) → ltb i (max slots (suc slot)) ≡ ltb i slots
      below i n = ⊎_elim (λ (h : slots ≤ i). le-ltb i (max slots (suc slot)) (omega (arith, slot-high)) ∙ sym (le-ltb i slots h)) (λ (h : i < slots). lt-ltb i (max slots (suc slot)) (omega arith) ∙ sym (lt-ltb i slots h)) (le-or-lt slots i)

  -- the one taken was not live, and every slot below it was
  added-free : member slot (live_slots_lem t.head t.flags) ≡ false
  added-free =
      live-member t.head t.flags slot
      ∙ ⊎_elim (λ (h : slots ≤ slot). rw (le-ltb slot slots h)) (λ (h : slot < slots). rw (slot-free h, and-false)) (le-or-lt slots slot)

  added-lowest : (i : ℕ) → i < slot → member i (live_slots_lem t.head t.flags) ≡ true
  added-lowest i h = live-member t.head t.flags i ∙ and-of (lt-ltb i slots (omega (arith, slot-high))) (slot-lowest i h)

-- ---- an accepted retirement
module _ (t : Table) (slot : ℕ) (a : Retires t slot) where
  kept : SoundTable t.head t.flags
  kept = sound-table t.head t.flags a.sound

  in-flags : slot < length t.flags
  in-flags = omega (arith, a.below, kept.within)

  abbrev retired-head : Head
  retired-head = record { slots = t.head.slots; live = t.head.live - 1 }

  one_less : suc (count nonzero (take t.head.slots (set t.flags slot 0))) ≡ count nonzero (take t.head.slots t.flags)
  one_less =
      let n = t.head.slots in
      let c = count_set nonzero (take n t.flags) slot 0 0 (omega (arith, length-take n t.flags, kept.within, a.below)) in
      ap (λ (l : List ℕ). suc (count nonzero l)) (take-set-lt n t.flags slot 0 a.below)
      ∙ omega (arith, rw (get_or-take n t.flags slot 0 a.below, a.live) at c)

  pub retired-sound : Sound (retired t slot)
  unfolding retired
  retired-sound =
      let fits : t.head.slots ≤ capacity (set t.flags slot 0) = rw (length-set t.flags slot 0) kept.within in
      is-sound retired-head (set t.flags slot 0)
      (record {
        within = fits;
        counted = omega (arith, kept.counted, live-many t.head t.flags (omega (arith, kept.within)), one_less, live-many retired-head (set t.flags slot 0) (omega (arith, fits)));
      })

  -- which slots are live then: those before, without the one freed
  retired-flags : (i : ℕ) → member i (live_slots_lem retired-head (set t.flags slot 0)) ≡ (member i (live_slots_lem t.head t.flags) && not (eqb i slot))
  retired-flags i =
      ⊎_elim
      (λ (e : i ≡ slot).
      rw (live-member retired-head (set t.flags slot 0) i, e, flag-set t.flags slot 0 in-flags, eq-eqb slot slot refl, and-false, and-false))
      (λ (n : i ≡ slot → ⊥).
      rw (live-member retired-head (set t.flags slot 0) i, live-member t.head t.flags i, flag-other t.flags slot 0 i n, ne_eqb i slot n, and-true))
      (same_or i slot)

-- ---- every call

-- a refused edit leaves the table: head and flags, and the coordinates that it was lent
pub refused-edit : (t : Table) (e : Edit) (r : Refusal) → edit_verdict t e ≡ refused r → edited t e ≡ lending t (lent_by e)
unfolding edit_verdict edited add_table retire_table close_table
refused-edit t (adding _ _ _) r e = value-refused _ _ _ r e
refused-edit t (retiring _ _ _) r e = value-refused _ _ _ r e
refused-edit t (closing _ _ _) r e = value-refused _ _ _ r e

-- 27 passes after an edit of a table that it passes: after an accepted one of each kind, and after a refused one
sound_after : (v : Verdict) (new old : Table) → (v ≡ accepted → Sound new) → Sound old → Sound (value_of v new old)
sound_after v new old ok s =
    ⊎_elim
    (λ e. rw (value-accepted v new old e) (ok e))
    (λ r. rw (value-refused v new old r.0 r.1) s)
    (accepted-or v)

pub edit-sound : (t : Table) (e : Edit) → Sound t → Sound (edited t e)
unfolding edited add_table retire_table close_table
edit-sound t (adding d cs point) s =
    let u = lending t cs in
    sound_after (add_verdict d u point) (added d u point) u (λ e. added-sound u (adds d u point e) d point) s
edit-sound t (retiring d cs slot) s =
    let u = lending t cs in
    sound_after (retire_verdict d u slot) (retired u slot) u (λ e. retired-sound u slot (retires d u slot e)) s
edit-sound t (closing d cs rename) s =
    let u = lending t cs in
    sound_after (close_verdict d u (length rename)) (closed d u) u (λ e. closed-sound u s d) s

all_sound : (t : Table) (es : List Edit) → Sound t → Sound (after_all t es)
unfolding after_all
all_sound t [] s = s
all_sound t (e ∷ es) s = all_sound (edited t e) es (edit-sound t e s)

-- THE LAW: after any list of edits from a table that 27 passes, 27 passes, and the live count is the number of live slots
pub edits-sound : (t : Table) (es : List Edit) → Sound t
    → Sound (after_all t es) × ((after_all t es).head.live ≡ length (rows_of (after_all t es)))
edits-sound t es s = let k = all_sound t es s in (k, (sound-table (after_all t es).head (after_all t es).flags k).counted)

-- ---- which slots are live after an accepted call, exactly
module _ (d : ℕ) (t : Table) (point : List Float) (e : add_verdict d t point ≡ accepted) where
  -- those before, and the answered one
  pub add-live : (i : ℕ) → member i (rows_of (add_table d t point)) ≡ (member i (rows_of t) || eqb i (add_answer_lem d t point).value)
  unfolding add_table add_answer_lem added
  add-live i = rw (value-accepted (add_verdict d t point) (added d t point) t e, value-accepted (add_verdict d t point) (next_slot t.head t.flags) 0 e) (added-flags t (adds d t point e) i)

  -- which was not
  pub add-new : member (add_answer_lem d t point).value (rows_of t) ≡ false
  unfolding add_answer_lem
  add-new = rw (value-accepted (add_verdict d t point) (next_slot t.head t.flags) 0 e) (added-free t (adds d t point e))

  -- every slot below the answered one is live
  pub add-lowest : (i : ℕ) → i < (add_answer_lem d t point).value → member i (rows_of t) ≡ true
  unfolding add_answer_lem
  add-lowest i h = added-lowest t (adds d t point e) i (rw (value-accepted (add_verdict d t point) (next_slot t.head t.flags) 0 e) at h)

-- those before, without the one freed
pub retire-live : (d : ℕ) (t : Table) (slot : ℕ) → retire_verdict d t slot ≡ accepted
    → (i : ℕ) → member i (rows_of (retire_table d t slot)) ≡ (member i (rows_of t) && not (eqb i slot))
unfolding retire_table retired
retire-live d t slot e i = rw (value-accepted (retire_verdict d t slot) (retired t slot) t e) (retired-flags t slot (retires d t slot e) i)
