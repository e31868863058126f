-- The pass over the slots: what it has written after i of them, at its start, at each turn and at its end. Assumes nothing.
-- Holds: copy-none, copy-down, slot-room, is-retired, is_live, live-one-more, live_same, live-low, parts-length, MovedDown,
--   starts, ends, low, turn
use mathlib.Core.Path.{◌≡◌, refl, sym, ap, ◌∙◌}
use mathlib.Core.Logic.{⊎_elim}
use mathlib.Core.Bool.{true, false, cond}
use mathlib.Core.List.{List, [], ◌∷◌, ◌++◌, map}
use Prim.Native.Nat.{ℕ, ◌+◌, ◌*◌, ◌≤◌, ◌<◌}
use native.Mathlib.Omega.{arith}
use native.Mathlib.Nat.{add-zero, zero-add, mul-le-mul_right}
use native.Mathlib.Numerals.{add-one}
use borrow.Author.Tests.{eq-eqb, ne_eqb}
use lib.ListN.{length, get_or, set, replicate, length-append, length-replicate}
use lib.Ieee.{Float}
use Rattle.lists.specs.Lists.{one_if, keep, count, from, joined, put, part}
use Rattle.lists.proofs.Tests.{true-or-false}
use Rattle.lists.proofs.Count.{keep-in, keep_out, length-keep, count-len}
use Rattle.lists.proofs.From.{from-mem, below_suc, length_from, map-below-suc, length-map-from}
use Rattle.lists.proofs.Joined.{joined-map-snoc}
use Rattle.lists.proofs.Members.{keep-mem}
use Rattle.lists.proofs.Put.{put-nil, put-next-at, put-snoc, put-same-more, get_d-put-after, length_part, part-nil, part-snoc, part-put-after}
use Rattle.definition.specs.Table.{flagged}
use Rattle.table_laws.proofs.Ranks.{stretch-below, length-parts}
use Rattle.closing.specs.Passed.{live_below_lem, live_parts, renames}

-- a stretch that is copied down within its list: none of it yet
pub copy-none : {A : Type 0} (l : List A) (to at : ℕ) → l ≡ put l to (part l at 0)
copy-none l to at = rw (part-nil l at) (sym (put-nil l to))

-- and one element more: what is read was not written yet
pub copy-down : {A : Type 0} (l m : List A) (at to i : ℕ) (z : A) → to ≤ at → at + i < length l → m ≡ put l to (part l at i)
    → set m (to + i) (get_or m (at + i) z) ≡ put l to (part l at (i + 1))
copy-down {A} l m at to i z h g e =
    ap (λ (x : List A). set x (to + i) (get_or x (at + i) z)) e
    ∙ ap (λ (v : A). set (put l to (part l at i)) (to + i) v) (get_d-put-after l to (part l at i) (at + i) z (omega arith) (omega (arith, length_part l at i (omega arith))))
    ∙ put-snoc l to (part l at i) (get_or l (at + i) z) (to + i) (omega (arith, length_part l at i (omega arith))) (omega arith)
    ∙ ap (put l to) (sym (part-snoc l at i z g) ∙ ap (part l at) (sym (add-one i)))

-- the coordinates of a slot below n stand in those of n slots
pub slot-room : (d i n k : ℕ) → i < n → n * d ≤ k → i * d + d ≤ k
slot-room d i n k h g = omega (arith, stretch-below d i n h)

-- ---- a slot by its flag, as the code asks it
module _ (flags : List ℕ) (i : ℕ) where
  pub is-retired : get_or flags i 0 ≡ 0 → flagged flags i ≡ false
  is-retired z = simp (eq-eqb (get_or flags i 0) 0 z)

  pub is_live : (get_or flags i 0 ≡ 0 → ⊥) → flagged flags i ≡ true
  is_live h = simp (ne_eqb (get_or flags i 0) 0 h)

-- ---- the live slots below i: one slot more
module _ (flags : List ℕ) (i : ℕ) where
  pub live-one-more : flagged flags i ≡ true → live_below_lem flags (i + 1) ≡ live_below_lem flags i ++ i ∷ []
  live-one-more e = ap (keep (flagged flags)) (below_suc i) ∙ keep-in (flagged flags) (from 0 i) i e

  pub live_same : flagged flags i ≡ false → live_below_lem flags (i + 1) ≡ live_below_lem flags i
  live_same e = ap (keep (flagged flags)) (below_suc i) ∙ keep_out (flagged flags) (from 0 i) i e

  -- they are no more than i
  pub live-low : length (live_below_lem flags i) ≤ i
  live-low = omega (arith, length-keep (flagged flags) (from 0 i), count-len (flagged flags) (from 0 i), length_from 0 i)

-- each has d coordinates
module _ (d : ℕ) (cs : List Float) (flags : List ℕ) where
  parts_more : (i : ℕ) → flagged flags i ≡ true → live_parts d cs flags (i + 1) ≡ live_parts d cs flags i ++ part cs (i * d) d
  parts_more i e = ap (λ (l : List ℕ). joined (map (λ j. part cs (j * d) d) l)) (live-one-more flags i e) ∙ joined-map-snoc (λ j. part cs (j * d) d) (live_below_lem flags i) i

  parts_same : (i : ℕ) → flagged flags i ≡ false → live_parts d cs flags (i + 1) ≡ live_parts d cs flags i
  parts_same i e = ap (λ (l : List ℕ). joined (map (λ j. part cs (j * d) d) l)) (live_same flags i e)

  pub parts-length : (i : ℕ) → i * d ≤ length cs → length (live_parts d cs flags i) ≡ length (live_below_lem flags i) * d
  parts-length i h =
      length-parts cs d (live_below_lem flags i)
      (λ j m. slot-room d j i (length cs) (omega (arith, from-mem 0 i (keep-mem (flagged flags) (from 0 i) m).0)) h)

-- ---- the pass
-- After i slots, the next live one going to slot `to`: the live ones stand at the front, in their order, and their flags are 1; the new
-- slot of each of the i is noted; the rest of each list is as found.
pub record MovedDown (d slots : ℕ) (flags : List ℕ) (cs : List Float) (rename flags' : List ℕ) (cs' : List Float) (rename' : List ℕ) (i to : ℕ) : Type 0 where
  pub many : to ≡ length (live_below_lem flags i)
  pub flags_are : flags' ≡ put flags 0 (replicate to 1)
  pub coordinates_are : cs' ≡ put cs 0 (live_parts d cs flags i)
  pub renamed : rename' ≡ put rename 0 (renames flags slots i)

module _ (d slots : ℕ) (flags : List ℕ) (cs : List Float) (rename : List ℕ) where
  pub starts : MovedDown d slots flags cs rename flags cs rename 0 0
  unfolding from keep joined
  starts = record { many = refl; flags_are = sym (put-nil flags 0); coordinates_are = sym (put-nil cs 0); renamed = sym (put-nil rename 0) }

  module _ (flags' : List ℕ) (cs' : List Float) (rename' : List ℕ) (i to : ℕ) (m : MovedDown d slots flags cs rename flags' cs' rename' i to) where
    pub ends : i ≡ slots → (flags' ≡ put flags 0 (replicate (length (live_below_lem flags slots)) 1)) × ((cs' ≡ put cs 0 (live_parts d cs flags slots)) × (rename' ≡ put rename 0 (renames flags slots slots)))
    ends e = (
      m.flags_are ∙ ap (λ (k : ℕ). put flags 0 (replicate k 1)) (m.many ∙ ap (λ (k : ℕ). length (live_below_lem flags k)) e),
      (m.coordinates_are ∙ ap (λ (k : ℕ). put cs 0 (live_parts d cs flags k)) e, m.renamed ∙ ap (λ (k : ℕ). put rename 0 (renames flags slots k)) e),
    )

    pub low : to ≤ i
    low = omega (arith, m.many, live-low flags i)

    module _ (in-flags : i < length flags) (in-coordinates : i * d + d ≤ length cs) (in-rename : i < length rename) where
      -- the flag that is read is as found
      as-found : flagged flags' i ≡ flagged flags i
      as-found = rw (m.flags_are, get_d-put-after flags 0 (replicate to 1) i 0 (omega arith) (omega (arith, length-replicate {A = ℕ} to 1, low)))

      filled : length (live_parts d cs flags i) ≡ to * d
      filled = parts-length d cs flags i (omega arith) ∙ ap (λ (k : ℕ). k * d) (sym m.many)

      noted : (v : ℕ) → v ≡ cond (flagged flags i) (count (flagged flags) (from 0 i)) slots → set rename' i v ≡ put rename 0 (renames flags slots (i + 1))
      noted v e =
          let f : ℕ → ℕ = λ j. cond (flagged flags j) (count (flagged flags) (from 0 j)) slots in
          rw (m.renamed, e) (put-snoc rename 0 (renames flags slots i) (f i) i (omega (arith, length-map-from f 0 i)) in-rename ∙ ap (put rename 0) (sym (map-below-suc f i)))

      -- a live slot moves down; a retired one is passed over
      module _ (flags'' : List ℕ) (cs'' : List Float) (rename'' : List ℕ) (next : ℕ)
          (next-is : next ≡ to + one_if (flagged flags' i)) (flags_are : flags'' ≡ cond (flagged flags' i) (set flags' to 1) flags')
          (coordinates_are : cs'' ≡ cond (flagged flags' i) (put cs' (to * d) (part cs' (i * d) d)) cs') (renamed : rename'' ≡ set rename' i (cond (flagged flags' i) to slots)) where
        turn-live : flagged flags i ≡ true → MovedDown d slots flags cs rename flags'' cs'' rename'' (i + 1) next
        turn-live e =
            let f : flagged flags' i ≡ true = as-found ∙ e in
            let n : next ≡ to + 1 = next-is ∙ rw f in
            let below : to * d ≤ i * d = mul-le-mul_right d low in
            let flags-now : flags'' ≡ put flags 0 (replicate (to + 1) 1) =
            flags_are ∙ rw (f, m.flags_are) (ap (λ (k : ℕ). set (put flags 0 (replicate to 1)) k 1) (sym (zero-add to)) ∙ put-same-more flags 0 to 1 (omega (arith, low))) in
            let coordinates-now : cs'' ≡ put cs 0 (live_parts d cs flags (i + 1)) =
            coordinates_are ∙ rw (f, m.coordinates_are, part-put-after cs 0 (live_parts d cs flags i) (i * d) d (omega arith) (omega (arith, filled, below)))
            (put-next-at cs 0 (live_parts d cs flags i) (part cs (i * d) d) (to * d) (omega arith) (omega (arith, filled)) ∙ ap (put cs 0) (sym (parts_more d cs flags i e))) in
            record {
              many = omega (arith, n, m.many, ap length (live-one-more flags i e), length-append (live_below_lem flags i) (i ∷ []));
              flags_are = rw n flags-now;
              coordinates_are = coordinates-now;
              renamed = renamed ∙ noted (cond (flagged flags' i) to slots) (rw (f, e) (m.many ∙ length-keep (flagged flags) (from 0 i)));
            }

        turn-retired : flagged flags i ≡ false → MovedDown d slots flags cs rename flags'' cs'' rename'' (i + 1) next
        turn-retired e =
            let f : flagged flags' i ≡ false = as-found ∙ e in
            let n : next ≡ to = next-is ∙ rw (f, add-zero) in
            record {
              many = n ∙ m.many ∙ ap length (sym (live_same flags i e));
              flags_are = rw n (flags_are ∙ rw f m.flags_are);
              coordinates_are = coordinates_are ∙ rw f m.coordinates_are ∙ ap (put cs 0) (sym (parts_same d cs flags i e));
              renamed = renamed ∙ noted (cond (flagged flags' i) to slots) (rw (f, e));
            }

        pub turn : MovedDown d slots flags cs rename flags'' cs'' rename'' (i + 1) next
        turn = ⊎_elim turn-live turn-retired (true-or-false (flagged flags i))
