-- Domains written to the lists one after another. Assumes nothing.
-- Holds: Wide, wide-append, room-front, written_none, Long, written-long, room_after, written-append
use mathlib.Core.Path.{◌≡◌, sym, ap, ◌∙◌}
use mathlib.Core.List.{List, [], ◌++◌}
use Prim.Native.Nat.{ℕ, ◌+◌, ◌*◌, ◌≤◌}
use native.Mathlib.Omega.{arith}
use native.Mathlib.Nat.{mul-add, mul-le-mul_left}
use lib.ListN.{length, length-append}
use Rattle.lists.specs.Lists.{joined}
use Rattle.lists.proofs.Put.{put-nil, put-next-at, length-put}
use Rattle.lists.proofs.Joined.{joined-map-append}
use Rattle.definition.specs.Tree.{Leaf}
use Rattle.definition.specs.Packed.{row_numbers, row_floats_lem, leaf_floats, stretches}
use Rattle.definition_laws.proofs.Fit.{length-stretches}
use Rattle.packed.specs.Reading.{Packed, own_in_lem, borrowed_in, boxes_in}
use Rattle.packed.proofs.Packing.{stretches-append}
use Rattle.load_lists.specs.declared.Cursor.{Cursor}
use Rattle.load_lists.specs.Places.{Room, Written}

-- ---- how much is written of two lists of domains
module _ (xs ys : List Leaf) where
  own-both : length (own_in_lem (xs ++ ys)) ≡ length (own_in_lem xs) + length (own_in_lem ys)
  own-both = ap length (joined-map-append (λ (f : Leaf). f.own) xs ys) ∙ length-append (own_in_lem xs) (own_in_lem ys)

  borrowed-both : length (borrowed_in (xs ++ ys)) ≡ length (borrowed_in xs) + length (borrowed_in ys)
  borrowed-both = ap length (joined-map-append (λ (f : Leaf). f.borrowed) xs ys) ∙ length-append (borrowed_in xs) (borrowed_in ys)

  boxes-both : length (boxes_in (xs ++ ys)) ≡ length (boxes_in xs) + length (boxes_in ys)
  boxes-both = ap length (joined-map-append leaf_floats xs ys) ∙ length-append (boxes_in xs) (boxes_in ys)

-- their boxes have all their bounds, each with a cover
abbrev pub Wide : ℕ → List Leaf → Type 0
Wide d fs = length (boxes_in fs) ≡ row_floats_lem d * length fs

pub wide-append : (d : ℕ) (xs ys : List Leaf) → Wide d xs → Wide d ys → Wide d (xs ++ ys)
wide-append d xs ys h g =
    boxes-both xs ys ∙ omega (arith, h, g, mul-add (row_floats_lem d) (length xs) (length ys)) ∙ ap (λ (n : ℕ). row_floats_lem d * n) (sym (length-append xs ys))

-- room for two lists of domains is room for the first
pub room-front : (xs ys : List Leaf) {c : Cursor} {p : Packed} → Room (xs ++ ys) c p → Room xs c p
room-front xs ys {c} {p} m =
    let few = length-append xs ys in
    let w = row_floats_lem p.dimension in
    let within : w * (c.row + length xs) ≤ w * (c.row + length (xs ++ ys)) = mul-le-mul_left w (omega arith) in
    record {
      internals = omega (arith, m.internals, own-both xs ys);
      domains = omega (arith, m.domains);
      boxes = omega (arith, m.boxes, within);
      borrowed = omega (arith, m.borrowed, borrowed-both xs ys);
    }

-- ---- nothing written
pub written_none : (c : Cursor) (p : Packed) → Written [] c c p p
unfolding joined stretches
written_none c p = record {
  own_end = omega arith;
  row_end = omega arith;
  borrowed_end = omega arith;
  internals = sym (put-nil p.internals c.own);
  domains = sym (put-nil p.domains (row_numbers * c.row));
  boxes = sym (put-nil p.boxes (row_floats_lem p.dimension * c.row));
  borrowed = sym (put-nil p.borrowed c.borrowed);
}

-- ---- the lists stay as long as they are
pub record Long (p q : Packed) : Type 0 where
  pub internals : length q.internals ≡ length p.internals
  pub domains : length q.domains ≡ length p.domains
  pub boxes : length q.boxes ≡ length p.boxes
  pub borrowed : length q.borrowed ≡ length p.borrowed

pub written-long : (fs : List Leaf) {c r : Cursor} {p q : Packed} → Wide p.dimension fs → Room fs c p → Written fs c r p q → Long p q
written-long fs {c} {p = p} wide m w =
    let width = row_floats_lem p.dimension in
    record {
      internals = rw w.internals (length-put p.internals c.own (own_in_lem fs) m.internals);
      domains =
          rw w.domains (length-put p.domains (row_numbers * c.row) (stretches c.own c.borrowed fs)
          (omega (arith, m.domains, length-stretches c.own c.borrowed fs)));
      boxes =
          rw w.boxes (length-put p.boxes (width * c.row) (boxes_in fs) (omega (arith, m.boxes, wide, mul-add width c.row (length fs))));
      borrowed = rw w.borrowed (length-put p.borrowed c.borrowed (borrowed_in fs) m.borrowed);
    }

-- ---- the first of two lists of domains, and then the second
module _ (xs ys : List Leaf) {c r : Cursor} {p q : Packed} (e : q.dimension ≡ p.dimension) (wide : Wide p.dimension xs)
    (m : Room (xs ++ ys) c p) (w : Written xs c r p q) where
  -- the rest of the room
  pub room_after : Room ys r q
  room_after =
      let l = written-long xs wide (room-front xs ys m) w in
      let few = length-append xs ys in
      let row : r.row + length ys ≡ c.row + length (xs ++ ys) = omega (arith, w.row_end) in
      record {
        internals = omega (arith, l.internals, w.own_end, m.internals, own-both xs ys);
        domains = omega (arith, l.domains, row, m.domains);
        boxes = rw (e, row, l.boxes) m.boxes;
        borrowed = omega (arith, l.borrowed, w.borrowed_end, m.borrowed, borrowed-both xs ys);
      }

  pub written-append : {s : Cursor} {t : Packed} → Written ys r s q t → Written (xs ++ ys) c s p t
  written-append v =
      let d = p.dimension in
      let few = length-append xs ys in
      record {
        own_end = omega (arith, v.own_end, w.own_end, own-both xs ys);
        row_end = omega (arith, v.row_end, w.row_end);
        borrowed_end = omega (arith, v.borrowed_end, w.borrowed_end, borrowed-both xs ys);
        internals =
            v.internals ∙ rw (w.internals, joined-map-append (λ (f : Leaf). f.own) xs ys)
            (put-next-at p.internals c.own (own_in_lem xs) (own_in_lem ys) r.own (omega (arith, m.internals)) (sym w.own_end));
        domains =
            v.domains ∙ rw (w.domains, stretches-append c.own c.borrowed xs ys, ← w.own_end, ← w.borrowed_end)
            (put-next-at p.domains (row_numbers * c.row) (stretches c.own c.borrowed xs) (stretches r.own r.borrowed ys) (row_numbers * r.row)
            (omega (arith, m.domains)) (omega (arith, w.row_end, length-stretches c.own c.borrowed xs)));
        boxes =
            v.boxes ∙ rw (e, w.boxes, joined-map-append leaf_floats xs ys)
            (put-next-at p.boxes (row_floats_lem d * c.row) (boxes_in xs) (boxes_in ys) (row_floats_lem d * r.row)
            (omega (arith, m.boxes, mul-add (row_floats_lem d) c.row (length (xs ++ ys)))) (rw w.row_end (omega (arith, wide, mul-add (row_floats_lem d) c.row (length xs)))));
        borrowed =
            v.borrowed ∙ rw (w.borrowed, joined-map-append (λ (f : Leaf). f.borrowed) xs ys)
            (put-next-at p.borrowed c.borrowed (borrowed_in xs) (borrowed_in ys) r.borrowed (omega (arith, m.borrowed)) (sym w.borrowed_end));
      }
