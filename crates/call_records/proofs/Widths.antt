-- The bytes at the front of what is left of a record, and the number that they stand for. Assumes nothing.
-- Holds: byte-front, word-front, bits-front, read-on, behind, entry-behind, entries-past
use mathlib.Core.Path.{◌≡◌, sym, ap, ◌∙◌}
use Prim.Native.Nat.{ℕ, ◌+◌, ◌*◌, min, ◌≤◌, ◌<◌}
use native.Mathlib.Nat.{add_assoc, mul-suc}
use native.Mathlib.Numerals.{add-one}
use native.Mathlib.Omega.{arith}
use mathlib.Core.List.{List}
use lib.ListN.{length, get_or, take, drop, length-drop}
use lib.Seq.{drop-drop, get_or-take}
use Rattle.std.specs.Int.{w32, w64, from_le_bytes}
use Rattle.formats.specs.Bytes.{field, number_size}
use Rattle.bytes_in.proofs.Bytes.{byte-is, field-add}

module _ (bs : List ℕ) where
  pub byte-front : 1 ≤ length bs → get_or (take 1 bs) 0 0 ≡ field 1 0 bs
  byte-front h = omega (arith, get_or-take 1 bs 0 0 (omega arith), byte-is bs 0 h)

  pub word-front : 4 ≤ length bs → from_le_bytes w32 (take 4 bs) ≡ field 4 0 bs
  word-front h =
      omega (
        arith,
        get_or-take 4 bs 0 0 (omega arith),
        get_or-take 4 bs 1 0 (omega arith),
        get_or-take 4 bs 2 0 (omega arith),
        get_or-take 4 bs 3 0 (omega arith),
        byte-is bs 0 (omega arith),
        byte-is bs 1 (omega arith),
        byte-is bs 2 (omega arith),
        byte-is bs 3 (omega arith),
        field-add 1 1 0 bs,
        field-add 2 1 0 bs,
        field-add 3 1 0 bs,
      )

  pub bits-front : 8 ≤ length bs → from_le_bytes w64 (take 8 bs) ≡ field 8 0 bs
  bits-front h =
      omega (
        arith,
        get_or-take 8 bs 0 0 (omega arith),
        get_or-take 8 bs 1 0 (omega arith),
        get_or-take 8 bs 2 0 (omega arith),
        get_or-take 8 bs 3 0 (omega arith),
        get_or-take 8 bs 4 0 (omega arith),
        get_or-take 8 bs 5 0 (omega arith),
        get_or-take 8 bs 6 0 (omega arith),
        get_or-take 8 bs 7 0 (omega arith),
        byte-is bs 0 (omega arith),
        byte-is bs 1 (omega arith),
        byte-is bs 2 (omega arith),
        byte-is bs 3 (omega arith),
        byte-is bs 4 (omega arith),
        byte-is bs 5 (omega arith),
        byte-is bs 6 (omega arith),
        byte-is bs 7 (omega arith),
        field-add 1 1 0 bs,
        field-add 2 1 0 bs,
        field-add 3 1 0 bs,
        field-add 4 1 0 bs,
        field-add 5 1 0 bs,
        field-add 6 1 0 bs,
        field-add 7 1 0 bs,
      )

-- a field that is read after m bytes of a record: what it is in the record, and what is left
pub read-on : (k m : ℕ) (bs old new : List ℕ) (n : ℕ) → m ≤ length bs → old ≡ drop m bs
    → (k ≤ length old) × (n ≡ field k 0 old) × (new ≡ drop k old)
    → (m + k ≤ length bs) × (n ≡ field k m bs) × (new ≡ drop (m + k) bs)
read-on k m bs old new n h e (room, value, rest) =
    (omega (arith, room, ap length e, length-drop m bs), value ∙ ap (field k 0) e, rest ∙ ap (drop k) e ∙ drop-drop k m bs)

-- what is left behind one part of a record, and behind the next
pub behind : (m k : ℕ) (bs old new : List ℕ) → old ≡ drop m bs → new ≡ drop k old → new ≡ drop (m + k) bs
behind m k bs old new e f = f ∙ ap (drop k) e ∙ drop-drop k m bs

-- ---- behind the entries of a list that were read, of w bytes each, as many as the index and the count say
module _ (w i count : ℕ) (bs old : List ℕ) (e : old ≡ drop (number_size + w * min i count) bs) where
  pub entry-behind : i < count → (new : List ℕ) → new ≡ drop w old → new ≡ drop (number_size + w * min (i + 1) count) bs
  entry-behind h new f =
      let here : min i count ≡ i = omega arith in
      let next : min (i + 1) count ≡ i + 1 = omega arith in
      behind (number_size + w * min i count) w bs old new e f
      ∙ ap (λ (k : ℕ). drop k bs) (rw (here, next) (add_assoc number_size (w * i) w ∙ ap (λ (k : ℕ). number_size + k) (sym (ap (λ (k : ℕ). w * k) (add-one i) ∙ mul-suc w i))))

  pub entries-past : count ≤ i → old ≡ drop (number_size + w * min (i + 1) count) bs
  entries-past h =
      let same : min i count ≡ min (i + 1) count = omega arith in
      e ∙ ap (λ (k : ℕ). drop (number_size + w * k) bs) same
