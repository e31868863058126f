-- Numbers and marks of bytes: a field by its parts, and when a record stands whole. Assumes nothing.
-- Holds: byte-is, field-add, four_bytes, eight_bytes, chunk-long, chunk-field, record-room
use mathlib.Core.Path.{◌≡◌, refl, ap, ◌∙◌}
use mathlib.Core.Bool.{true}
use Prim.Native.Nat.{ℕ, zero, suc, ◌+◌, ◌-◌, ◌*◌, ◌^◌, ◌≤◌, ◌<◌}
use native.Mathlib.Nat.{zero-add, suc-add, pow-zero, pow-succ', one-mul, mul-zero, mul_assoc}
use native.Mathlib.Omega.{arith}
use mathlib.Core.List.{List, [], ◌∷◌}
use lib.ListN.{length, get_or, take, drop, length-drop}
use lib.Seq.{drop-cons, drop-drop}
use lib.Dec.{leb}
use borrow.Author.Tests.{leb-true}
use Rattle.std.specs.Array.{IsFirstChunk}
use Rattle.std.specs.Int.{w32, w64, from_le_bytes}
use Rattle.std.proofs.lemmas.List.{take_rest, length-take-le}
use Rattle.lists.proofs.Tests.{and-fst}
use Rattle.formats.specs.Bytes.{little, field, Mark, marked_by, whole}

-- ---- a field
pub byte-is : (bs : List ℕ) (at : ℕ) → at < length bs → get_or bs at 0 ≡ field 1 at bs
unfolding little
byte-is bs at h = rw (drop-cons bs at 0 h) (omega arith)

little-nil : (k : ℕ) → little k [] ≡ 0
unfolding little
little-nil zero = refl
little-nil (suc k) = refl

little-add : (i k : ℕ) (bs : List ℕ) → little (i + k) bs ≡ little i bs + 256 ^ i * little k (drop i bs)
unfolding little
little-add zero k bs = rw (zero-add k, pow-zero, one-mul, zero-add)
little-add (suc i) k [] = rw (suc-add, little-nil k, mul-zero)
little-add (suc i) k (b ∷ bs) =
    rw (suc-add, pow-succ', mul_assoc)
    (omega (arith, little-add i k bs))

-- its first i bytes, and the k after them
pub field-add : (i k at : ℕ) (bs : List ℕ) → field (i + k) at bs ≡ field i at bs + 256 ^ i * field k (at + i) bs
field-add i k at bs = little-add i k (drop at bs) ∙ ap (λ (l : List ℕ). little i (drop at bs) + 256 ^ i * little k l) (drop-drop i at bs)

-- of four bytes, and of eight
pub four_bytes : (bs : List ℕ) → length bs ≡ 4 → from_le_bytes w32 bs ≡ field 4 0 bs
four_bytes bs h =
    omega (
      arith,
      byte-is bs 0 (omega arith),
      byte-is bs 1 (omega arith),
      byte-is bs 2 (omega arith),
      byte-is bs 3 (omega arith),
      field-add 1 1 0 bs,
      field-add 2 1 0 bs,
      field-add 3 1 0 bs,
    )

pub eight_bytes : (bs : List ℕ) → length bs ≡ 8 → from_le_bytes w64 bs ≡ field 8 0 bs
eight_bytes bs h =
    omega (
      arith,
      byte-is bs 0 (omega arith),
      byte-is bs 1 (omega arith),
      byte-is bs 2 (omega arith),
      byte-is bs 3 (omega arith),
      byte-is bs 4 (omega arith),
      byte-is bs 5 (omega arith),
      byte-is bs 6 (omega arith),
      byte-is bs 7 (omega arith),
      field-add 1 1 0 bs,
      field-add 2 1 0 bs,
      field-add 3 1 0 bs,
      field-add 4 1 0 bs,
      field-add 5 1 0 bs,
      field-add 6 1 0 bs,
      field-add 7 1 0 bs,
    )

little-take : (k : ℕ) (bs : List ℕ) → little k (take k bs) ≡ little k bs
unfolding little
little-take zero bs = refl
little-take (suc k) [] = refl
little-take (suc k) (b ∷ bs) = ap (λ (n : ℕ). b + 256 * n) (little-take k bs)

-- the first k of the bytes from `at` on, as an array
module _ (k at : ℕ) (bs : List ℕ) {ys : List ℕ} (c : IsFirstChunk (take (length bs - at) (drop at bs)) ys k) where
  pub chunk-long : length ys ≡ k
  chunk-long = ap length c.same ∙ length-take-le k (take (length bs - at) (drop at bs)) c.enough

  pub chunk-field : field k 0 ys ≡ field k at bs
  chunk-field = ap (little k) (c.same ∙ ap (take k) (take_rest bs at)) ∙ little-take k (drop at bs)

-- ---- a record
-- one that stands whole ends within the list
pub record-room : (m : Mark) (size at : ℕ) (bs : List ℕ) → at ≤ length bs → whole m size (drop at bs) ≡ true → at + size ≤ length bs
record-room m size at bs h e =
    omega (arith, leb-true size (length (drop at bs)) (and-fst (leb size (length (drop at bs))) (marked_by m (drop at bs)) e), length-drop at bs)
