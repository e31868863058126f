-- Numbers, floats and marks as bytes. Definitions only.
use Rattle.std.specs.Prelude.{ℕ, zero, suc, ◌+◌, ◌*◌, ◌/◌, ◌%◌, Bool, ◌&&◌, List, [], ◌∷◌, map, length, drop, get_or, leb, eqb, Float}
use Rattle.std.specs.Float.{binary64}
use Rattle.std.specs.Float.Ieee.{of_bits, to_bits}
use Rattle.lists.specs.Lists.{from, joined}

-- ---- numbers, little-endian

-- the number that the first k bytes stand for
unfoldable pub little : ℕ → List ℕ → ℕ
little zero bs = 0
little (suc k) [] = 0
little (suc k) (b ∷ bs) = b + 256 * little k bs

-- the number in the k bytes from `at` on
abbrev pub field : ℕ → ℕ → List ℕ → ℕ
field k at bs = little k (drop at bs)

-- the k lowest bytes of n
unfoldable pub bytes_of : ℕ → ℕ → List ℕ
bytes_of zero n = []
bytes_of (suc k) n = n % 256 ∷ bytes_of k (n / 256)

-- ---- counts and rows

-- the bytes of a count or a row
abbrev pub number_size : ℕ
number_size = 4

-- the number in the 4 bytes from `at` on
abbrev pub number_at : ℕ → List ℕ → ℕ
number_at at bs = field number_size at bs

-- the n numbers from `at` on
unfoldable pub numbers_at : ℕ → ℕ → List ℕ → List ℕ
numbers_at n at bs = map (λ i. number_at (at + number_size * i) bs) (from 0 n)

abbrev pub number_bytes : ℕ → List ℕ
number_bytes n = bytes_of number_size n

unfoldable pub numbers_bytes : List ℕ → List ℕ
numbers_bytes ns = joined (map number_bytes ns)

-- ---- floats, by their bits

-- the bytes of a float
abbrev pub float_size : ℕ
float_size = 8

-- the float in the 8 bytes from `at` on
abbrev pub float_at : ℕ → List ℕ → Float
float_at at bs = of_bits binary64 (field float_size at bs)

-- the n floats from `at` on
unfoldable pub floats_at : ℕ → ℕ → List ℕ → List Float
floats_at n at bs = map (λ i. float_at (at + float_size * i) bs) (from 0 n)

abbrev pub float_bytes : Float → List ℕ
float_bytes x = bytes_of float_size (to_bits binary64 x)

unfoldable pub floats_bytes : List Float → List ℕ
floats_bytes xs = joined (map float_bytes xs)

-- ---- marks

-- a record's mark: its first two bytes
pub record Mark : Type 0 where
  pub first : ℕ
  pub second : ℕ

abbrev pub mark_of : ℕ → ℕ → Mark
mark_of first second = record { first = first; second = second }

abbrev pub mark_size : ℕ
mark_size = 2

abbrev pub mark_bytes : Mark → List ℕ
mark_bytes m = m.first ∷ m.second ∷ []

-- the bytes begin with the mark
abbrev pub marked_by : Mark → List ℕ → Bool
marked_by m bs = eqb (get_or bs 0 0) m.first && eqb (get_or bs 1 0) m.second

-- a record with this mark and this many bytes in all stands whole at the front
abbrev pub whole : Mark → ℕ → List ℕ → Bool
whole m size bs = leb size (length bs) && marked_by m bs

-- ---- fields

-- a field of a record: the offset of its first byte, and how many bytes it has
pub record Field : Type 0 where
  pub offset : ℕ
  pub width : ℕ

-- the offset of what comes next
abbrev pub field_end : Field → ℕ
field_end f = f.offset + f.width

-- the number in the field
abbrev pub value_at : Field → List ℕ → ℕ
value_at f bs = field f.width f.offset bs
