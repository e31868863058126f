-- What the steps of the root's code find, by bit patterns of 64 bits. Definitions only.
use Rattle.std.specs.Prelude.{ℕ, zero, suc, ◌+◌, ◌*◌, ◌/◌, ◌%◌, ◌^◌, ◌≤◌, ◌<◌, ◌≡◌}
use Rattle.std.specs.Float.{binary64}
use Rattle.std.specs.Float.Ieee.{of_bits}
use Rattle.definition.specs.Number.{root_of_units}

-- the size in units of 2 ^ -1074, by a pattern's exponent field and its digits
abbrev pub field_units : ℕ → ℕ → ℕ
field_units zero t = t
field_units (suc x) t = (2 ^ 52 + t) * 2 ^ x

-- the size of the finite value with the pattern b
abbrev pub bit_units : ℕ → ℕ
bit_units b = field_units (b / 2 ^ 52) (b % 2 ^ 52)

-- in units of 2 ^ -2148 that value is m * 2 ^ e, with 53 digits in m
pub record Leading (b m e : ℕ) : Type 0 where
  pub low : 2 ^ 52 ≤ m
  pub high : m < 2 ^ 53
  pub least : 1000 ≤ e
  pub most : e ≤ 3200
  pub size : bit_units b * 2 ^ 1074 ≡ m * 2 ^ e

-- q is the whole number nearest to the root of A, and has 53 digits
pub record NearRoot (A q : ℕ) : Type 0 where
  pub low : q * q < A + q
  pub high : A ≤ q * q + q
  pub least : 2 ^ 52 ≤ q
  pub most : q < 2 ^ 53
  pub large : 2 ^ 52 * 2 ^ 52 ≤ A
  pub small : A < 2 ^ 53 * 2 ^ 53

-- r is the pattern of the root of the value with the pattern b
pub record RootBits (b r : ℕ) : Type 0 where
  pub below : r < 2047 * 2 ^ 52
  pub value : of_bits binary64 r ≡ root_of_units (bit_units b)
