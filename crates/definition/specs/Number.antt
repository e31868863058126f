-- Numbers (module 1): IEEE 754 binary64 values, their rounded operations, and the square root. Definitions only.
-- The finite test is `finite` of lib.Ieee.Scale: neither an infinity nor NaN.
use Rattle.std.specs.Prelude.{ℕ, zero, suc, ◌+◌, ◌*◌, ◌/◌, ◌^◌, true, false, cond, pos, leb, eqb}
use lib.Ieee.{Float, nan, inf, fin, binary64, up, down, size, round, add, sub, mul, div, of_int, of_bits}

-- +0, as the source's literal 0.0 reads
abbrev pub plus_zero : Float
plus_zero = of_bits binary64 0

-- +infinity
abbrev pub plus_infinity : Float
plus_infinity = inf false

-- each operation rounds to the nearest binary64 value
abbrev pub plus : Float → Float → Float
plus x y = add binary64 x y

abbrev pub minus : Float → Float → Float
minus x y = sub binary64 x y

abbrev pub product : Float → Float → Float
product x y = mul binary64 x y

-- x divided by the count n
abbrev pub over : Float → ℕ → Float
over x n = div binary64 x (of_int binary64 (pos n))

-- ---- the root, by whole-number squares

-- one binary digit more of a root: r or r + 1, the larger whose square is at most n
abbrev pub digit : ℕ → ℕ → ℕ
digit r n = cond (leb ((r + 1) * (r + 1)) n) (r + 1) r

-- the whole part of n's root, for an n below 4 ^ d: twice the root of n / 4, with one digit more
unfoldable pub whole_root : ℕ → ℕ → ℕ
whole_root zero n = 0
whole_root (suc d) n = digit (2 * whole_root d (n / 4)) n

-- Twice the root of n where n is a square, and otherwise the odd number between twice the two whole numbers next to
-- the root. It compares with each even number as twice the root does.
abbrev pub between : ℕ → ℕ → ℕ
between s n = cond (eqb (s * s) n) (2 * s) (2 * s + 1)

unfoldable pub halves : ℕ → ℕ
unfolding whole_root
halves n = between (whole_root (size n) n) n

-- the size of a finite value in units of the smallest one, 2 ^ -1074
abbrev pub units_of : Float → ℕ
units_of nan = 0
units_of (inf s) = 0
units_of (fin s m e) = m * up e * 2 ^ 1074 / down e

-- The value nearest to the root of u units: u * 2 ^ -1074 is (u * 2 ^ 1074) * 2 ^ -2148, so in units its root is the
-- root of u * 2 ^ 1074. A root is at least 2 ^ -537. There each value, and each midpoint of two values, is an even number of half
-- units, with which the number from `halves` compares as twice the root does: so it rounds as that does.
unfoldable pub root_of_units : ℕ → Float
unfolding halves round
root_of_units u = round binary64 false (halves (u * 2 ^ 1074)) (2 * 2 ^ 1074)

-- IEEE 754 square_root_lem: the nearest value, subnormals too; -0 gives -0, +infinity itself, and NaN or a number below zero
-- gives NaN.
unfoldable pub square_root_lem : Float → Float
unfolding root_of_units
square_root_lem nan = nan
square_root_lem (inf true) = nan
square_root_lem (inf false) = inf false
square_root_lem (fin s zero e) = fin s zero e
square_root_lem (fin true (suc m) e) = nan
square_root_lem (fin false (suc m) e) = root_of_units (units_of (fin false (suc m) e))
