-- Not-a-number: the pattern that it is written as. Assumes nothing.
use mathlib.Core.Path.{◌≡◌, refl, sym, subst}
use mathlib.Core.Bool.{Bool, true, false}
use lib.Dec.{T}
use lib.Ieee.{Float, nan, inf, fin, is_nan, to_bits, binary64}

-- by the library's test
pub bits-nan : (x : Float) → is_nan x ≡ true → 0x7ff8_0000_0000_0000 ≡ to_bits binary64 x
unfolding is_nan to_bits
bits-nan nan e = refl
bits-nan (inf s) e = let z : ◌≡◌ {A = Bool} false true = e in absurd (subst T (sym z) tt)
bits-nan (fin s m k) e = let z : ◌≡◌ {A = Bool} false true = e in absurd (subst T (sym z) tt)
