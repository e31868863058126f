-- The table of gaps (document 02, request 9): of a point to a box, by their bits; and the lemma that the definition yields every row of it.
-- Each row is computed; the bits were found by another program. Assumes nothing.
use Prim.Native.Nat.{ℕ}
use mathlib.Core.Path.{◌≡◌, refl}
use mathlib.Core.List.{List, [], ◌∷◌, map}
use lib.Ieee.{Float, binary64, of_bits, to_bits}
use Rattle.definition.specs.Gap.{clamped, gap_sq, row_gap}
use Rattle.definition.proofs.WorkedSamples.{opened}

abbrev floats : List ℕ → List Float
floats bits = map (of_bits binary64) bits

-- the gap of a row of these points to a box
abbrev gap_of : ℕ → List ℕ → List ℕ → ℕ → ℕ
gap_of d points box i = to_bits binary64 (row_gap d (floats points) (floats box) i)

-- the gap of a point on a line to a lower and an upper bound
abbrev on_axis : ℕ → ℕ → ℕ → ℕ
on_axis x lower upper = gap_of 1 (x ∷ []) (lower ∷ upper ∷ []) 0

-- a box with three axes: 0.3, 0.4 and 0.2 up to 0.8, 0.8 and 0.7
abbrev box3 : List ℕ
box3 = 0x3fd3333333333333 ∷ 0x3fd999999999999a ∷ 0x3fc999999999999a ∷ 0x3fe999999999999a ∷ 0x3fe999999999999a ∷ 0x3fe6666666666666 ∷ []

pub record Gaps : Type 0 where
  -- inside: 0.5, 0.5 and 0.25
  inside : gap_of 3 (0x3fe0000000000000 ∷ 0x3fe0000000000000 ∷ 0x3fd0000000000000 ∷ []) box3 0 ≡ 0
  -- beside it on one axis: 0.1, 0.5 and 0.25 are below it on the first; difference and square round
  beside : gap_of 3 (0x3fb999999999999a ∷ 0x3fe0000000000000 ∷ 0x3fd0000000000000 ∷ []) box3 0 ≡ 0x3fa47ae147ae147a
  -- at a corner: -0.4, 1.1 and -0.9 are below, above and below; summed in another order the squares give another last bit
  corner : gap_of 3 (0xbfd999999999999a ∷ 0x3ff199999999999a ∷ 0xbfeccccccccccccd ∷ []) box3 0 ≡ 0x3ffca3d70a3d70a4
  -- the second of two rows of a plane, 5 and 5; the lower bounds, 0 and 10, stand before the upper ones, 1 and 20: 16 + 25
  second_row : gap_of 2 (0 ∷ 0 ∷ 0x4014000000000000 ∷ 0x4014000000000000 ∷ []) (0 ∷ 0x4024000000000000 ∷ 0x3ff0000000000000 ∷ 0x4034000000000000 ∷ []) 1 ≡ 0x4044800000000000
  -- on a bound: 0.3 and 0.7 between 0.3 and 0.7
  on_lower : on_axis 0x3fd3333333333333 0x3fd3333333333333 0x3fe6666666666666 ≡ 0
  on_upper : on_axis 0x3fe6666666666666 0x3fd3333333333333 0x3fe6666666666666 ≡ 0
  -- +0 on an upper bound -0, and -0 on a lower bound +0
  zero-on-minus : on_axis 0 0xbff0000000000000 0x8000000000000000 ≡ 0
  minus-on-zero : on_axis 0x8000000000000000 0 0x3ff0000000000000 ≡ 0
  -- 1 above an upper bound -0, and -1 below a lower bound -0
  above-minus : on_axis 0x3ff0000000000000 0xbff0000000000000 0x8000000000000000 ≡ 0x3ff0000000000000
  below-minus : on_axis 0xbff0000000000000 0x8000000000000000 0x8000000000000000 ≡ 0x3ff0000000000000
  -- 1e200 above 1: the square overflows; -1.7e308 below 1.7e308: the difference does
  square-infinite : on_axis 0x6974e718d7d7625a 0xbff0000000000000 0x3ff0000000000000 ≡ 0x7ff0000000000000
  difference-infinite : on_axis 0xffee42d130773b76 0x7fee42d130773b76 0x7fee42d130773b76 ≡ 0x7ff0000000000000
  -- outside, but the square underflows to +0: 1e-170 above 0, and the smallest positive value above 0
  underflow : on_axis 0x1ca3529ba7d19eaf 0xbff0000000000000 0 ≡ 0
  smallest : on_axis 1 0 0 ≡ 0
  -- a subnormal gap: 0 below 1e-160
  subnormal : on_axis 0 0x1eb67e9c127b6e74 0x3ff0000000000000 ≡ 0x7e8

-- the definition yields every row
pub gaps : Gaps
unfolding opened clamped gap_sq row_gap
gaps =
    record {
      inside = refl;
      beside = refl;
      corner = refl;
      second_row = refl;
      on_lower = refl;
      on_upper = refl;
      zero-on-minus = refl;
      minus-on-zero = refl;
      above-minus = refl;
      below-minus = refl;
      square-infinite = refl;
      difference-infinite = refl;
      underflow = refl;
      smallest = refl;
      subnormal = refl;
    }
