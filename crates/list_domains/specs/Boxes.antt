-- The tests of one bound of a box, and of a domain row's floats. Definitions only.
use Rattle.std.specs.Prelude.{Bool, true, false, not, ◌&&◌, List, eqb, Float}
use Rattle.std.specs.Float.{binary64}
use Rattle.std.specs.Float.Ieee.{to_bits, is_nan}
use Rattle.stored.specs.Sound.{all_of}

-- in the place of the coarse domain's box each bound is +0, by its bits; no other bound is a NaN
unfoldable pub bound_fits_lem : Bool → Float → Bool
bound_fits_lem true x = eqb (to_bits binary64 x) 0
bound_fits_lem false x = not (is_nan x)

-- the bounds, and the cover, which is no NaN in any domain
abbrev pub floats_fit_lem : Bool → List Float → Float → Bool
floats_fit_lem coarse bounds cover = all_of (bound_fits_lem coarse) bounds && bound_fits_lem false cover
