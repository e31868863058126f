-- The gap of a point to a box (document 02, request 9). Definitions only.
use Rattle.std.specs.Prelude.{ℕ, ◌+◌, cond, List, get_or, Float}
use Rattle.std.specs.Float.{nan}
use Rattle.std.specs.Float.Ieee.{lt}
use Rattle.definition.specs.Points.{coordinate, distance_sq_lem}

-- the bounds of a box, as lent, on the axis a
abbrev pub lower_at : List Float → ℕ → Float
lower_at box a = get_or box a nan

abbrev pub upper_at : ℕ → List Float → ℕ → Float
upper_at d box a = get_or box (d + a) nan

-- the value between two bounds that is nearest to x: the lower bound, the upper bound, or x itself
unfoldable pub clamped : Float → Float → Float → Float
clamped lower upper x = cond (lt x lower) lower (cond (lt upper x) upper x)

-- The gap of the point q to a box: the squared distance, by the same rounded steps, to the point of the box that is nearest to it.
unfoldable pub gap_sq : ℕ → List Float → (ℕ → Float) → Float
gap_sq d box q = distance_sq_lem d q (λ a. clamped (lower_at box a) (upper_at d box a) (q a))

-- that of row i
unfoldable pub row_gap : ℕ → List Float → List Float → ℕ → Float
row_gap d cs box i = gap_sq d box (coordinate d cs i)
