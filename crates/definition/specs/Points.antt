-- Points as one list of coordinates and a dimension (module 2): row i's coordinate on the axis a stands at i * d + a.
-- Distances and extents. Definitions only.
use Rattle.std.specs.Prelude.{ℕ, zero, suc, ◌+◌, ◌*◌, List, [], ◌∷◌, ◌++◌, map, get_or, Float}
use Rattle.std.specs.Float.{nan}
use Rattle.std.specs.Float.Ieee.{lt}
use Rattle.lists.specs.Lists.{best, from}
use Rattle.definition.specs.Number.{plus_zero, plus, minus, product, square_root_lem}

-- the point whose coordinates start at p: its coordinate on the axis a. (Past the list's end stands NaN.)
abbrev pub point_at : List Float → ℕ → ℕ → Float
point_at cs p a = get_or cs (p + a) nan

-- row i's coordinate on the axis a
abbrev pub coordinate : ℕ → List Float → ℕ → ℕ → Float
coordinate d cs i a = point_at cs (i * d) a

-- ---- distance

-- The squared distance of two points on their first d axes: from +0, the square of each difference is added in axis
-- order, and each operation rounds.
unfoldable pub distance_sq_lem : ℕ → (ℕ → Float) → (ℕ → Float) → Float
distance_sq_lem zero p q = plus_zero
distance_sq_lem (suc a) p q =
    let t = minus (p a) (q a) in
    plus (distance_sq_lem a p q) (product t t)

-- distance is its root
unfoldable pub distance : ℕ → (ℕ → Float) → (ℕ → Float) → Float
distance d p q = square_root_lem (distance_sq_lem d p q)

-- the squared distance, and the distance, of two rows
unfoldable pub rows_sq : ℕ → List Float → ℕ → ℕ → Float
rows_sq d cs i j = distance_sq_lem d (coordinate d cs i) (coordinate d cs j)

unfoldable pub rows_apart : ℕ → List Float → ℕ → ℕ → Float
rows_apart d cs i j = distance d (coordinate d cs i) (coordinate d cs j)

-- ---- extents

-- The least and the greatest value of a list that is not empty. Of equal zeros the sign met first stays.
unfoldable pub least_of : List Float → Float
least_of [] = plus_zero
least_of (x ∷ xs) = best lt x xs

unfoldable pub greatest_of : List Float → Float
greatest_of [] = plus_zero
greatest_of (x ∷ xs) = best (λ y z. lt z y) x xs

-- the rows' coordinates on the axis a, in their order
abbrev pub column : ℕ → List Float → List ℕ → ℕ → List Float
column d cs rows a = map (λ i. coordinate d cs i a) rows

-- the least, and the greatest, value of the rows on the axis a
abbrev pub lower_bound_lem : ℕ → List Float → List ℕ → ℕ → Float
lower_bound_lem d cs rows a = least_of (column d cs rows a)

abbrev pub upper_bound_lem : ℕ → List Float → List ℕ → ℕ → Float
upper_bound_lem d cs rows a = greatest_of (column d cs rows a)

-- how many bounds a box has on d axes
abbrev pub box_width_lem : ℕ → ℕ
box_width_lem d = 2 * d

-- A box, as lent: the lower bound on each axis, then the upper bound on each axis. These are the rows' extents.
unfoldable pub extents : ℕ → List Float → List ℕ → List Float
extents d cs rows = map (lower_bound_lem d cs rows) (from 0 d) ++ map (upper_bound_lem d cs rows) (from 0 d)

-- the rows' extent on the axis a: greatest less least, rounded
unfoldable pub extent : ℕ → List Float → List ℕ → ℕ → Float
extent d cs rows a = minus (upper_bound_lem d cs rows a) (lower_bound_lem d cs rows a)
