-- Farthest point sampling (module 5; Gonzalez 1985) of a list of rows, and its seed for a leaf. Definitions only.
use Rattle.std.specs.Prelude.{ℕ, zero, suc, ◌-◌, not, List, [], ◌∷◌, ◌++◌, map, length, Float}
use Rattle.lists.specs.Lists.{keep, member}
use Rattle.definition.specs.Number.{plus_zero, plus_infinity, plus, over}
use Rattle.definition.specs.Points.{coordinate, column, distance, rows_apart, least_of, greatest_of}
use Rattle.definition.specs.Keys.{keyed, nearest_row, farthest_row}

-- row i's least distance to the chosen rows
unfoldable pub gap : ℕ → List Float → List ℕ → ℕ → Float
gap d cs chosen i = least_of (map (λ c. rows_apart d cs c i) chosen)

-- the rows that are not chosen
abbrev pub unchosen : List ℕ → List ℕ → List ℕ
unchosen rows chosen = keep (λ i. not (member i chosen)) rows

-- the first unchosen row whose least distance to the chosen is greatest
unfoldable pub pick : ℕ → List Float → List ℕ → List ℕ → ℕ
pick d cs rows chosen = farthest_row (keyed (gap d cs chosen) (unchosen rows chosen))

-- How far the worst left-out row is, the cover: the greatest, over the unchosen rows, of the least distance to a chosen one; +0 where all
-- are chosen.
unfoldable pub cover_of : ℕ → List Float → List ℕ → List ℕ → Float
cover_of d cs rows chosen = greatest_of (map (gap d cs chosen) (unchosen rows chosen))

-- the chosen rows, and `more` after them, in the order in which they are taken
unfoldable pub sample_more : ℕ → List Float → List ℕ → ℕ → List ℕ → List ℕ
sample_more d cs rows zero chosen = chosen
sample_more d cs rows (suc more) chosen = sample_more d cs rows more (chosen ++ pick d cs rows chosen ∷ [])

-- `wanted` of the rows, from the seed on
unfoldable pub sample : ℕ → List Float → List ℕ → ℕ → ℕ → List ℕ
sample d cs rows wanted seed = sample_more d cs rows (wanted - 1) (seed ∷ [])

-- ---- the seed of a leaf, and the rows that it sends up

-- the sum of the values in their order, from s on, each step rounded
unfoldable pub sum_from : Float → List Float → Float
sum_from s [] = s
sum_from s (x ∷ xs) = sum_from (plus s x) xs

-- the rows' centroid on the axis a: the sum in row order divided by the count
unfoldable pub centroid : ℕ → List Float → List ℕ → ℕ → Float
centroid d cs rows a = over (sum_from plus_zero (column d cs rows a)) (length rows)

-- row i's distance to the rows' centroid
unfoldable pub from_centroid : ℕ → List Float → List ℕ → ℕ → Float
from_centroid d cs rows i = distance d (centroid d cs rows) (coordinate d cs i)

-- the seed: the first row nearest the centroid
unfoldable pub seed_of : ℕ → List Float → List ℕ → ℕ
seed_of d cs rows = nearest_row (keyed (from_centroid d cs rows) rows)

-- the rows that a leaf with these own rows and this quota sends up: none where the quota is 0
unfoldable pub sent_by : ℕ → List Float → List ℕ → ℕ → List ℕ
sent_by d cs rows zero = []
sent_by d cs rows (suc more) = sample d cs rows (suc more) (seed_of d cs rows)

-- the cover of a leaf with these own rows that sends these up: +infinity where it has rows and sends none, +0 where it has none
unfoldable pub leaf_cover : ℕ → List Float → List ℕ → List ℕ → Float
leaf_cover d cs [] sent = plus_zero
leaf_cover d cs (i ∷ rows) [] = plus_infinity
leaf_cover d cs (i ∷ rows) (j ∷ sent) = cover_of d cs (i ∷ rows) (j ∷ sent)
