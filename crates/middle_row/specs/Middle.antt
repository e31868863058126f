-- The middle row of a list of rows, and the search for it. Definitions only.
use Rattle.std.specs.Prelude.{ℕ, ◌/◌, ◌≤◌, ◌<◌, ◌≡◌, Bool, cond, length, take, Float}
use Rattle.std.specs.Fn.{Shared}
use mathlib.Core.List.{List, [], ◌∷◌, Memᴰ}
use Rattle.lists.specs.Lists.{count}
use Rattle.definition.specs.Points.{coordinate}
use Rattle.definition.specs.Keys.{Key, keyed, before, key_at}
use Rattle.argsort.specs.Rows.{key_on}
use Rattle.rows.specs.Rows.{GoodRows}
use Rattle.points.specs.declared.Column.{Column}

-- the rows with their coordinates on the axis
abbrev pub keys_on : ℕ → List Float → ℕ → List ℕ → List Key
keys_on d cs axis rows = keyed (λ i. coordinate d cs i axis) rows

-- m is the row with exactly half of the rows, rounded down, before it: of the right half, the one that comes first in the cut's order
pub record MiddleRow (d : ℕ) (cs : List Float) (axis : ℕ) (rows : List ℕ) (m : ℕ) : Type 0 where
  pub inside : Memᴰ m rows
  pub first : key_at (length rows / 2) (keys_on d cs axis rows) ≡ key_on d cs axis m ∷ []

-- ---- the search for the middle row

-- q is one of the rows, and exactly k others come before it
pub record Ranked (d : ℕ) (cs : List Float) (axis : ℕ) (rows : List ℕ) (q k : ℕ) : Type 0 where
  pub inside : Memᴰ q rows
  pub ahead : count (λ i. before (key_on d cs axis i) (key_on d cs axis q)) rows ≡ k

-- whether row i comes before row p, or after it
abbrev pub on_side : ℕ → List Float → ℕ → ℕ → Bool → ℕ → Bool
on_side d cs axis p low i = cond low (before (key_on d cs axis i) (key_on d cs axis p)) (before (key_on d cs axis p) (key_on d cs axis i))

-- each call of f at a row answers what t says of it
abbrev pub Tells : {F : Type 0} → Shared F (ℕ × Unit {0}) Bool → F → (ℕ → Bool) → Type 0
Tells g f t = (i : ℕ) (r : Bool) → g.post f (i, tt) r → r ≡ t i

-- what a round of the search asks: the row with k others before it is looked for among the rows, by the row at the index `at`
pub record Round (d : ℕ) (cs : List Float) (axis : ℕ) (rows : List ℕ) (k at : ℕ) : Type 0 where
  pub axis_in : axis < d
  pub below : k < length rows
  pub there : at < length rows
  pub good : GoodRows d cs rows

-- The row with j others before it among the first n of `after` is the row with k others before it among `rows`.
pub record Narrows (d : ℕ) (cs : List Float) (axis : ℕ) (rows : List ℕ) (k : ℕ) (after : List ℕ) (n j : ℕ) : Type 0 where
  pub fits : n ≤ length after
  pub below : j < n
  pub good : GoodRows d cs (take n after)
  pub leads : (q : ℕ) → Ranked d cs axis (take n after) q j → Ranked d cs axis rows q k

-- ---- the same of a column as lent

-- m is the middle row of the rows, by the column
abbrev pub MiddleIn : Column → List ℕ → ℕ → Type 0
MiddleIn c rows m = MiddleRow c.points.dimensions c.points.coordinates.now c.axis rows m

-- whether row i comes before row p, or after it, by the column
abbrev pub side_in : Column → ℕ → Bool → ℕ → Bool
side_in c p low i = on_side c.points.dimensions c.points.coordinates.now c.axis p low i
