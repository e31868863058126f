-- Boxes that hold rows: the box of a domain, and that of each half under it. Definitions only.
use Rattle.std.specs.Prelude.{ℕ, ◌+◌, ◌<◌, ◌≡◌, true, false, List, set, length, get_or, Float}
use Rattle.std.specs.Float.{nan}
use Rattle.std.specs.Float.Ieee.{lt}
use Rattle.std.specs.Float.Ieee.Scale.{finite}
use Rattle.lists.specs.Ascends.{All}
use Rattle.definition.specs.Points.{coordinate, box_width_lem}
use Rattle.definition.specs.Record.{Cuts, uncut, cut_at}
use Rattle.definition.specs.Gap.{lower_at, upper_at}
use Rattle.record_laws.specs.Table.{rows_under}

-- row i lies in the box: on no axis below the lower bound, nor above the upper one
abbrev pub InBox : ℕ → List Float → List Float → ℕ → Type 0
InBox d cs box i = (a : ℕ) → a < d → (lt (coordinate d cs i a) (lower_at box a) ≡ false) × (lt (upper_at d box a) (coordinate d cs i a) ≡ false)

-- a box with finite bounds that holds these rows
pub record Holds (d : ℕ) (cs box : List Float) (rows : List ℕ) : Type 0 where
  pub width : length box ≡ box_width_lem d
  pub bounds : (b : ℕ) → b < box_width_lem d → finite (get_or box b nan) ≡ true
  pub inside : All (InBox d cs box) rows

-- the box holds the rows of a domain; and the inherited box of each half does, with one bound changed, and so on down to the leaves
unfoldable pub Boxed : ℕ → List Float → List Float → Cuts → Type 0
Boxed d cs box (uncut q) = Holds d cs box q.rows
Boxed d cs box (cut_at a x l r) =
    Holds d cs box (rows_under (cut_at a x l r)) × (a < d) × Boxed d cs (set box (d + a) x) l × Boxed d cs (set box a x) r
