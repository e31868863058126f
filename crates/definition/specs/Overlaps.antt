-- Neighbours (module 6) and overlaps: the rows that a leaf borrows. Definitions only.
use Rattle.std.specs.Prelude.{ℕ, Bool, not, ◌&&◌, ◌||◌, List, ◌∷◌, eqb, Float}
use Rattle.lists.specs.Lists.{keep, member, any_of}
use Rattle.definition.specs.Points.{rows_sq}
use Rattle.definition.specs.Keys.{keyed, first_rows_lem}

-- the active rows but row i
abbrev pub others : List ℕ → ℕ → List ℕ
others active i = keep (λ j. not (eqb j i)) active

-- of these, as many as the neighbour count that are first by (squared distance to row i, row), or all if fewer
unfoldable pub nearest_others : ℕ → List Float → ℕ → List ℕ → ℕ → List ℕ
nearest_others d cs neighbours active i = first_rows_lem neighbours (keyed (rows_sq d cs i) (others active i))

-- the rows that row i takes: itself, then those
unfoldable pub nearest : ℕ → List Float → ℕ → List ℕ → ℕ → List ℕ
nearest d cs neighbours active i = i ∷ nearest_others d cs neighbours active i

-- one of the two rows takes the other
unfoldable pub paired : ℕ → List Float → ℕ → List ℕ → ℕ → ℕ → Bool
paired d cs neighbours active i j = member j (nearest d cs neighbours active i) || member i (nearest d cs neighbours active j)

-- what the leaf that owns the rows `own` borrows: each other active row that is paired with one of its own, ascending and without repeats
unfoldable pub borrowed_by : ℕ → List Float → ℕ → List ℕ → List ℕ → List ℕ
borrowed_by d cs neighbours active own = keep (λ j. not (member j own) && any_of (λ i. paired d cs neighbours active i j) own) active
