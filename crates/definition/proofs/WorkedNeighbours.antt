-- The table of the rows that a row takes (document 02, request 4), and of what leaves borrow by it; and the lemma that the definitions
-- yield every row of it. Each row is computed. Assumes nothing.
use Prim.Native.Nat.{ℕ}
use mathlib.Core.Path.{◌≡◌, refl}
use mathlib.Core.List.{List, [], ◌∷◌, map}
use lib.Ieee.{binary64, of_bits}
use Rattle.lists.specs.Lists.{from}
use Rattle.definition.specs.Cut.{leaves_of}
use Rattle.definition.specs.Overlaps.{nearest, borrowed_by}
use Rattle.definition.proofs.WorkedSamples.{opened, line}

-- what row i of n rows on a line takes
abbrev takes : List ℕ → ℕ → ℕ → ℕ → List ℕ
takes at n neighbours i = nearest 1 (line at) neighbours (from 0 n) i

-- what each leaf of a level over n rows borrows, with leaf threshold 1: a leaf without rows, then a leaf of row 0, and so on
abbrev borrows : List ℕ → ℕ → ℕ → List (List ℕ)
borrows at n neighbours = map (λ q. borrowed_by 1 (line at) neighbours (from 0 n) q.rows) (leaves_of 1 (line at) 1 (from 0 n))

pub record Neighbours : Type 0 where
  -- three rows at one place, one neighbour: row 2 takes itself, and of the others the lower one
  itself-first : takes (5 ∷ 5 ∷ 5 ∷ []) 3 1 2 ≡ 2 ∷ 0 ∷ []
  -- row 0 passes over itself
  passes_over : takes (5 ∷ 5 ∷ 5 ∷ []) 3 1 0 ≡ 0 ∷ 1 ∷ []
  -- no neighbours: itself alone
  itself-alone : takes (5 ∷ 5 ∷ 5 ∷ []) 3 0 2 ≡ 2 ∷ []
  -- more neighbours than others: all of them
  all_others : takes (5 ∷ 5 ∷ 5 ∷ []) 3 4 1 ≡ 1 ∷ 0 ∷ 2 ∷ []
  -- without rows at one place: of two at distance 1 the lower one
  lower-other : takes (0 ∷ 1 ∷ 2 ∷ []) 3 1 1 ≡ 1 ∷ 0 ∷ []
  -- of the others the one at its own place comes first
  place-first : takes (1 ∷ 2 ∷ 9 ∷ 2 ∷ []) 4 1 3 ≡ 3 ∷ 1 ∷ []
  -- squares that underflow are zero: rows at 0, 1 and 2 times 2^-1074 stand at one place
  underflow : nearest 1 (map (of_bits binary64) (from 0 3)) 1 (from 0 3) 2 ≡ 2 ∷ 0 ∷ []
  -- the leaf of row 1 borrows row 0, which it takes, and not row 2, which takes row 0
  three-borrow : borrows (5 ∷ 5 ∷ 5 ∷ []) 3 1 ≡ [] ∷ (1 ∷ 2 ∷ []) ∷ [] ∷ (0 ∷ []) ∷ [] ∷ (0 ∷ []) ∷ []
  -- no neighbours: nothing is borrowed, rows at one place or not
  two-borrow-none : borrows (5 ∷ 5 ∷ []) 2 0 ≡ [] ∷ [] ∷ [] ∷ [] ∷ []

-- the definitions yield every row
pub neighbours : Neighbours
unfolding opened
neighbours =
    record {
      itself-first = refl;
      passes_over = refl;
      itself-alone = refl;
      all_others = refl;
      lower-other = refl;
      place-first = refl;
      underflow = refl;
      three-borrow = refl;
      two-borrow-none = refl;
    }
