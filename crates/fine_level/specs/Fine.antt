-- One fine level over its active rows, by short names; what it asks. Definitions only.
use Rattle.std.specs.Prelude.{ℕ, ◌+◌, ◌*◌, ◌≤◌, List, [], map, length, Float}
use Rattle.definition.specs.Cut.{leaves_of}
use Rattle.definition.specs.Tree.{Leaf, fine_leaf, fine_level_lem, sent_lists, next_active}
use Rattle.definition.specs.Packed.{row_numbers, row_floats_lem}
use Rattle.definition.specs.Refusals.{most_neighbours}
use Rattle.rows.specs.Rows.{GoodRows}

-- the leaves of the fine level over the active rows, as they are before any row is sent up
abbrev pub divided_at : ℕ → List Float → ℕ → ℕ → List ℕ → List Leaf
divided_at d cs leaf neighbours active = map (λ q. fine_leaf d cs neighbours active q []) (leaves_of d cs leaf active)

-- the leaves of the fine level over the active rows, of which `size` are sent up
abbrev pub leaves_at_lem : ℕ → List Float → ℕ → ℕ → ℕ → List ℕ → List Leaf
leaves_at_lem d cs leaf neighbours size active =
    (fine_level_lem d cs neighbours active (leaves_of d cs leaf active) (sent_lists d cs (leaves_of d cs leaf active) size)).leaves

-- the active rows of the level after it, `size` of them
abbrev pub next_at : ℕ → List Float → ℕ → ℕ → List ℕ → List ℕ
next_at d cs leaf size active = next_active active (sent_lists d cs (leaves_of d cs leaf active) size)

-- what a level is built from: a few axes, a leaf threshold, a few neighbours, and some good active rows
pub record Given (d : ℕ) (cs : List Float) (leaf neighbours : ℕ) (active : List ℕ) : Type 0 where
  pub axes : 1 ≤ d
  pub axes_few : d ≤ 3
  pub leaf_some : 1 ≤ leaf
  pub near : neighbours ≤ most_neighbours
  pub rows_some : 1 ≤ length active
  pub good : GoodRows d cs active

-- where a level over `a` rows is written: from `at` on in the internals, from the domain row `first` on, and from `bat` on in the
-- borrowed rows; the lists are long enough
pub record Fits (d neighbours a : ℕ) (I D : List ℕ) (B : List Float) (L : List ℕ) (at first bat : ℕ) : Type 0 where
  pub internals : at + a ≤ length I
  pub domains : row_numbers * (first + 2 * a) ≤ length D
  pub boxes : row_floats_lem d * (first + 2 * a) ≤ length B
  pub borrowed : bat + 2 * a * (neighbours + 1) ≤ length L

-- the working room of a level over `a` rows
pub record Room (neighbours a : ℕ) (F : List Float) (W : List ℕ) : Type 0 where
  pub floats : 32 * a ≤ length F
  pub wholes : 40 * a + 8 * a * (neighbours + 1) ≤ length W
