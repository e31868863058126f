-- What an accepted call over all points has for its tree. Assumes nothing.
-- Holds: all_rows, all-space, all-records, over-all
use mathlib.Core.Path.{◌≡◌, refl}
use mathlib.Core.List.{List}
use Prim.Native.Nat.{ℕ}
use native.Mathlib.Omega.{arith}
use lib.ListN.{length}
use lib.Ieee.{Float}
use Rattle.lists.specs.Lists.{from}
use Rattle.lists.proofs.From.{length_from}
use Rattle.definition.specs.Tree.{Settings, most_fine, levels_over, levels, point_count}
use Rattle.definition.specs.Outcome.{RecordLists, TreeLists, lent_sizes}
use Rattle.definition_laws.proofs.Accepted.{Accepted}
use Rattle.rows.proofs.AllRows.{all-rows-good}
use Rattle.fine_level.specs.Fine.{Given}
use Rattle.levels_loop.specs.After.{Space}
use Rattle.levels_loop.specs.Records.{RecordRoom}
use Rattle.grow_over.proofs.Over.{lent-space, lent-records}

module _ (s : Settings) (cs : List Float) where
  abbrev d : ℕ
  d = s.dimension

  abbrev n : ℕ
  n = point_count s.dimension cs

  -- ---- what an accepted call has
  module _ (old : TreeLists) (floats : List Float) (wholes : List ℕ) (records : RecordLists) (a : Accepted s cs (lent_sizes old floats wholes records)) where
    -- its points are rows to build a level over
    pub all_rows : Given s.dimension cs s.leaf s.neighbours (from 0 (point_count s.dimension cs))
    all_rows = record {
      axes = a.passes-all.axes;
      axes_few = a.passes-all.axes_few;
      leaf_some = a.passes-all.leaf_some;
      near = a.passes-all.neighbours_few;
      rows_some = omega (arith, length_from 0 n, a.passes-all.rows_some);
      good = all-rows-good d cs n a.passes-all.rows_few (omega (arith, a.whole)) a.finite-all;
    }

    -- room for the levels
    pub all-space : (P : List ℕ) → length P ≡ length old.level_points
        → Space s.dimension s.neighbours (point_count s.dimension cs) most_fine P old.internals old.domains old.boxes old.borrowed floats wholes 0 0 0
    all-space P e = lent-space d s.neighbours n old floats wholes records a.enough P e

    pub all-records : RecordRoom (point_count s.dimension cs) records.cuts records.planes
    all-records = lent-records d s.neighbours n old floats wholes records a.enough

  -- ---- the levels over all rows are those over all points
  pub over-all : levels_over s cs (from 0 (point_count s.dimension cs)) ≡ levels s cs
  unfolding levels
  over-all = refl
