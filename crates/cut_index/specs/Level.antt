-- What a level's record and its leaves are to each other. Definitions only.
use Rattle.std.specs.Prelude.{ℕ, ◌≤◌, ◌<◌, ◌≡◌, List, map, length, Float}
use Rattle.definition.specs.Cut.{leaves_of}
use Rattle.definition.specs.Record.{record_of, whole_of, float_of}
use Rattle.packed.specs.Reading.{read_own}
use Rattle.cut_index.specs.Recorded.{PackedFrom}

-- The lists hold the record of a level over some active rows on up to three axes, cut by this leaf threshold, and the m leaves from the domain
-- row `first` on are that level's, packed from `from` on.
pub record LevelRecord (d : ℕ) (cs : List Float) (leaf : ℕ) (active cuts : List ℕ) (planes : List Float) (I D : List ℕ) (first m from : ℕ) : Type 0 where
  pub axes : 0 < d
  pub axes_few : d ≤ 3
  pub leaf_some : 1 ≤ leaf
  pub rows_some : 1 ≤ length active
  pub wholes : cuts ≡ map whole_of (record_of d cs leaf active)
  pub floats : planes ≡ map float_of (record_of d cs leaf active)
  pub own : read_own I D first m ≡ map (λ q. q.rows) (leaves_of d cs leaf active)
  pub packed : PackedFrom from I D first m
