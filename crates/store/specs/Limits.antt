-- The counts that a sound tree can have. Definitions only.
use Rattle.std.specs.Prelude.{ℕ, ◌+◌, ◌*◌, ◌≤◌}
use Rattle.definition.specs.Packed.{most_levels, most_rows}
use Rattle.definition.specs.Refusals.{most_points, most_neighbours}

-- n points on d axes; the level rows, domains and borrowed rows of all levels
pub record Limited (d n levels rows domains borrowed : ℕ) : Type 0 where
  pub axes : d ≤ 3
  pub points : n ≤ most_points
  pub few : levels ≤ most_levels
  pub rows_few : rows ≤ 4 * n
  pub some : 1 ≤ domains
  pub domains_few : domains ≤ most_rows n
  pub borrowed_few : borrowed ≤ 6 * n * (most_neighbours + 1)
