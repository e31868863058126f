-- What is known of the head and the points of a file that pass. Definitions only.
use Rattle.std.specs.Prelude.{◌≡◌, ℕ, ◌≤◌, List, length}
use Rattle.definition.specs.Refusals.{most_points, most_neighbours}
use Rattle.formats.specs.Stream.{settings_in}
use Rattle.stored.specs.Stored.{count_in, levels_place}
use Rattle.config.specs.Params.{settings_are}
use Rattle.file_front.specs.declared.Front.{Front}

pub record FrontRead (r : Front) (bs : List ℕ) : Type 0 where
  -- what stands in them
  pub settings : settings_are r.settings ≡ settings_in bs
  pub count : r.n ≡ count_in bs
  pub place : r.next ≡ levels_place bs
  -- and its bounds
  pub inside : r.next ≤ length bs
  pub axes : 1 ≤ r.settings.dimensions
  pub axes_few : r.settings.dimensions ≤ 3
  pub rows_few : r.n ≤ most_points
  pub neighbours_few : r.settings.params.overlap_knn ≤ most_neighbours
