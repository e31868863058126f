-- The points of a file by place and count, and what the build says of its head alone. Definitions only.
use Rattle.std.specs.Prelude.{ℕ, ◌+◌, ◌*◌, Bool, false, ◌&&◌, List, map, Float}
use Rattle.lists.specs.Lists.{from, joined}
use Rattle.definition.specs.Tree.{Settings}
use Rattle.definition.specs.Refusals.{verdict, settings_tests, points_tests}
use Rattle.formats.specs.Bytes.{mark_size, floats_at}
use Rattle.formats.specs.Stream.{point_size_lem}
use Rattle.stored.specs.Stored.{head_size, taken}

-- where the record of row i begins
abbrev pub point_place : ℕ → ℕ → ℕ
point_place d i = head_size + i * point_size_lem d

-- the coordinates of row i
abbrev pub row_at : ℕ → List ℕ → ℕ → List Float
row_at d bs i = floats_at d (point_place d i + mark_size) bs

-- those of n rows, as `points_in` has them
abbrev pub points_at : ℕ → ℕ → List ℕ → List Float
points_at d n bs = joined (map (row_at d bs) (from 0 n))

-- the build takes the settings with n points, whatever their coordinates are
unfoldable pub head_taken : Settings → ℕ → Bool
head_taken s n = taken (verdict (settings_tests s)) && taken (verdict (points_tests s n false))
