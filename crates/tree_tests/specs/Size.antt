-- The length of a tree's file, by counts alone. Inner contracts cite it; `file-length` says that it is the file's. Definitions only.
use Rattle.std.specs.Prelude.{ℕ, ◌+◌, ◌-◌, ◌*◌}
use Rattle.definition.specs.Points.{box_width_lem}
use Rattle.formats.specs.Bytes.{number_size, float_size}
use Rattle.formats.specs.Stream.{point_size_lem}
use Rattle.stored.specs.Stored.{head_size, counts_size}

-- n points on d axes; the level rows, domains and borrowed rows of all levels. Each level row is internal once as well, and each domain has a
-- cover and a depth; one domain, the coarse one, has no box.
abbrev pub file_size_lem : ℕ → ℕ → ℕ → ℕ → ℕ → ℕ → ℕ
file_size_lem d n levels rows domains borrowed =
    head_size + n * point_size_lem d + counts_size * (levels + domains) + number_size * (2 * rows + borrowed) + (float_size + number_size) * domains
    + float_size * box_width_lem d * (domains - 1)
