-- Lists, working room and lists of records for the largest job: of these lengths, and all zeros. Definitions only.
use Rattle.std.specs.Prelude.{ℕ, ◌+◌, ◌*◌, List, replicate, Float}
use Rattle.definition.specs.Number.{plus_zero}
use Rattle.definition.specs.Packed.{most_rows, row_numbers, row_floats_lem}
use Rattle.definition.specs.Outcome.{TreeLists, RecordLists}
use Rattle.definition.specs.Record.{most_nodes}
use Rattle.formats.specs.Stream.{stream_points, stream_neighbours}

abbrev pub lent_lists : TreeLists
lent_lists =
    record {
      level_points = replicate (4 * stream_points) 0;
      internals = replicate (4 * stream_points) 0;
      domains = replicate (row_numbers * most_rows stream_points) 0;
      boxes = replicate (row_floats_lem 3 * most_rows stream_points) plus_zero;
      borrowed = replicate (6 * stream_points * (stream_neighbours + 1)) 0;
    }

abbrev pub lent_floats : List Float
lent_floats = replicate (32 * stream_points) plus_zero

abbrev pub lent_wholes : List ℕ
lent_wholes = replicate (40 * stream_points + 8 * stream_points * (stream_neighbours + 1)) 0

abbrev pub lent_records : RecordLists
lent_records = record { cuts = replicate (most_nodes stream_points) 0; planes = replicate (most_nodes stream_points) plus_zero }
