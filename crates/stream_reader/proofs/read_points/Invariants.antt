use Rattle.stream_reader.proofs.Records.{Reading}
use Rattle.config.specs.Params.{settings_are}
use Rattle.std.specs.Slice.Iter.{chunks_rest, chunks_size}
use Rattle.std.specs.Iterator.Adapters.{enumerate_source, enumerate_count}
use Rattle.formats.specs.Stream.{point_size_lem}
use lib.ListN.{length}
use mathlib.Core.Path.{◌≡◌}
use Rattle.stream_reader.proofs.read_points.Given as goal

abbrev pub invariant-loop-n : goal.invariant-loop-n
invariant-loop-n l =
    (goal.iterator-loop-n).can_next l.n-iterator × (goal.iterator-loop-n).is_finite l.n-iterator
    × (chunks_size (enumerate_source l.n-iterator) ≡ point_size_lem l.d)
    × Reading (settings_are l.fn.settings) l.records (chunks_rest (enumerate_source l.n-iterator)) l.coordinates (enumerate_count l.n-iterator)
    × (length l.coordinates ≡ length l.initial.coordinates)
