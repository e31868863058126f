use lib.ListN.{length, get_or}
use Rattle.sampling_rounds.specs.Rounds.{SameSampled}
use Rattle.sampling_rounds.proofs.Choosing.{Choosing}
use Rattle.sampling_rounds.proofs.sample_rows.Given as goal

abbrev pub invariant-loop-k : goal.invariant-loop-k
invariant-loop-k l = Choosing l.points.dimensions l.points.coordinates.now l.rows (length l.fn.out) (get_or l.rows l.fn.seed.0 0) l.initial.out l.out l.sampled.squares.now l.last.0 l.k
    × SameSampled l.initial.sampled l.sampled
