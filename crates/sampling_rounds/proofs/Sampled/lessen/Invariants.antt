use Rattle.sampling_rounds.specs.Rounds.{brought}
use Rattle.sampling_rounds.proofs.Passes.{PassedTo, Seen}
use Rattle.sampling_rounds.proofs.Sampled.lessen.Given as goal

abbrev pub invariant-loop-i : goal.invariant-loop-i
invariant-loop-i l = PassedTo (brought l.fn.self l.fn.last.0) l.initial.squares l.squares l.i
    × Seen (brought l.fn.self l.fn.last.0) l.i l.place l.most l.second
