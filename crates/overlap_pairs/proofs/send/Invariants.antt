use Rattle.overlap_pairs.proofs.Sends.{Sent}
use Rattle.overlap_pairs.proofs.send.Given as goal

abbrev pub invariant-loop-q : goal.invariant-loop-q
invariant-loop-q l = Sent l.near l.p l.initial.wholes l.n l.wholes l.end l.q-index
