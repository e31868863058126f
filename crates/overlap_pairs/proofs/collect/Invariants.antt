use mathlib.Core.List.{Memᴰ}
use lib.ListN.{take}
use Rattle.overlap_pairs.specs.Pairs.{Gathered}
use Rattle.overlap_pairs.proofs.collect.Given as goal

abbrev pub invariant-loop-p : goal.invariant-loop-p
invariant-loop-p l =
    Gathered l.search.points.dimensions l.search.points.coordinates.now l.search.neighbours l.search.active.now l.initial.wholes (λ i. Memᴰ i (take l.p-index l.positions)) l.p-index l.wholes l.n
