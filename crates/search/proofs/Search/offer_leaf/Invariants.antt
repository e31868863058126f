use lib.ListN.{take}
use Rattle.search.specs.Visits.{Offers}
use Rattle.search.proofs.Search.offer_leaf.Given as goal

abbrev pub invariant-loop-k : goal.invariant-loop-k
invariant-loop-k l = Offers l.fn.self l.row (take l.k l.rows.own.now) l.initial.near l.initial.far l.count l.near l.far l.so_far
