use Rattle.overlap_owners.proofs.Marks.{MarkedUpTo}
use Rattle.overlap_owners.proofs.Places.{NotedUpTo}
use Rattle.overlap_owners.proofs.owners.Given as goal

abbrev pub invariant-loop-leaf : goal.invariant-loop-leaf
invariant-loop-leaf l =
    MarkedUpTo l.active l.leaves.internals.now l.leaves.domains.now l.leaves.first l.leaves.count l.leaf l.wholes
    × NotedUpTo l.active l.leaves.internals.now l.leaves.domains.now l.leaves.first l.leaves.count l.leaf l.start l.positions
