use Rattle.row_sets.specs.Lent.{SameSets}
use Rattle.file_domains.proofs.DomainsInTurn.{Tested}
use Rattle.file_domains.proofs.check_domains.Given as goal

abbrev pub invariant-loop-i : goal.invariant-loop-i
invariant-loop-i l = Tested l.bytes l.at l.m l.dimensions l.level.coarse l.level.rows l.initial.sets.left.now l.initial.sets.listed.now l.sets.left.now l.sets.listed.now l.next l.leaves.remaining l.borrowed l.leaves.least l._i
    × SameSets l.initial.sets l.sets
