use Rattle.packed.specs.View.{packed_of}
use Rattle.row_sets.specs.Lent.{SameSets}
use Rattle.list_domains.proofs.Between.{Between}
use Rattle.list_domains.proofs.check_domains.Given as goal

abbrev pub invariant-loop-i : goal.invariant-loop-i
invariant-loop-i l = Between l.level.coarse (packed_of l.tree) l.borrowed_most l.before.domains l.before.rows l.before.borrowed l.level.rows l.count l.initial.sets.left.now l.initial.sets.listed.now l.sets.left.now l.sets.listed.now l.i l.so_far.own_at l.so_far.borrowed_at l.so_far.leaves.remaining l.so_far.leaves.least
    × SameSets l.initial.sets l.sets
