use Rattle.table_checks.proofs.Pass.{Passed}
use Rattle.table_checks.proofs.Table.survey.Given as goal

abbrev pub invariant-loop-i : goal.invariant-loop-i
invariant-loop-i l = Passed l.self.flags.now l.self.head.slots l.live l.next l.i
