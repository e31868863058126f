-- `file_domains::check_domains` meets its contract: before record i those before it passed, and the rest decides. Assumes nothing.
use native.Mathlib.Omega.{arith}
use Rattle.file_domains.proofs.DomainsInTurn.{tested-start, tested-fits, tested-next, tested-bad, tested-left, tested-end}
use borrow.Author.Rules.{rules}
use Rattle.file_domains.proofs.check_domains.Goals as goal

pub loop-i-init : goal.loop-i-init
loop-i-init c = (tested-start _ _ _ _ _ _ _ _ c.requires.1 c.requires.2, search rules)

pub returns-in_err-f-clause-tested : goal.returns-in_err-f-clause-tested
returns-in_err-f-clause-tested c = λ p q a b. rw c.from_residual.ensures (tested-bad _ _ _ _ _ _ _ _ _ _ _ _ _ _ _ c.loop-i.invariant.0 (search rules) _ _ _ c.check_domain.ensures.tested c.in_err-f.was p q a b)

pub overflow_add-borrowed : goal.overflow_add-borrowed
overflow_add-borrowed c = omega (arith, tested-fits _ _ _ _ _ _ _ _ _ _ _ _ _ _ _ c.loop-i.invariant.0 (search rules) _ _ _ c.check_domain.ensures.tested _ c.in_ok-f.was)

pub loop-i-preserved : goal.loop-i-preserved
loop-i-preserved c =
    (tested-next _ _ _ _ _ _ _ _ _ _ _ _ _ _ _ c.loop-i.invariant.0 (search rules) _ _ _ c.check_domain.ensures.tested _ c.in_ok-f.was c.check_domain.new.sets.same_length, search rules)

pub returns-then-leaves-ne0-clause-tested : goal.returns-then-leaves-ne0-clause-tested
returns-then-leaves-ne0-clause-tested c = λ p q a b. tested-left _ _ _ _ _ _ _ _ _ _ _ _ _ _ _ c.loop-i.invariant.0 (search rules) (search rules) p q a b

pub returns-clause-tested : goal.returns-clause-tested
returns-clause-tested c = λ p q a b. tested-end _ _ _ _ _ _ _ _ _ _ _ _ _ _ _ c.loop-i.invariant.0 (search rules) (search rules) (search rules) p q a b
