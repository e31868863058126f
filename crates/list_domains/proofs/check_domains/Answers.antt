-- `list_domains::check_domains` meets its contract: before row i those before it passed, and the rest decides. Assumes nothing.
use native.Mathlib.Omega.{arith}
use borrow.Author.Rules.{rules}
use Rattle.list_domains.proofs.Between.{between-left, between-end, between-out, between_next}
use Rattle.list_domains.proofs.check_domains.Goals as goal

pub returns-in_err-so_far-clause-tested : goal.returns-in_err-so_far-clause-tested
returns-in_err-so_far-clause-tested c = rw c.from_residual.ensures (between-out c.loop-i.invariant.0 c.loop-i-test.true c.check_domain.new.sets.left.now c.check_domain.new.sets.listed.now c.in_err-so_far.ensures.tested)

pub loop-i-preserved : goal.loop-i-preserved
loop-i-preserved c =
    (between_next c.loop-i.invariant.0 c.loop-i-test.true c.check_domain.new.sets.left.now c.check_domain.new.sets.listed.now c.in_ok-so_far.ensures.tested c.check_domain.new.sets.same_length, search rules)

pub returns-then-so_far-ne0-clause-tested : goal.returns-then-so_far-ne0-clause-tested
returns-then-so_far-ne0-clause-tested c = between-left c.loop-i.invariant.0 (omega arith) c.if-so_far-ne0.true

pub returns-clause-tested : goal.returns-clause-tested
returns-clause-tested c = between-end c.loop-i.invariant.0 (omega arith) c.if-so_far-ne0.false
