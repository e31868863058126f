-- `file_levels::check_levels` meets its contract: before level i those before it passed, none of them with one domain, and the rest
-- decides. Assumes nothing.
use native.Mathlib.Omega.{arith}
use Rattle.file_levels.proofs.LevelsInTurn.{levels-start, level-bad, level-fits, levels-trail, levels-end, levels-next, levels-none}
use borrow.Author.Rules.{rules}
use Rattle.file_levels.proofs.check_levels.Goals as goal

pub loop-i-init : goal.loop-i-init
loop-i-init c = (levels-start _ _ _ _ _ c.requires.2 c.requires.3, search rules)

pub returns-in_err-l-clause-tested : goal.returns-in_err-l-clause-tested
returns-in_err-l-clause-tested c = rw c.from_residual.ensures (level-bad _ _ _ _ _ _ _ _ _ _ _ c.loop-i.invariant.0 (search rules) _ _ c.check_level.ensures.tested c.in_err-l.was)

pub overflow_add-domains : goal.overflow_add-domains
overflow_add-domains c = omega (arith, level-fits _ _ _ _ _ _ _ _ _ _ _ c.loop-i.invariant.0 (search rules) _ _ c.check_level.ensures.tested _ c.in_ok-l.was)

pub overflow_add-borrowed : goal.overflow_add-borrowed
overflow_add-borrowed c = omega (arith, level-fits _ _ _ _ _ _ _ _ _ _ _ c.loop-i.invariant.0 (search rules) _ _ c.check_level.ensures.tested _ c.in_ok-l.was)

pub returns-then-place-bytes-clause-tested : goal.returns-then-place-bytes-clause-tested
returns-then-place-bytes-clause-tested c = levels-trail _ _ _ _ _ _ _ _ _ _ _ c.loop-i.invariant.0 (search rules) _ _ c.check_level.ensures.tested _ c.in_ok-l.was (search rules) (search rules)

pub returns-then-l-eq1-clause-tested : goal.returns-then-l-eq1-clause-tested
returns-then-l-eq1-clause-tested c = levels-end _ _ _ _ _ _ _ _ _ _ _ c.loop-i.invariant.0 (search rules) _ _ c.check_level.ensures.tested _ c.in_ok-l.was (search rules) (search rules)

pub loop-i-preserved : goal.loop-i-preserved
loop-i-preserved c = (levels-next _ _ _ _ _ _ _ _ _ _ _ c.loop-i.invariant.0 (search rules) _ _ c.check_level.ensures.tested _ c.in_ok-l.was (search rules), search rules)

pub returns-clause-tested : goal.returns-clause-tested
returns-clause-tested c = levels-none _ _ _ _ _ _ _ _ _ _ _ c.loop-i.invariant.0 (omega arith)
