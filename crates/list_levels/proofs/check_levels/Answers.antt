-- `list_levels::check_levels` meets its contract: before level t those before it passed, and the rest decides. Assumes nothing.
use mathlib.Core.Path.{refl}
use native.Mathlib.Omega.{arith}
use borrow.Author.Rules.{rules}
use Rattle.list_levels.proofs.BetweenLevels.{between_start, between-end, between-out, between_next}
use Rattle.list_levels.proofs.check_levels.Goals as goal

pub loop-t-init : goal.loop-t-init
loop-t-init c = (between_start c.requires, search rules)

pub returns-in_err-done-clause-tested : goal.returns-in_err-done-clause-tested
returns-in_err-done-clause-tested c =
    rw c.from_residual.ensures
    (between-out c.requires c.loop-t.invariant.0 c.loop-t-test.true c.next_level.new.sets.listed.now _ _ refl refl c.in_err-done.ensures.tested)

pub loop-t-preserved : goal.loop-t-preserved
loop-t-preserved c =
    (between_next c.requires c.loop-t.invariant.0 c.loop-t-test.true c.next_level.new.sets.listed.now _ _ refl refl _ c.in_ok-done.ensures.tested, search rules)

pub returns-clause-tested : goal.returns-clause-tested
returns-clause-tested c = between-end c.requires c.loop-t.invariant.0 (omega arith)
