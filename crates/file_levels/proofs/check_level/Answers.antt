-- `file_levels::check_level` meets its contract: each way out has its law. Assumes nothing.
use Rattle.row_sets.proofs.RowTests.{sets-inside}
use Rattle.file_levels.proofs.LevelHeads.{head-within}
use Rattle.file_levels.proofs.OneLevel.{no-level-record, too_few, too_many_rows, bad-level-rows, bad-domains, level-good}
use Rattle.file_levels.proofs.check_level.Goals as goal
use Rattle.file_levels.proofs.check_level.Goals.{then-h-least-via-then-h-least, then-h-least-via-else-h-least+then-below-h}

pub returns-in_err-h-clause-tested : goal.returns-in_err-h-clause-tested
returns-in_err-h-clause-tested c = λ p m. rw c.from_residual.ensures (no-level-record _ _ _ _ _ p _ c.in_err-h.ensures)

pub returns-then-h-least-clause-tested : goal.returns-then-h-least-clause-tested
returns-then-h-least-clause-tested c = λ p m.
    elim c.then-h-least.branch [
      | then-h-least-via-then-h-least w ↦ too_few _ _ _ _ _ p _ _ c.in_ok-h.ensures w.if-h-least.true
      | then-h-least-via-else-h-least+then-below-h w ↦ too_many_rows _ _ _ _ _ p _ _ c.in_ok-h.ensures w.if-below-h.true
    ]

pub returns-then-not-narrow-clause-tested : goal.returns-then-not-narrow-clause-tested
returns-then-not-narrow-clause-tested c = λ p m. bad-level-rows _ _ _ _ _ p _ _ c.in_ok-h.ensures c.if-h-least.false c.if-below-h.false _ (c.narrow.ensures.asked p m) c.if-not-narrow.true

pub check_domains-requires : goal.check_domains-requires
check_domains-requires c = let s = c.narrow.ensures.set c.if-not-narrow.false in
    (c.requires.0, (head-within _ _ _ c.in_ok-h.ensures).1, sets-inside c.narrow.new.self.same_length s.0 s.1 (λ x e. e))

pub returns-in_err-r-clause-tested : goal.returns-in_err-r-clause-tested
returns-in_err-r-clause-tested c = let s = c.narrow.ensures.set c.if-not-narrow.false in
    λ p m. rw c.from_residual-in_err-r.ensures (bad-domains _ _ _ _ _ p _ _ c.in_ok-h.ensures c.if-h-least.false c.if-below-h.false _ (c.narrow.ensures.asked p m) c.if-not-narrow.false
    _ (c.check_domains.ensures.tested _ _ s.0 s.1) c.in_err-r.was)

pub returns-clause-tested : goal.returns-clause-tested
returns-clause-tested c = let s = c.narrow.ensures.set c.if-not-narrow.false in
    λ p m. level-good _ _ _ _ _ p _ _ c.in_ok-h.ensures c.if-h-least.false c.if-below-h.false _ (c.narrow.ensures.asked p m) c.if-not-narrow.false
    _ (c.check_domains.ensures.tested _ _ s.0 s.1) _ c.in_ok-r.was
