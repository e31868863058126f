-- `list_levels::check_level` meets its contract. Assumes nothing.
use Rattle.packed.specs.View.{packed_of}
use Rattle.row_sets.proofs.RowTests.{sets-inside}
use Rattle.list_levels.proofs.LevelRows.{level_out, level-tell}
use Rattle.list_levels.proofs.check_level.Goals as goal

pub returns-then-not-narrow-clause-tested : goal.returns-then-not-narrow-clause-tested
returns-then-not-narrow-clause-tested c = level_out _ _ _ _ _ c.narrow.ensures.asked _ c.if-not-narrow.true

pub check_domains-requires-clause-kept : goal.check_domains-requires-clause-kept
check_domains-requires-clause-kept c = let s = c.narrow.ensures.set c.if-not-narrow.false in sets-inside c.narrow.new.self.same_length s.0 s.1 (λ x e. e)

pub returns-clause-tested : goal.returns-clause-tested
returns-clause-tested c = let a = c.args in
    level-tell a.tree.level_points.now a.before.rows a.level.rows a.sets.now.listed.now _ c.narrow.ensures.asked _ _ (c.narrow.ensures.set c.if-not-narrow.false) c.if-not-narrow.false a.level.coarse
    (packed_of a.tree.leaves) a.borrowed_most a.before.domains a.before.borrowed a.count c.check_domains.new.sets.listed.now c.check_domains.result c.check_domains.ensures.tested
