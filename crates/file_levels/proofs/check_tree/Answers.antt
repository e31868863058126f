-- `file_levels::check_tree` meets its contract: each way out has its law. Assumes nothing.
use mathlib.Core.Path.{◌∙◌}
use native.Mathlib.Omega.{arith}
use borrow.Author.Rules.{rules}
use borrow.Author.Tests.{lt-leb}
use Rattle.marks.proofs.Marks.{marked-zeros}
use Rattle.file_levels.proofs.WholeTree.{levels-fail, domains-fail, borrowed-decide}
use Rattle.file_levels.proofs.check_tree.Goals as goal

pub below-sets-requires : goal.below-sets-requires
below-sets-requires c = (search rules, marked-zeros 16384, omega (arith, c.requires.1))

pub returns-in_default : goal.returns-in_default
returns-in_default c = λ s d k. levels-fail _ _ _ _ _ c.check_levels.ensures.tested s d _ k c.in_default.is

pub returns-then-t-most_domains : goal.returns-then-t-most_domains
returns-then-t-most_domains c = λ s d k.
    let few = rw c.most_domains.ensures at c.if-t-most_domains.true in
    rw c.most_borrowed.ensures (borrowed-decide _ _ _ _ _ c.check_levels.ensures.tested s d _ k _ c.in-Some.is few)

pub returns-else-t-most_domains : goal.returns-else-t-most_domains
returns-else-t-most_domains c = λ s d k.
    let many = rw c.most_domains.ensures at c.if-t-most_domains.false in
    rw c.most_domains.ensures (lt-leb _ _ many) ∙ domains-fail _ _ _ _ _ c.check_levels.ensures.tested s d _ k _ c.in-Some.is many
