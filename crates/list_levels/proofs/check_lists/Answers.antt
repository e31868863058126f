-- `list_levels::check_lists` meets its contract. Assumes nothing.
use native.Mathlib.Omega.{arith}
use borrow.Author.Rules.{rules}
use Rattle.marks.proofs.Marks.{marked-zeros}
use Rattle.tree_answer.specs.Answers.{tree_counts, lists_of}
use Rattle.list_levels.proofs.WholeTree.{tree-out, tree-tell, levels-ready}
use Rattle.list_levels.proofs.check_lists.Goals as goal

pub returns-then-not-counts_stand : goal.returns-then-not-counts_stand
returns-then-not-counts_stand c = λ s e f.
    tree-out _ _ _ (tree_counts c.args.tree) _ c.requires.3 _ c.counts_stand.ensures s e f c.if-not-counts_stand.true

pub below-sets-requires : goal.below-sets-requires
below-sets-requires c = (search rules, marked-zeros 16384, omega (arith, c.requires.1))

pub check_levels-requires : goal.check_levels-requires
check_levels-requires c = let a = c.args in let t = a.tree.leaves in
    let l = lists_of a.tree.level_points.now t.internals.now t.domains.now t.boxes.now t.borrowed.now in
    rw c.most_borrowed.ensures (levels-ready t.dimensions a.n a.neighbours (tree_counts a.tree) l c.requires.0 c.requires.1 c.requires.3 _
    c.counts_stand.ensures c.if-not-counts_stand.false _ c.below-sets.ensures.listed)

pub returns : goal.returns
returns c = λ s e f. let a = c.args in let t = a.tree.leaves in
    let l = lists_of a.tree.level_points.now t.internals.now t.domains.now t.boxes.now t.borrowed.now in
    tree-tell t.dimensions a.n a.neighbours (tree_counts a.tree) l c.requires.3 _ c.counts_stand.ensures s e f c.if-not-counts_stand.false _ (rw c.most_borrowed.ensures at c.check_levels.ensures.tested)
