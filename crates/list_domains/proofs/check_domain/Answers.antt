-- `list_domains::check_domain` meets its contract: each way out has its law. Assumes nothing.
use borrow.Author.Rules.{rules}
use Rattle.packed.specs.View.{leaf_of}
use Rattle.list_domains.proofs.OneDomain.{stretches-off, own-within, borrowed-within, row-fits, own-few, box-off, leaf-off, leaf-tells}
use Rattle.list_domains.proofs.check_domain.Goals as goal

pub returns-then-not-stretches_fit-clause-tested : goal.returns-then-not-stretches_fit-clause-tested
returns-then-not-stretches_fit-clause-tested c = stretches-off c.requires.ready c.read_row-row.ensures c.stretches_fit.ensures c.if-not-stretches_fit.true _ _

pub leaf-leaf-requires : goal.leaf-leaf-requires
leaf-leaf-requires c = row-fits c.requires.ready c.read_row-row.ensures c.stretches_fit.ensures c.if-not-stretches_fit.false

pub returns-then-not-floats_fit-clause-tested : goal.returns-then-not-floats_fit-clause-tested
returns-then-not-floats_fit-clause-tested c =
    box-off c.requires.ready c.read_row-row.ensures c.stretches_fit.ensures c.if-not-stretches_fit.false (leaf_of c.leaf-leaf.result) c.leaf-leaf.ensures
    _ _ _ _ _ c.floats_fit.ensures c.if-not-floats_fit.true _ _

pub check_leaf-requires-clause-few : goal.check_leaf-requires-clause-few
check_leaf-requires-clause-few c =
    own-few c.requires.ready c.read_row-row.ensures c.stretches_fit.ensures c.if-not-stretches_fit.false (leaf_of c.leaf-leaf.result) c.leaf-leaf.ensures

pub returns-in_err-leaves-clause-tested : goal.returns-in_err-leaves-clause-tested
returns-in_err-leaves-clause-tested c =
    rw c.from_residual.ensures (leaf-off c.requires.ready c.read_row-row.ensures c.stretches_fit.ensures c.if-not-stretches_fit.false (leaf_of c.leaf-leaf.result)
    c.leaf-leaf.ensures _ _ _ _ _ c.floats_fit.ensures c.if-not-floats_fit.false c.check_leaf.ensures.tested c.in_err-leaves.was)

pub overflow_add-result : goal.overflow_add-result
overflow_add-result c =
    let w = own-within c.requires.ready c.read_row-row.ensures c.stretches_fit.ensures c.if-not-stretches_fit.false in
    search rules

pub overflow_add-result-2 : goal.overflow_add-result-2
overflow_add-result-2 c =
    let w = borrowed-within c.requires.ready c.read_row-row.ensures c.stretches_fit.ensures c.if-not-stretches_fit.false in
    search rules

pub returns-clause-tested : goal.returns-clause-tested
returns-clause-tested c =
    leaf-tells c.requires.ready c.read_row-row.ensures c.stretches_fit.ensures c.if-not-stretches_fit.false (leaf_of c.leaf-leaf.result)
    c.leaf-leaf.ensures _ _ _ _ _ c.floats_fit.ensures c.if-not-floats_fit.false c.check_leaf.ensures.tested _ c.in_ok-leaves.was
