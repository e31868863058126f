-- `node::write_node` meets its contract. Assumes nothing.
use native.Mathlib.Omega.{arith}
use borrow.Author.Rules.{rules}
use mathlib.Core.Path.{sym, ap}
use lib.ListN.{set}
use Rattle.definition.specs.Record.{whole_of, float_of}
use Rattle.node.specs.Nodes.{as_node}
use Rattle.node.specs.declared.Node.{Node}
use Rattle.node.proofs.write_node.Goals as goal

pub overflow_add-records : goal.overflow_add-records
overflow_add-records c = omega (arith, ap (λ (n : Node). whole_of (as_node n)) c.in-Leaf.is)

pub returns-in-Cut : goal.returns-in-Cut
returns-in-Cut c = let a = c.args in record {
  same = search rules;
  cuts = ap (λ (n : Node). set a.records.now.cuts.now a.at (whole_of (as_node n))) (sym c.in-Cut.is);
  planes = ap (λ (n : Node). set a.records.now.planes.now a.at (float_of (as_node n))) (sym c.in-Cut.is);
}

pub returns-in-Leaf : goal.returns-in-Leaf
returns-in-Leaf c = let a = c.args in record {
  same = search rules;
  cuts = ap (λ (n : Node). set a.records.now.cuts.now a.at (whole_of (as_node n))) (sym c.in-Leaf.is);
  planes = ap (λ (n : Node). set a.records.now.planes.now a.at (float_of (as_node n))) (sym c.in-Leaf.is);
}
