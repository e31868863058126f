-- `node::node_at` meets its contract. Assumes nothing.
use mathlib.Core.Path.{sym, ap}
use mathlib.Core.Bool.{Bool, cond}
use Prim.Native.Nat.{◌-◌}
use lib.ListN.{get_or}
use lib.Ieee.{nan}
use Rattle.definition.specs.Record.{cut_node, leaf_node}
use borrow.Author.Tests.{lt-ltb, le-ltb}
use Rattle.node.proofs.node_at.Goals as goal

pub returns-then-whole-lt-LEAF : goal.returns-then-whole-lt-LEAF
returns-then-whole-lt-LEAF c = let a = c.args in
    let w = get_or a.cuts.now a.at 0 in
    let x = get_or a.planes.now a.at nan in
    sym (ap (λ (b : Bool). cond b (cut_node w x) (leaf_node (w - 3))) (lt-ltb w 3 c.if-whole-lt-LEAF.true))

pub returns-else-whole-lt-LEAF : goal.returns-else-whole-lt-LEAF
returns-else-whole-lt-LEAF c = let a = c.args in
    let w = get_or a.cuts.now a.at 0 in
    let x = get_or a.planes.now a.at nan in
    sym (ap (λ (b : Bool). cond b (cut_node w x) (leaf_node (w - 3))) (le-ltb w 3 c.if-whole-lt-LEAF.false))
