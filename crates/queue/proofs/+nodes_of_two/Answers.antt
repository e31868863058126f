-- `queue::nodes_of_two` meets its contract, by recursion on half the size. Assumes nothing.
use mathlib.Core.Path.{sym}
use Prim.Native.Nat.{◌+◌, ◌/◌}
use native.Mathlib.Omega.{arith}
use Rattle.queue.proofs.Nodes.{nodes-few, nodes-even, nodes-odd, nodes-most}
use Rattle.queue.proofs.+nodes_of_two.Goals as goal

pub returns-then-size-leaf : goal.returns-then-size-leaf
returns-then-size-leaf t c =
    let a = c.args in
    let few = c.if-size-leaf.true in
    (sym (nodes-few a.leaf a.size (omega arith)), sym (nodes-few a.leaf (a.size + 1) (omega arith)))

pub nodes_of_two-few-requires : goal.nodes_of_two-few-requires
nodes_of_two-few-requires t c =
    let p = c.requires in
    let many = c.if-size-leaf.false in
    (omega (arith, c.decreases), (p.0, omega (arith, p.1)))

pub overflow_add-mixed : goal.overflow_add-mixed
overflow_add-mixed t c =
    let a = c.args in
    let p = c.requires in
    let e = c.nodes_of_two-few.ensures in
    omega (arith, e.0, nodes-most a.leaf p.0 (a.size / 2), p.1)

pub overflow_add-mixed-2 : goal.overflow_add-mixed-2
overflow_add-mixed-2 t c =
    let a = c.args in
    let p = c.requires in
    let e = c.nodes_of_two-few.ensures in
    omega (arith, e.0, e.1, nodes-most a.leaf p.0 (a.size / 2), nodes-most a.leaf p.0 (a.size / 2 + 1), p.1)

pub overflow_mul-result : goal.overflow_mul-result
overflow_mul-result t c =
    let a = c.args in
    let p = c.requires in
    let e = c.nodes_of_two-few.ensures in
    omega (arith, e.0, nodes-most a.leaf p.0 (a.size / 2), p.1)

pub overflow_add-result : goal.overflow_add-result
overflow_add-result t c =
    let a = c.args in
    let p = c.requires in
    let e = c.nodes_of_two-few.ensures in
    omega (arith, e.0, nodes-most a.leaf p.0 (a.size / 2), p.1)

pub returns-then-size-eq0 : goal.returns-then-size-eq0
returns-then-size-eq0 t c =
    let a = c.args in
    let p = c.requires in
    let e = c.nodes_of_two-few.ensures in
    let h = a.size / 2 in
    let many = c.if-size-leaf.false in
    let even = c.if-size-eq0.true in
    (rw (e.0) (sym (nodes-even a.leaf p.0 a.size h (omega arith) (omega arith))), rw (e.0, e.1) (sym (nodes-odd a.leaf p.0 (a.size + 1) h (omega arith) (omega arith))))

pub overflow_mul-result-then-half-leaf : goal.overflow_mul-result-then-half-leaf
overflow_mul-result-then-half-leaf t c =
    let a = c.args in
    let p = c.requires in
    let e = c.nodes_of_two-few.ensures in
    omega (arith, e.1, nodes-most a.leaf p.0 (a.size / 2 + 1), p.1)

pub overflow_add-result-then-half-leaf : goal.overflow_add-result-then-half-leaf
overflow_add-result-then-half-leaf t c =
    let a = c.args in
    let p = c.requires in
    let e = c.nodes_of_two-few.ensures in
    omega (arith, e.1, nodes-most a.leaf p.0 (a.size / 2 + 1), p.1)

pub returns-then-half-leaf : goal.returns-then-half-leaf
returns-then-half-leaf t c =
    let a = c.args in
    let p = c.requires in
    let e = c.nodes_of_two-few.ensures in
    let h = a.size / 2 in
    let many = c.if-size-leaf.false in
    let odd = c.if-size-eq0.false in
    let few = c.if-half-leaf.true in
    (sym (nodes-few a.leaf a.size (omega arith)), rw (e.1) (sym (nodes-even a.leaf p.0 (a.size + 1) (h + 1) (omega arith) (omega arith))))

pub overflow_mul-result-2 : goal.overflow_mul-result-2
overflow_mul-result-2 t c =
    let a = c.args in
    let p = c.requires in
    let e = c.nodes_of_two-few.ensures in
    omega (arith, e.1, nodes-most a.leaf p.0 (a.size / 2 + 1), p.1)

pub overflow_add-result-2 : goal.overflow_add-result-2
overflow_add-result-2 t c =
    let a = c.args in
    let p = c.requires in
    let e = c.nodes_of_two-few.ensures in
    omega (arith, e.1, nodes-most a.leaf p.0 (a.size / 2 + 1), p.1)

pub returns : goal.returns
returns t c =
    let a = c.args in
    let p = c.requires in
    let e = c.nodes_of_two-few.ensures in
    let h = a.size / 2 in
    let odd = c.if-size-eq0.false in
    let many = c.if-half-leaf.false in
    (rw (e.0, e.1) (sym (nodes-odd a.leaf p.0 a.size h (omega arith) (omega arith))), rw (e.1) (sym (nodes-even a.leaf p.0 (a.size + 1) (h + 1) (omega arith) (omega arith))))
