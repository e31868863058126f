-- `cut_index::CutRecord::put_under` meets its contract, by recursion on the two halves of a domain. Assumes nothing.
use mathlib.Core.Path.{sym, ap, subst}
use Prim.Native.Nat.{ℕ, ◌+◌, ◌≤◌}
use native.Mathlib.Omega.{arith}
use lib.ListN.{length}
use Rattle.definition.specs.Record.{Cuts}
use Rattle.record_laws.specs.Table.{node_count}
use Rattle.record_laws.proofs.Entries.{node-count-cut}
use Rattle.cut_index.specs.Indexed.{RecordedBy}
use Rattle.cut_index.proofs.Makes.{Put, recorded-here, recorded-fits, recorded-leaf, recorded-cut, leaf-least, put-leaf, put-cut}
use Rattle.cut_index.proofs.CutRecord.+put_under.Goals as goal

pub node_at-requires : goal.node_at-requires
node_at-requires t c =
    let a = c.args in
    let s = a.self in
    let x = c.requires.recorded in
    recorded-here x.0 s.cuts.now s.planes.now s.leaves.internals.now s.leaves.domains.now s.leaves.first s.leaves.count s.from s.positions.now x.1 a.at x.2

pub least_of-least-requires : goal.least_of-least-requires
least_of-least-requires t c =
    let a = c.args in
    let s = a.self in
    let x = c.requires.recorded in
    let f = recorded-leaf x.0 s.cuts.now s.planes.now s.leaves.internals.now s.leaves.domains.now s.leaves.first s.leaves.count s.from s.positions.now x.1 a.at x.2 c.node_at.result c.node_at.ensures c.in-Leaf.number c.in-Leaf.is in
    rw (← f.3) (f.2.row, f.2.start, f.2.end)

pub overflow_add-at : goal.overflow_add-at
overflow_add-at t c =
    let a = c.args in
    let s = a.self in
    let x = c.requires.recorded in
    omega (arith, (recorded-here x.0 s.cuts.now s.planes.now s.leaves.internals.now s.leaves.domains.now s.leaves.first s.leaves.count s.from s.positions.now x.1 a.at x.2).0)

pub put_under-left-requires : goal.put_under-left-requires
put_under-left-requires t c =
    let a = c.args in
    let s = a.self in
    let x = c.requires.recorded in
    let h = (recorded-here x.0 s.cuts.now s.planes.now s.leaves.internals.now s.leaves.domains.now s.leaves.first s.leaves.count s.from s.positions.now x.1 a.at x.2).0 in
    let f = recorded-cut x.0 s.cuts.now s.planes.now s.leaves.internals.now s.leaves.domains.now s.leaves.first s.leaves.count s.from s.positions.now x.1 a.at x.2 c.node_at.result c.node_at.ensures c.in-Cut.axis c.in-Cut.plane c.in-Cut.is in
    (omega (arith, c.decreases, h), ((x.0, f.2, f.5), c.requires.room))

pub put_under-right-requires : goal.put_under-right-requires
put_under-right-requires t c =
    let a = c.args in
    let s = a.self in
    let x = c.requires.recorded in
    let h = (recorded-here x.0 s.cuts.now s.planes.now s.leaves.internals.now s.leaves.domains.now s.leaves.first s.leaves.count s.from s.positions.now x.1 a.at x.2).0 in
    let f = recorded-cut x.0 s.cuts.now s.planes.now s.leaves.internals.now s.leaves.domains.now s.leaves.first s.leaves.count s.from s.positions.now x.1 a.at x.2 c.node_at.result c.node_at.ensures c.in-Cut.axis c.in-Cut.plane c.in-Cut.is in
    let n = (c.put_under-left.ensures x.0 f.2 f.5).0 in (
      omega (arith, c.decreases, h, n),
      ((x.0, f.3, subst (λ (k : ℕ). RecordedBy s x.0 f.3 k) (sym n) f.6), omega (arith, c.requires.room, c.put_under-left.auto.index)),
    )

pub put_entry-requires-in-Cut : goal.put_entry-requires-in-Cut
put_entry-requires-in-Cut t c =
    let a = c.args in
    let s = a.self in
    let x = c.requires.recorded in
    omega (arith, (recorded-here x.0 s.cuts.now s.planes.now s.leaves.internals.now s.leaves.domains.now s.leaves.first s.leaves.count s.from s.positions.now x.1 a.at x.2).0, c.requires.room, c.put_under-left.auto.index, c.put_under-right.auto.index)

pub returns-in-Leaf : goal.returns-in-Leaf
returns-in-Leaf t c = λ active t' h.
    let a = c.args in
    let s = a.self in
    let f = recorded-leaf active s.cuts.now s.planes.now s.leaves.internals.now s.leaves.domains.now s.leaves.first s.leaves.count s.from s.positions.now t' a.at h c.node_at.result c.node_at.ensures c.in-Leaf.number c.in-Leaf.is in
    let least = c.least_of-least.result in
    subst (λ (z : Cuts). Put active z a.at (a.at + 1) least a.index.now c.put_entry.new.index) (sym f.1)
    (put-leaf active f.0 a.at least a.index.now c.put_entry.new.index
    (leaf-least active s.cuts.now s.planes.now s.leaves.internals.now s.leaves.domains.now s.leaves.first s.leaves.count s.from s.positions.now f.0 a.at c.in-Leaf.number f.2 f.3 least c.least_of-least.ensures) c.put_entry.ensures)

pub returns-in-Cut : goal.returns-in-Cut
returns-in-Cut t c = λ active t' h.
    let a = c.args in
    let s = a.self in
    let f = recorded-cut active s.cuts.now s.planes.now s.leaves.internals.now s.leaves.domains.now s.leaves.first s.leaves.count s.from s.positions.now t' a.at h c.node_at.result c.node_at.ensures c.in-Cut.axis c.in-Cut.plane c.in-Cut.is in
    let left = c.put_under-left in
    let right = c.put_under-right in
    let l = left.ensures active f.2 f.5 in
    let r = right.ensures active f.3 (subst (λ (k : ℕ). RecordedBy s active f.3 k) (sym l.0) f.6) in
    let fits : a.at + node_count t' ≤ length s.cuts.now = recorded-fits active s.cuts.now s.planes.now s.leaves.internals.now s.leaves.domains.now s.leaves.first s.leaves.count s.from s.positions.now t' a.at h in
    subst (λ (z : Cuts). Put active z a.at right.result.next c.min-least.result a.index.now c.put_entry-in-Cut.new.index) (sym f.4)
    (put-cut active f.0 f.1 f.2 f.3 a.at left.result.next left.result.least right.result.next right.result.least c.min-least.result a.index.now left.new.index right.new.index c.put_entry-in-Cut.new.index
    (omega (arith, fits, ap node_count f.4, node-count-cut f.0 f.1 f.2 f.3, c.requires.room)) l r c.min-least.ensures c.put_entry-in-Cut.ensures)
