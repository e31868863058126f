-- `search::Search::visit` meets its contract, by recursion on places further behind in the record. Assumes nothing.
use mathlib.Core.Path.{sym, ap, ◌∙◌, subst}
use mathlib.Core.Bool.{not}
use mathlib.Core.List.{List}
use Prim.Native.Nat.{ℕ}
use native.Mathlib.Omega.{arith}
use lib.Ieee.{lt}
use Rattle.record_laws.specs.Table.{rows_under}
use Rattle.node.specs.Nodes.{as_node}
use Rattle.cut_index.specs.Filed.{positions_of}
use Rattle.search.specs.Visits.{Offered, Offers}
use Rattle.search.proofs.Visiting.{node-stands, node-passed, leaf-stands, half-asked, coordinate-asked, half-behind, first-asked, second-asked, both-done}
use Rattle.search.proofs.Search.+visit.Goals as goal

pub passes_over-requires-clause-asked : goal.passes_over-requires-clause-asked
passes_over-requires-clause-asked m c = let a = c.args in
    (c.requires.4.asked, c.requires.3.axes, (node-stands a.self a.place c.requires.0 c.requires.3).2)

pub returns-then-passes_over : goal.returns-then-passes_over
returns-then-passes_over m c t st = let a = c.args in
    node-passed a.self a.place a.row a.near.now a.far.now a.count t st c.requires.2 c.passes_over.result c.passes_over.ensures c.if-passes_over.true

pub node_at-requires : goal.node_at-requires
node_at-requires m c = let a = c.args in
    let n = node-stands a.self a.place c.requires.0 c.requires.3 in
    (n.0, n.1)

-- ---- a leaf
pub leaf_rows-rows-requires : goal.leaf_rows-rows-requires
leaf_rows-rows-requires m c = let a = c.args in
    (rows_under c.requires.0, leaf-stands a.self a.place c.requires.0 c.in-Leaf.number c.requires.3 (ap as_node (sym c.in-Leaf.is) ∙ c.node_at.ensures))

pub offer_leaf-requires : goal.offer_leaf-requires
offer_leaf-requires m c = let a = c.args in
    let t = c.requires.0 in
    let u = c.leaf_rows-rows.ensures (rows_under t) (leaf-stands a.self a.place t c.in-Leaf.number c.requires.3 (ap as_node (sym c.in-Leaf.is) ∙ c.node_at.ensures)) in (
      c.requires.1,
      u.1 ∙ ap (positions_of a.self.active.now) (sym u.0),
      c.requires.2,
      subst (λ (l : List ℕ). Offered a.self a.row l c.requires.1 a.near.now a.far.now a.count) (sym u.0) c.requires.4,
    )

pub returns-in-Leaf : goal.returns-in-Leaf
returns-in-Leaf m c t st = let a = c.args in
    let f = c.offer_leaf in
    let u = c.leaf_rows-rows.ensures (rows_under t) (leaf-stands a.self a.place t c.in-Leaf.number st (ap as_node (sym c.in-Leaf.is) ∙ c.node_at.ensures)) in
    subst (λ (l : List ℕ). Offers a.self a.row l a.near.now a.far.now a.count f.new.near f.new.far f.result) u.0 f.ensures

-- ---- a cut
pub coordinate-requires : goal.coordinate-requires
coordinate-requires m c = let a = c.args in
    coordinate-asked a.self a.place c.requires.0 c.in-Cut.axis c.in-Cut.plane c.requires.3 (ap as_node (sym c.in-Cut.is) ∙ c.node_at.ensures) a.row c.requires.4.asked.whose.inside

pub half-first-requires : goal.half-first-requires
half-first-requires m c = let a = c.args in
    half-asked a.self a.place c.requires.0 c.in-Cut.axis c.in-Cut.plane c.requires.3 (ap as_node (sym c.in-Cut.is) ∙ c.node_at.ensures) c.requires.4.asked.few

pub visit-count-requires : goal.visit-count-requires
visit-count-requires m c = let a = c.args in
    let t = c.requires.0 in
    let st = c.requires.3 in
    let e = ap as_node (sym c.in-Cut.is) ∙ c.node_at.ensures in
    let b = lt c.in-Cut.plane c.coordinate.result in
    let h = c.half-first in (
      omega (arith, c.decreases, half-behind a.self a.place t c.in-Cut.axis c.in-Cut.plane st e a.row a.near.now a.far.now a.count b h.result h.ensures, (node-stands a.self a.place t st).0),
      first-asked a.self a.place t c.in-Cut.axis c.in-Cut.plane st e a.row a.near.now a.far.now a.count b h.result h.ensures c.requires.1 c.requires.2 c.requires.4,
    )

pub half-second-requires : goal.half-second-requires
half-second-requires m c = let a = c.args in
    half-asked a.self a.place c.requires.0 c.in-Cut.axis c.in-Cut.plane c.requires.3 (ap as_node (sym c.in-Cut.is) ∙ c.node_at.ensures) c.requires.4.asked.few

pub visit-requires : goal.visit-requires
visit-requires m c = let a = c.args in
    let t = c.requires.0 in
    let st = c.requires.3 in
    let e = ap as_node (sym c.in-Cut.is) ∙ c.node_at.ensures in
    let b = lt c.in-Cut.plane c.coordinate.result in
    let h = c.half-first in
    let g = c.half-second in
    let v = c.visit-count in (
      omega (arith, c.decreases, half-behind a.self a.place t c.in-Cut.axis c.in-Cut.plane st e a.row a.near.now a.far.now a.count (not b) g.result g.ensures, (node-stands a.self a.place t st).0),
      second-asked a.self a.place t c.in-Cut.axis c.in-Cut.plane st e a.row a.near.now a.far.now a.count b h.result h.ensures v.new.near v.new.far v.result v.ensures g.result g.ensures
          c.requires.1 c.requires.2 c.requires.4,
    )

pub returns-in-Cut : goal.returns-in-Cut
returns-in-Cut m c t st = let a = c.args in
    let e = ap as_node (sym c.in-Cut.is) ∙ c.node_at.ensures in
    let b = lt c.in-Cut.plane c.coordinate.result in
    let h = c.half-first in
    let g = c.half-second in
    let v = c.visit-count in
    let w = c.visit in
    both-done a.self a.place t c.in-Cut.axis c.in-Cut.plane st e a.row a.near.now a.far.now a.count b h.result h.ensures v.new.near v.new.far v.result v.ensures g.result g.ensures
    w.new.near w.new.far w.result w.ensures
