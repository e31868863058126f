-- `split::split` meets its contract, by recursion on the two halves of the rows. Assumes nothing.
use native.Mathlib.Omega.{arith}
use Rattle.definition.specs.Cut.{left_of, right_of}
use Rattle.definition.proofs.Cuts.{axis-below}
use Rattle.cut_nodes.specs.Written.{domain_of}
use Rattle.split.proofs.Turns.{turn, left-long, right-long, leaves-rows, leaves-written, left_less, left-asked, right-less, right-asked, halves-written, halves-rows}
use Rattle.split.proofs.+split.Goals as goal

pub halves-requires : goal.halves-requires
halves-requires t c =
    let a = c.args in
    let g = c.requires.dimensions_nonzero in
    let h = c.requires.dimensions_value in
    (omega (arith, c.cut_node-at.ensures.plane.0, h.0, axis-below a.level.points.dimensions a.level.points.coordinates.now a.rows.now g.0), omega (arith, g.1, h.0))

pub returns-then-half-leaf-clause-rows : goal.returns-then-half-leaf-clause-rows
returns-then-half-leaf-clause-rows t c =
    let a = c.args in
    let k = c.cut_node-at in
    let e = k.ensures in
    let u = c.halves in
    let x =
    turn a.rows.now a.whole u.result.0 u.result.1 a.depth k.result.axis k.result.value c.requires.dimensions_nonzero c.requires.dimensions_value
    k.new.rows k.new.wholes k.new.records.cuts.now k.new.records.planes.now e.plane e.rows e.wholes e.cuts e.planes k.auto.wholes u.ensures.left u.ensures.right in
    leaves-rows x c.if-half-leaf.true

pub returns-then-half-leaf-clause-written : goal.returns-then-half-leaf-clause-written
returns-then-half-leaf-clause-written t c =
    let a = c.args in
    let k = c.cut_node-at in
    let e = k.ensures in
    let u = c.halves in
    let x =
    turn a.rows.now a.whole u.result.0 u.result.1 a.depth k.result.axis k.result.value c.requires.dimensions_nonzero c.requires.dimensions_value
    k.new.rows k.new.wholes k.new.records.cuts.now k.new.records.planes.now e.plane e.rows e.wholes e.cuts e.planes k.auto.wholes u.ensures.left u.ensures.right in
    let q = domain_of a.rows.now a.whole a.depth in
    leaves-written x c.if-half-leaf.true
    (c.put_leaves.ensures.written (left_of a.level.points.dimensions a.level.points.coordinates.now q).rows (right_of a.level.points.dimensions a.level.points.coordinates.now q).rows (left-long x) (right-long x))

pub split-middle-requires : goal.split-middle-requires
split-middle-requires t c =
    let a = c.args in
    let k = c.cut_node-at in
    let e = k.ensures in
    let u = c.halves in
    let x =
    turn a.rows.now a.whole u.result.0 u.result.1 a.depth k.result.axis k.result.value c.requires.dimensions_nonzero c.requires.dimensions_value
    k.new.rows k.new.wholes k.new.records.cuts.now k.new.records.planes.now e.plane e.rows e.wholes e.cuts e.planes k.auto.wholes u.ensures.left u.ensures.right in
    let big = c.if-half-leaf.false in
    (omega (arith, c.decreases, left_less x big), left-asked x big)

pub split-requires : goal.split-requires
split-requires t c =
    let a = c.args in
    let k = c.cut_node-at in
    let e = k.ensures in
    let u = c.halves in
    let x =
    turn a.rows.now a.whole u.result.0 u.result.1 a.depth k.result.axis k.result.value c.requires.dimensions_nonzero c.requires.dimensions_value
    k.new.rows k.new.wholes k.new.records.cuts.now k.new.records.planes.now e.plane e.rows e.wholes e.cuts e.planes k.auto.wholes u.ensures.left u.ensures.right in
    let big = c.if-half-leaf.false in
    let l = c.split-middle in (
      omega (arith, c.decreases, right-less x big l.new.rows l.auto.rows),
      right-asked x big l.new.rows l.auto.rows l.new.room.wholes.now l.new.room.floats.now l.new.records.cuts.now l.new.records.planes.now l.ensures.written
          l.ensures.same.0.wholes_len l.ensures.same.0.floats_len l.ensures.same.1.cuts_len l.ensures.same.1.planes_len,
    )

pub returns-clause-rows : goal.returns-clause-rows
returns-clause-rows t c =
    let a = c.args in
    let k = c.cut_node-at in
    let e = k.ensures in
    let u = c.halves in
    let x =
    turn a.rows.now a.whole u.result.0 u.result.1 a.depth k.result.axis k.result.value c.requires.dimensions_nonzero c.requires.dimensions_value
    k.new.rows k.new.wholes k.new.records.cuts.now k.new.records.planes.now e.plane e.rows e.wholes e.cuts e.planes k.auto.wholes u.ensures.left u.ensures.right in
    let l = c.split-middle in
    let r = c.split in
    halves-rows x c.if-half-leaf.false l.new.rows l.auto.rows r.new.rows l.ensures.rows r.ensures.rows

pub returns-clause-written : goal.returns-clause-written
returns-clause-written t c =
    let a = c.args in
    let k = c.cut_node-at in
    let e = k.ensures in
    let u = c.halves in
    let x =
    turn a.rows.now a.whole u.result.0 u.result.1 a.depth k.result.axis k.result.value c.requires.dimensions_nonzero c.requires.dimensions_value
    k.new.rows k.new.wholes k.new.records.cuts.now k.new.records.planes.now e.plane e.rows e.wholes e.cuts e.planes k.auto.wholes u.ensures.left u.ensures.right in
    let l = c.split-middle in
    let r = c.split in
    halves-written x c.if-half-leaf.false l.new.rows l.auto.rows l.new.room.wholes.now l.new.room.floats.now l.new.records.cuts.now l.new.records.planes.now l.ensures.written
    l.ensures.same.0.wholes_len l.ensures.same.0.floats_len l.ensures.same.1.cuts_len l.ensures.same.1.planes_len r.ensures.written
