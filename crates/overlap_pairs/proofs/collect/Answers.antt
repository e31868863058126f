-- `overlap_pairs::collect` meets its contract. The loop has gathered what the positions passed send: `Gathered`. Assumes nothing.
use Prim.Native.Nat.{◌+◌, ◌*◌, ◌≤◌}
use lib.ListN.{length}
use Rattle.overlap_pairs.proofs.Collects.{asked-none, asked-below, asked-room, asked-more, asked-all}
use native.Mathlib.Omega.{arith}
use Rattle.overlap_pairs.proofs.collect.Goals as goal

pub loop-p-init : goal.loop-p-init
loop-p-init c =
    let a = c.args in
    asked-none a.search.points.dimensions a.search.points.coordinates.now a.search.neighbours a.search.active.now c.requires.0.good.ascends a.wholes.now a.positions.now c.requires.3

pub send_row-n-requires : goal.send_row-n-requires
send_row-n-requires c =
    let a = c.args in
    let l = c.loop-p in
    let here = c.loop-p-test.true in
    let k = l.invariant in
    let o = asked-room a.search.points.dimensions a.search.points.coordinates.now a.search.neighbours a.search.active.now c.requires.0.good.ascends a.wholes.now a.positions.now c.requires.3 l.wholes l.p-index l.n k here in (
      c.requires.0,
      c.requires.1,
      asked-below a.search.points.dimensions a.search.points.coordinates.now a.search.neighbours a.search.active.now c.requires.0.good.ascends a.wholes.now a.positions.now c.requires.3 l.p-index here,
      record { few = c.requires.2.few; room = omega (arith, l.auto.wholes, c.requires.2.room); small = λ i h. rw (k.stay i h) (c.requires.2.small i h) },
      k.start,
      omega (arith, l.auto.wholes, c.requires.4, o),
    )

pub loop-p-preserved : goal.loop-p-preserved
loop-p-preserved c =
    let a = c.args in
    let l = c.loop-p in
    let here = c.loop-p-test.true in
    let o = asked-room a.search.points.dimensions a.search.points.coordinates.now a.search.neighbours a.search.active.now c.requires.0.good.ascends a.wholes.now a.positions.now c.requires.3 l.wholes l.p-index l.n l.invariant here in
    let r : l.n + 2 * a.search.neighbours ≤ length l.wholes = omega (arith, l.auto.wholes, c.requires.4, o) in
    asked-more a.search.points.dimensions a.search.points.coordinates.now a.search.neighbours a.search.active.now c.requires.0.good.ascends a.wholes.now a.positions.now c.requires.3 l.wholes l.p-index l.n l.invariant here r
    c.send_row-n.new.wholes c.send_row-n.result c.send_row-n.ensures

pub returns : goal.returns
returns c =
    let a = c.args in
    let l = c.loop-p in
    asked-all a.search.points.dimensions a.search.points.coordinates.now a.search.neighbours a.search.active.now c.requires.0.good.ascends a.wholes.now a.positions.now c.requires.3 l.wholes l.p-index l.n
    (omega arith) (omega arith) l.invariant
