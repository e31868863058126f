-- `coarse_points::send_leaves` meets its contract: what the leaves so far send stands in front, and so do their covers. Assumes nothing.
use mathlib.Core.Path.{◌≡◌, refl, sym, ap, ◌∙◌}
use Prim.Native.Nat.{◌<◌}
use native.Mathlib.Omega.{arith}
use lib.ListN.{length, get_or}
use lib.Seq.{take_all}
use Rattle.lists.specs.Lists.{put}
use Rattle.lists.proofs.Put.{put-nil, part-back}
use Rattle.coarse_points.proofs.Sending.{sent-first}
use Rattle.coarse_points.proofs.Covering.{covers-first, covers-next}
use Rattle.coarse_points.proofs.Stages.{lent-good, lent-size, part-size, leaf_room, leaf-end, leaf-list, all-sent}
use Rattle.coarse_points.proofs.send_leaves.Goals as goal

pub loop-l-init : goal.loop-l-init
loop-l-init c = let a = c.args in
    let P = a.points in
    let v = a.leaves in
    let e = sent-first P.dimensions P.coordinates.now v.internals.now v.domains.now v.first a.shares.now in (
      sym (ap length e),
      sym (ap (put a.sent.now 0) e ∙ put-nil a.sent.now 0),
      covers-first P.dimensions P.coordinates.now v.internals.now v.domains.now v.first a.shares.now a.covers.now,
    )

pub own-requires : goal.own-requires
own-requires c = let a = c.args in
    let i = c.loop-l in
    let p = c.requires.leaves in
    let f = p.each i.l (omega (arith, p.listed, c.loop-l-test.true)) in
    (f.row, f.stretch)

pub sample_leaf-requires-clause-rows : goal.sample_leaf-requires-clause-rows
sample_leaf-requires-clause-rows c = let a = c.args in
    let i = c.loop-l in
    let p = c.requires.leaves in
    lent-good _ _ _ _ _ _ _ (p.each i.l (omega (arith, p.listed, c.loop-l-test.true))) _ c.own.ensures

pub sample_leaf-requires-clause-few : goal.sample_leaf-requires-clause-few
sample_leaf-requires-clause-few c = let a = c.args in
    let i = c.loop-l in
    let p = c.requires.leaves in
    let h : i.l < a.leaves.count = omega (arith, p.listed, c.loop-l-test.true) in
    let f = p.each i.l h in
    let long = part-size i.sent i.start (get_or a.shares.now i.l 0) (omega (arith, leaf_room _ _ _ _ _ _ _ _ _ p i.l h, i.invariant.0, i.auto.sent)) in
    (f.axes, omega (arith, long, f.within, lent-size _ _ _ _ _ _ _ f _ c.own.ensures))

pub sample_leaf-requires-clause-room : goal.sample_leaf-requires-clause-room
sample_leaf-requires-clause-room c = let a = c.args in
    let i = c.loop-l in
    let p = c.requires.leaves in
    let f = p.each i.l (omega (arith, p.listed, c.loop-l-test.true)) in
    omega (arith, lent-size _ _ _ _ _ _ _ f _ c.own.ensures, f.floats)

pub overflow_add-end : goal.overflow_add-end
overflow_add-end c = let a = c.args in
    let i = c.loop-l in
    let p = c.requires.leaves in
    let h : i.l < a.leaves.count = omega (arith, p.listed, c.loop-l-test.true) in
    omega (arith, leaf_room _ _ _ _ _ _ _ _ _ p i.l h, i.invariant.0)

pub loop-l-preserved : goal.loop-l-preserved
loop-l-preserved c = let a = c.args in
    let P = a.points in
    let v = a.leaves in
    let i = c.loop-l in
    let p = c.requires.leaves in
    let sl = c.sample_leaf in
    let h : i.l < v.count = omega (arith, p.listed, c.loop-l-test.true) in
    let n = get_or a.shares.now i.l 0 in
    let long = part-size i.sent i.start n (omega (arith, leaf_room _ _ _ _ _ _ _ _ _ p i.l h, i.invariant.0, i.auto.sent)) in
    let written = rw (c.own.ensures, long) at sl.ensures.sent in
    let cover = rw (c.own.ensures, long) at sl.ensures.cover in (
      omega (arith, leaf-end _ _ _ _ _ _ _ _ _ p i.l, i.invariant.0),
      part-back i.sent i.start n sl.new.sent (sl.auto.sent ∙ long)
          ∙ ap (put i.sent i.start) written
          ∙ leaf-list _ _ _ _ _ _ _ _ _ p a.sent.now i.l i.start i.sent refl h i.invariant.0 i.invariant.1,
      covers-next P.dimensions P.coordinates.now v.internals.now v.domains.now v.first a.shares.now i.covers i.l sl.result
          (omega (arith, h, i.auto.covers, c.requires.room)) cover i.invariant.2,
    )

pub offset_bounds-sent-start : goal.offset_bounds-sent-start
offset_bounds-sent-start c = let a = c.args in
    let i = c.loop-l in
    let p = c.requires.leaves in
    let h : i.l < a.leaves.count = omega (arith, p.listed, c.loop-l-test.true) in
    omega (arith, leaf_room _ _ _ _ _ _ _ _ _ p i.l h, i.invariant.0, i.auto.sent, c.well_formed)

pub slice_bounds-sample_leaf-end : goal.slice_bounds-sample_leaf-end
slice_bounds-sample_leaf-end c = let a = c.args in
    let i = c.loop-l in
    let p = c.requires.leaves in
    let h : i.l < a.leaves.count = omega (arith, p.listed, c.loop-l-test.true) in
    omega (arith, leaf_room _ _ _ _ _ _ _ _ _ p i.l h, i.invariant.0, i.auto.sent)

pub returns : goal.returns
returns c = let a = c.args in
    let i = c.loop-l in
    let p = c.requires.leaves in
    let all : i.l ≡ a.leaves.count = omega (arith, p.listed) in record {
      sent = all-sent _ _ _ _ _ _ _ _ _ p a.sent.now i.sent refl (rw all at i.invariant.1);
      covers = sym (take_all a.leaves.count i.covers (omega (arith, i.auto.covers, c.requires.room))) ∙ (rw all at i.invariant.2);
    }
