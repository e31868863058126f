-- `leaves::cut_leaves` meets its contract. The loop's invariant is `Run`, and that the lists keep their lengths; each turn brings down the
-- number of cuts that are left. Assumes nothing.
use mathlib.Core.Path.{◌≡◌, refl, sym, ap, ◌∙◌}
use mathlib.Core.List.{List, ◌++◌}
use Prim.Native.Nat.{ℕ, ◌+◌, ◌-◌, ◌*◌}
use native.Mathlib.Nat.{mul-add, mul-one}
use native.Mathlib.Omega.{arith}
use borrow.Author.Rules.{rules}
use borrow.Rule.Slice.PartMut.{put_mid}
use lib.ListN.{length, set, take, drop}
use lib.Ieee.{Float}
use Rattle.lists.specs.Lists.{put, part}
use Rattle.lists.proofs.Put.{part-lent}
use Rattle.definition.specs.Number.{plus_zero}
use Rattle.definition.specs.Points.{box_width_lem}
use Rattle.leaves.proofs.Place.{lent-long}
use Rattle.rows.proofs.Good.{good-inside}
use Rattle.boxes.specs.Boxes.{floats_of}
use Rattle.leaves.proofs.Turns.{kept_next, run-first, run_end, run-record, found_all, front, known}
use Rattle.leaves.proofs.Turns.{lent-good, lent-some, spare-length, lent-room, rows-kept, room-kept, wait, wait-less, next-leaves, next-leaves-less, width-most, axis-fit}
use Rattle.leaves.proofs.cut_leaves.Goals as goal

pub put_root-requires : goal.put_root-requires
put_root-requires c = let a = c in
    let p = a.requires in
    record {
      dimensions_bound = (p.dimensions_nonzero.1, p.dimensions_nonzero.3, good-inside _ p.dimensions_nonzero.4);
      waiting_width_in_bounds = (omega (arith, p.dimensions_nonzero.3, p.rows_in_bounds.0), omega (arith, width-most a.args.points.dimensions (length a.args.rows.now) p.dimensions_nonzero.3, p.rows_in_bounds.1));
    }

pub loop-head-init : goal.loop-head-init
loop-head-init c = let r = c in
    let a = c in
    let p = a.requires in (
      run-first _ _ p.dimensions_nonzero.0 p.dimensions_nonzero.1 _ p.dimensions_nonzero.2 _ p.dimensions_nonzero.3 p.dimensions_nonzero.4 a.args.room.now.wholes.now _ a.args.room.now.floats.now _ p.rows_in_bounds.0 p.rows_in_bounds.1
          _ r.put_root.ensures.wholes r.put_root.ensures.floats _ _ _ _ _ _ p.rows_bound.1 p.rows_bound.2 p.rows_in_bounds_2.0 p.rows_in_bounds_2.1,
      record {
        same_w = refl;
        same-O = refl;
        same-floats = refl;
        same-B = refl;
        cap-w = search rules;
        cap-O = search rules;
        cap-C = search rules;
        cap-floats = search rules;
        cap-B = search rules;
      },
      search rules,
    )

pub overflow_add-end : goal.overflow_add-end
overflow_add-end c = let t = c in
    let i = t.loop-head.invariant in
    let x = front i.0 t.loop-head-test.true c.waiting_at-stretch.ensures in
    let u = known x in
    omega (arith, u.inside, u.fit-w, i.1.same_w, i.1.cap-w)

pub box_at-whole-requires : goal.box_at-whole-requires
box_at-whole-requires c = let t = c in
    let i = t.loop-head.invariant in
    let x = front i.0 t.loop-head-test.true c.waiting_at-stretch.ensures in
    let u = known x in
    let w = box_width_lem c.args.points.dimensions in
    (i.0.few, omega (arith, u.read-fit, u.floats-all, mul-add w t.loop-head.head 1, mul-one w))

pub offset_bounds-rows-start : goal.offset_bounds-rows-start
offset_bounds-rows-start c = let t = c in
    let i = t.loop-head.invariant in
    let x = front i.0 t.loop-head-test.true c.waiting_at-stretch.ensures in
    let u = known x in
    search rules

pub slice_bounds-cut_node-end : goal.slice_bounds-cut_node-end
slice_bounds-cut_node-end c = let t = c in
    let i = t.loop-head.invariant in
    let x = front i.0 t.loop-head-test.true c.waiting_at-stretch.ensures in
    let u = known x in
    omega (arith, u.inside, u.same)

pub slice_bounds-cut_node-end-in-loop-head : goal.slice_bounds-cut_node-end-in-loop-head
slice_bounds-cut_node-end-in-loop-head c = let t = c in
    let i = t.loop-head.invariant in
    let x = front i.0 t.loop-head-test.true c.waiting_at-stretch.ensures in
    let u = known x in
    omega (arith, u.inside, u.fit-w)

pub slice_bounds-cut_node-end-in-loop-head-2 : goal.slice_bounds-cut_node-end-in-loop-head-2
slice_bounds-cut_node-end-in-loop-head-2 c = let t = c in
    let i = t.loop-head.invariant in
    let x = front i.0 t.loop-head-test.true c.waiting_at-stretch.ensures in
    sym (spare-length x)

pub cut_node-plane-requires : goal.cut_node-plane-requires
cut_node-plane-requires c = let t = c in
    let i = t.loop-head.invariant in
    let x = front i.0 t.loop-head-test.true c.waiting_at-stretch.ensures in
    let u = known x in
    (i.0.pos, lent-some x, lent-good x, omega (arith, lent-room x), u.nodes_fit.cut.0, u.nodes_fit.cut.1)

pub overflow_mul-tail : goal.overflow_mul-tail
overflow_mul-tail c = let t = c in
    let i = t.loop-head.invariant in
    let x = front i.0 t.loop-head-test.true c.waiting_at-stretch.ensures in
    let u = known x in
    omega (arith, u.room-fit c.if-leaf-count.true, u.fit-w, i.1.same_w, i.1.cap-w)

pub put_halves-requires : goal.put_halves-requires
put_halves-requires c = let cut = c in
    let t = c in
    let i = t.loop-head.invariant in
    let x = front i.0 t.loop-head-test.true c.waiting_at-stretch.ensures in
    let u = known x in
    let m = room-kept x cut.cut_node-plane.new.wholes cut.cut_node-plane.auto.wholes in (
      omega (arith, u.room-fit c.if-leaf-count.true, m, u.fit-w),
      omega (arith, u.inside, u.fit-w, i.1.same_w, i.1.cap-w),
      omega (arith, u.shallow, u.fit-w, i.1.same_w, i.1.cap-w),
      omega (arith, c.nodes_under-below.ensures, u.nodes_fit.halves c.if-leaf-count.true, i.2.cuts_len, i.1.cap-C),
    )

pub put_boxes-requires : goal.put_boxes-requires
put_boxes-requires c = let cut = c in
    let read = c in
    let t = c in
    let i = t.loop-head.invariant in
    let x = front i.0 t.loop-head-test.true c.waiting_at-stretch.ensures in
    let u = known x in
    let e = read.box_at-whole.ensures.0 in
    let w = box_width_lem c.args.points.dimensions in
    (rw e (axis-fit x _ cut.cut_node-plane.ensures.plane.0), rw e i.0.few, rw e (omega (arith, u.floats_fit c.if-leaf-count.true, mul-add w t.loop-head.tail 2)))

pub overflow_add-tail : goal.overflow_add-tail
overflow_add-tail c = let t = c in
    let i = t.loop-head.invariant in
    let x = front i.0 t.loop-head-test.true c.waiting_at-stretch.ensures in
    let u = known x in
    omega (arith, u.room-fit c.if-leaf-count.true, u.fit-w, i.1.same_w, i.1.cap-w)

pub loop-head-smaller-then-leaf-count : goal.loop-head-smaller-then-leaf-count
loop-head-smaller-then-leaf-count c = let cut = c in
    let read = c in
    let t = c in
    let i = t.loop-head.invariant in
    let x = front i.0 t.loop-head-test.true c.waiting_at-stretch.ensures in
    wait-less x cut.cut_node-plane.new.rows cut.cut_node-plane.new.wholes cut.cut_node-plane.ensures.rows cut.cut_node-plane.auto.wholes
    cut.cut_node-plane.result.axis cut.cut_node-plane.result.value (floats_of read.box_at-whole.result) read.box_at-whole.result.dimensions
    cut.cut_node-plane.ensures.plane.0 cut.cut_node-plane.ensures.plane.1 read.box_at-whole.ensures.1 read.box_at-whole.ensures.0
    c.if-leaf-count.true _ _ c.put_halves.ensures

pub loop-head-preserved-then-leaf-count : goal.loop-head-preserved-then-leaf-count
loop-head-preserved-then-leaf-count c = let wrote = c in
    let joined = c in
    let under = c.nodes_under-below.ensures in
    let cut = c in
    let read = c in
    let t = c in
    let i = t.loop-head.invariant in
    let x = front i.0 t.loop-head-test.true c.waiting_at-stretch.ensures in
    let whole = read.box_at-whole.result in
    let b = floats_of whole in
    let y = cut.cut_node-plane.result.axis in
    let v = cut.cut_node-plane.result.value in
    let m = room-kept x cut.cut_node-plane.new.wholes cut.cut_node-plane.auto.wholes in (
      wait x cut.cut_node-plane.new.rows cut.cut_node-plane.new.wholes cut.cut_node-plane.ensures.rows cut.cut_node-plane.auto.wholes
          y v b whole.dimensions
          cut.cut_node-plane.ensures.plane.0 cut.cut_node-plane.ensures.plane.1 read.box_at-whole.ensures.1 read.box_at-whole.ensures.0
          c.if-leaf-count.true _ _ joined.put_halves.ensures _
          (wrote.put_boxes.ensures ∙ ap (λ (d : ℕ). put t.loop-head.floats (box_width_lem d * t.loop-head.tail) (set b (whole.dimensions + y) v ++ set b y v)) read.box_at-whole.ensures.0)
          under _ _ cut.cut_node-plane.ensures.cuts cut.cut_node-plane.ensures.planes,
      kept_next i.1 (joined.put_halves.auto.wholes ∙ m) refl wrote.put_boxes.auto.boxes refl,
      search rules,
    )

pub overflow_add-n : goal.overflow_add-n
overflow_add-n c = let t = c in
    let i = t.loop-head.invariant in
    let x = front i.0 t.loop-head-test.true c.waiting_at-stretch.ensures in
    let u = known x in
    omega (arith, u.rows_fit, u.fit-w, i.1.same_w, i.1.cap-w)

pub offset_bounds-rows-start-else-leaf-count : goal.offset_bounds-rows-start-else-leaf-count
offset_bounds-rows-start-else-leaf-count c = let t = c in
    let i = t.loop-head.invariant in
    let x = front i.0 t.loop-head-test.true c.waiting_at-stretch.ensures in
    let u = known x in
    search rules

pub slice_bounds-put_values-end : goal.slice_bounds-put_values-end
slice_bounds-put_values-end c = let t = c in
    let i = t.loop-head.invariant in
    let x = front i.0 t.loop-head-test.true c.waiting_at-stretch.ensures in
    let u = known x in
    omega (arith, rows-kept x c.cut_node-plane.new.rows c.cut_node-plane.auto.rows, u.inside, u.same)

pub put_values-requires : goal.put_values-requires
put_values-requires c = let cut = c in
    let t = c in
    let i = t.loop-head.invariant in
    let x = front i.0 t.loop-head-test.true c.waiting_at-stretch.ensures in
    let u = known x in
    let m = room-kept x cut.cut_node-plane.new.wholes cut.cut_node-plane.auto.wholes in
    let r = rows-kept x cut.cut_node-plane.new.rows cut.cut_node-plane.auto.rows in
    let s = c.waiting_at-stretch.result in
    let rows = put_mid s.start (s.start + s.count - s.start) t.loop-head.rows cut.cut_node-plane.new.rows in
    omega (arith, lent-long rows s.start s.count (omega (arith, r, u.inside, u.same)), m, u.rows_fit, u.fit-w)

pub overflow_add-start : goal.overflow_add-start
overflow_add-start c = let t = c in
    let i = t.loop-head.invariant in
    let x = front i.0 t.loop-head-test.true c.waiting_at-stretch.ensures in
    let u = known x in
    let p = c.requires.rows_bound.0 in
    omega (arith, u.rows_fit, p)

pub put_leaves-requires : goal.put_leaves-requires
put_leaves-requires c = let t = c in
    let i = t.loop-head.invariant in
    let x = front i.0 t.loop-head-test.true c.waiting_at-stretch.ensures in
    let u = known x in
    let p = c.requires.rows_bound.0 in (
      u.leaves-fit,
      omega (arith, u.rows_fit, p),
      omega (arith, u.shallow, u.fit-w, i.1.same_w, i.1.cap-w),
      omega (arith, (u.nodes_fit.two c.if-leaf-count.false).0, i.2.cuts_len, i.1.cap-C),
    )

pub overflow_add-place : goal.overflow_add-place
overflow_add-place c = let t = c in
    let i = t.loop-head.invariant in
    let x = front i.0 t.loop-head-test.true c.waiting_at-stretch.ensures in
    let u = known x in
    omega (arith, u.nodes_fit.cut.0, i.2.cuts_len, i.1.cap-C)

pub write_leaves-requires : goal.write_leaves-requires
write_leaves-requires c = let cut = c in
    let t = c in
    let i = t.loop-head.invariant in
    let x = front i.0 t.loop-head-test.true c.waiting_at-stretch.ensures in
    let u = known x in
    let two = u.nodes_fit.two c.if-leaf-count.false in
    let same = cut.cut_node-plane.ensures.same in
    (omega (arith, two.0, same.cuts_len), omega (arith, two.1, same.planes_len), omega (arith, u.number-fits.0, u.number-fits.1, u.fit-w, i.1.same_w, i.1.cap-w))

pub put_boxes-requires-else-leaf-count : goal.put_boxes-requires-else-leaf-count
put_boxes-requires-else-leaf-count c = let cut = c in
    let read = c in
    let t = c in
    let i = t.loop-head.invariant in
    let x = front i.0 t.loop-head-test.true c.waiting_at-stretch.ensures in
    let u = known x in
    let e = read.box_at-whole.ensures.0 in
    let w = box_width_lem c.args.points.dimensions in
    (rw e (axis-fit x _ cut.cut_node-plane.ensures.plane.0), rw e i.0.few, rw e (omega (arith, u.boxes_fit, mul-add w t.loop-head.k 2)))

pub overflow_add-done : goal.overflow_add-done
overflow_add-done c = let t = c in
    let i = t.loop-head.invariant in
    let x = front i.0 t.loop-head-test.true c.waiting_at-stretch.ensures in
    let u = known x in
    omega (arith, u.rows_fit, u.fit-w, i.1.same_w, i.1.cap-w)

pub overflow_add-k : goal.overflow_add-k
overflow_add-k c = let t = c in
    let i = t.loop-head.invariant in
    let x = front i.0 t.loop-head-test.true c.waiting_at-stretch.ensures in
    let u = known x in
    omega (arith, u.leaves-fit, i.1.same-O, i.1.cap-O)

-- a stretch of the rows, packed at this place
packed_at : (w to rows : List ℕ) (at k start count : ℕ) → to ≡ put w at (take (start + count - start) (drop start rows)) → at ≡ k
    → to ≡ put w k (part rows start count)
packed_at w to rows at k start count e place =
    e ∙ ap (λ (i : ℕ). put w i (take (start + count - start) (drop start rows))) place ∙ ap (put w k) (part-lent rows start count)

pub loop-head-smaller : goal.loop-head-smaller
loop-head-smaller c = let cut = c in
    let read = c in
    let t = c in
    let i = t.loop-head.invariant in
    let x = front i.0 t.loop-head-test.true c.waiting_at-stretch.ensures in
    next-leaves-less x cut.cut_node-plane.new.rows cut.cut_node-plane.new.wholes cut.cut_node-plane.ensures.rows cut.cut_node-plane.auto.wholes
    cut.cut_node-plane.result.axis cut.cut_node-plane.result.value (floats_of read.box_at-whole.result) read.box_at-whole.result.dimensions
    cut.cut_node-plane.ensures.plane.0 cut.cut_node-plane.ensures.plane.1 read.box_at-whole.ensures.1 read.box_at-whole.ensures.0
    c.if-leaf-count.false _ (packed_at _ _ _ _ _ _ _ c.put_values.ensures (omega arith))

pub loop-head-preserved : goal.loop-head-preserved
loop-head-preserved c = let wrote = c in
    let recorded = c in
    let named = c in
    let packed = c in
    let cut = c in
    let read = c in
    let t = c in
    let i = t.loop-head.invariant in
    let x = front i.0 t.loop-head-test.true c.waiting_at-stretch.ensures in
    let p = c.waiting_at-stretch.result.place in
    let number = t.loop-head.k - c.args.start.first in
    let whole = read.box_at-whole.result in
    let b = floats_of whole in
    let y = cut.cut_node-plane.result.axis in
    let v = cut.cut_node-plane.result.value in
    let m = room-kept x cut.cut_node-plane.new.wholes cut.cut_node-plane.auto.wholes in (
      next-leaves x cut.cut_node-plane.new.rows cut.cut_node-plane.new.wholes cut.cut_node-plane.ensures.rows cut.cut_node-plane.auto.wholes
          y v b whole.dimensions
          cut.cut_node-plane.ensures.plane.0 cut.cut_node-plane.ensures.plane.1 read.box_at-whole.ensures.1 read.box_at-whole.ensures.0
          c.if-leaf-count.false _ (packed_at _ _ _ _ _ _ _ packed.put_values.ensures (omega arith)) _ _ named.put_leaves.ensures
          (wrote.put_boxes-else-leaf-count.ensures ∙ ap (λ (d : ℕ). put t.loop-head.boxes (box_width_lem d * t.loop-head.k) (set b (whole.dimensions + y) v ++ set b y v)) read.box_at-whole.ensures.0)
          _ _
          (recorded.write_leaves.ensures.cuts ∙ ap (λ (z : List ℕ). set (set z (p + 1) (3 + number)) (p + 1 + 1) (3 + (number + 1))) cut.cut_node-plane.ensures.cuts)
          (recorded.write_leaves.ensures.planes ∙ ap (λ (z : List Float). set (set z (p + 1) plus_zero) (p + 1 + 1) plus_zero) cut.cut_node-plane.ensures.planes),
      kept_next i.1 (packed.put_values.auto.list ∙ m) named.put_leaves.auto.domains refl wrote.put_boxes-else-leaf-count.auto.boxes,
      search rules,
    )

pub take_packed-requires : goal.take_packed-requires
take_packed-requires c = let r = c.loop-head.invariant.0 in
    omega (arith, r.fit-w, r.same)

pub overflow_sub-result : goal.overflow_sub-result
overflow_sub-result c = c.loop-head.invariant.0.inv.up

pub returns : goal.returns
returns c = let a = c in
    let p = a.requires in
    let root = c.put_root.ensures in
    let l = c.loop-head in
    let r = l.invariant.0 in
    let en = run_end r c.loop-head-test.false in
    let written = run-record r c.loop-head-test.false in
    let e : l.k - a.args.start.first - 1 ≡ l.tail = omega (arith, en.4) in
    let found =
    found_all _ _ p.dimensions_nonzero.0 p.dimensions_nonzero.1 _ p.dimensions_nonzero.2 _ p.dimensions_nonzero.3 p.dimensions_nonzero.4 a.args.room.now.wholes.now _ a.args.room.now.floats.now _ p.rows_in_bounds.0 p.rows_in_bounds.1
    _ root.wholes root.floats _ _ l.tail r.begun r.found-w r.found-floats in
    let back = c.take_packed in record {
      number = omega (arith, en.0);
      same = search rules;
      rows = (rw r.same at back.ensures) ∙ en.1;
      domains = en.2;
      boxes = en.3;
      cuts = written.0;
      planes = written.1;
      floats = rw e found.1;
      wholes = rw e found.0;
    }
