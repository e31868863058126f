-- `halving::halves` meets its contract. Assumes nothing.
use mathlib.Core.Path.{◌≡◌, ap, ◌∙◌}
use Prim.Native.Nat.{◌-◌}
use native.Mathlib.Omega.{arith}
use borrow.Author.Rules.{rules}
use lib.ListN.{length, drop, length-drop, length-take}
use lib.Seq.{length-take-le}
use Rattle.lists.specs.Lists.{put, part}
use Rattle.lists.proofs.Put.{mid_back}
use Rattle.rows.proofs.Good.{good-finite}
use Rattle.halving.proofs.Cutting.{middle-inside, low-most, rows_cut}
use Rattle.halving.proofs.halves.Goals as goal

pub middle_of-m-requires : goal.middle_of-m-requires
middle_of-m-requires c = let p = c.requires in (p.0, p.1, p.2, p.3)

pub part_rows-lo-requires : goal.part_rows-lo-requires
part_rows-lo-requires c = let p = c.requires in
    let m = c.middle_of-m in
    (m.auto.room ∙ p.3, good-finite _ p.2 _ p.0, middle-inside m.ensures p.0 p.2)

pub overflow_sub-others : goal.overflow_sub-others
overflow_sub-others c = let f = c.part_rows-lo in
    let h = low-most c.middle_of-m.ensures f.ensures.number in
    omega (arith, h, f.auto.rows)

pub offset_bounds-rows-lo : goal.offset_bounds-rows-lo
offset_bounds-rows-lo c = let f = c.part_rows-lo in
    let h = low-most c.middle_of-m.ensures f.ensures.number in
    search rules

pub slice_bounds-copy_values-count : goal.slice_bounds-copy_values-count
slice_bounds-copy_values-count c = let f = c.part_rows-lo in
    let h = low-most c.middle_of-m.ensures f.ensures.number in
    omega (arith, h, f.auto.rows)

pub slice_bounds-copy_values-start : goal.slice_bounds-copy_values-start
slice_bounds-copy_values-start c = let f = c.part_rows-lo in
    let h = low-most c.middle_of-m.ensures f.ensures.number in
    omega (arith, h, f.auto.rows)

pub slice_bounds-copy_values-end : goal.slice_bounds-copy_values-end
slice_bounds-copy_values-end c = let p = c.requires in
    let f = c.part_rows-lo in
    omega (arith, p.3, c.middle_of-m.auto.room, f.auto.rows, f.auto.room)

pub copy_values-requires : goal.copy_values-requires
copy_values-requires c = let p = c.requires in
    let f = c.part_rows-lo in
    let h = low-most c.middle_of-m.ensures f.ensures.number in
    simp (length-take, length-drop) (omega (arith, h, p.3, c.middle_of-m.auto.room, f.auto.rows, f.auto.room))

pub returns : goal.returns
unfolding part
returns c = let p = c.requires in
    let m = c.middle_of-m in
    let f = c.part_rows-lo in
    let e = f.ensures in
    let k = m.auto.room in
    let h = low-most m.ensures e.number in
    let n = length f.new.rows - f.result in
    let back = c.copy_values in
    let long : length back.new.list ≡ n = back.auto.list ∙ length-take-le n (drop f.result f.new.rows) (simp length-drop (omega arith)) in
    let copied = mid_back f.new.rows f.result n back.new.list long ∙ ap (put f.new.rows f.result) back.ensures.after in
    record {
      rows = rows_cut m.ensures p.0 p.2 _ (k ∙ p.3) e.number e.rows e.room copied;
      room = f.auto.room ∙ k;
      row = m.ensures;
    }
