-- `store_bytes::put_points` meets its contract. Assumes nothing.
use Rattle.bytes_out.proofs.Writing.{all_left, left_as, takes_part, part_done, nothing_left}
use Rattle.store_bytes.proofs.Turns.{first-turn, turn, no-turn, point-inside}
use Rattle.lists.specs.Lists.{joined, from}
use Rattle.stored.specs.File.{point_bytes}
use lib.ListN.{length}
use Prim.Native.Nat.{◌+◌, ◌-◌, ◌/◌}
use native.Mathlib.Nat.{div-mul-le_self}
use mathlib.Core.Path.{refl, ap}
use mathlib.Core.List.{[], map}
use borrow.Author.Rules.{rules}
use Rattle.store_bytes.proofs.put_points.Goals as goal

pub loop-i-init : goal.loop-i-init
loop-i-init c = let start = c in
    let a = start.args in
    let f = point_bytes a.points.dimensions a.points.coordinates.now in
    let n = length a.points.coordinates.now / a.points.dimensions in
    (all_left (map f (from 0 (n - 0))) (ap joined (first-turn f 0 n)) start.requires.room_for)

pub put_point-requires : goal.put_point-requires
put_point-requires c = let start = c in
    let a = start.args in
    let f = point_bytes a.points.dimensions a.points.coordinates.now in
    let n = length a.points.coordinates.now / a.points.dimensions in
    let v = c.loop-i in
    let go = rw c.count-i-end.ensures at c.loop-i-test.true in
    let w = left_as _ (ap joined (turn f v.i (v.i + 1) v.i n refl go)) v.invariant in
    record {
      dimensions_in_bounds = point-inside a.points.dimensions n v.i (length a.points.coordinates.now) go (div-mul-le_self (length a.points.coordinates.now) a.points.dimensions);
      room_for = takes_part w;
    }

pub loop-i-preserved : goal.loop-i-preserved
loop-i-preserved c = let start = c in
    let a = start.args in
    let f = point_bytes a.points.dimensions a.points.coordinates.now in
    let n = length a.points.coordinates.now / a.points.dimensions in
    let v = c.loop-i in
    let w = left_as _ (ap joined (turn f v.i (v.i + 1) v.i n refl (rw c.count-i-end.ensures at c.loop-i-test.true))) v.invariant in
    (part_done w c.put_point.ensures)

pub returns : goal.returns
returns c = let start = c in
    let a = start.args in
    let f = point_bytes a.points.dimensions a.points.coordinates.now in
    let n = length a.points.coordinates.now / a.points.dimensions in
    let v = c.loop-i in
    nothing_left (left_as [] (ap joined (no-turn f v.i v.i n (search rules))) v.invariant)
