-- `closing::closed` meets its contract. Assumes nothing.
use native.Mathlib.Omega.{arith}
use Rattle.std.proofs.lemmas.Result.{err_from_is_err_and}
use Rattle.lists.proofs.Lent.{fill_to}
use Rattle.table_checks.specs.Tables.{wells_in}
use Rattle.closing.proofs.Closes.{close-refused, close-room, close-done}
use Rattle.closing.proofs.closed.Goals as goal

pub returns-in_err-close_fault-clause-outcome : goal.returns-in_err-close_fault-clause-outcome
returns-in_err-close_fault-clause-outcome c = let a = c.args in
    let v = c.table.ensures in
    let p = err_from_is_err_and c.from_residual.result c.from_residual.ensures.1 in
    rw (p.1, p.2) (close-refused a.wells.now.dimensions (wells_in a.head a.wells.now) a.rename.now _ (rw (v.head, v.flags, v.coordinates, v.dimensions) at c.in_err-close_fault.ensures))

pub move_down-requires : goal.move_down-requires
move_down-requires c = let a = c.args in
    let v = c.table.ensures in
    let passed = rw (v.head, v.flags, v.coordinates, v.dimensions) at c.in_ok-close_fault.ensures in
    let room = close-room a.wells.now.dimensions (wells_in a.head a.wells.now) a.rename.now passed in
    (room.in-flags, room.in-coordinates, room.in-rename)

pub overflow_sub-gone : goal.overflow_sub-gone
overflow_sub-gone c = let a = c.args in
    let v = c.table.ensures in
    let passed = rw (v.head, v.flags, v.coordinates, v.dimensions) at c.in_ok-close_fault.ensures in
    let room = close-room a.wells.now.dimensions (wells_in a.head a.wells.now) a.rename.now passed in
    room.live-few

pub slice_bounds-fill-start : goal.slice_bounds-fill-start
slice_bounds-fill-start c = let a = c.args in
    let v = c.table.ensures in
    let passed = rw (v.head, v.flags, v.coordinates, v.dimensions) at c.in_ok-close_fault.ensures in
    (close-room a.wells.now.dimensions (wells_in a.head a.wells.now) a.rename.now passed).live-few

pub slice_bounds-fill-count : goal.slice_bounds-fill-count
slice_bounds-fill-count c = let a = c.args in
    let v = c.table.ensures in
    let passed = rw (v.head, v.flags, v.coordinates, v.dimensions) at c.in_ok-close_fault.ensures in
    (close-room a.wells.now.dimensions (wells_in a.head a.wells.now) a.rename.now passed).live-few

pub slice_bounds-fill-end : goal.slice_bounds-fill-end
slice_bounds-fill-end c = let a = c.args in
    let v = c.table.ensures in
    let passed = rw (v.head, v.flags, v.coordinates, v.dimensions) at c.in_ok-close_fault.ensures in
    let room = close-room a.wells.now.dimensions (wells_in a.head a.wells.now) a.rename.now passed in
    let same = c.move_down.ensures.same in
    omega (arith, room.in-flags, room.live-few, same.flags_len)

pub overflow_mul-live : goal.overflow_mul-live
overflow_mul-live c = let a = c.args in
    let v = c.table.ensures in
    let passed = rw (v.head, v.flags, v.coordinates, v.dimensions) at c.in_ok-close_fault.ensures in
    let room = close-room a.wells.now.dimensions (wells_in a.head a.wells.now) a.rename.now passed in
    omega (arith, room.parted, room.in-coordinates)

pub overflow_mul-gone : goal.overflow_mul-gone
overflow_mul-gone c = let a = c.args in
    let v = c.table.ensures in
    let passed = rw (v.head, v.flags, v.coordinates, v.dimensions) at c.in_ok-close_fault.ensures in
    let room = close-room a.wells.now.dimensions (wells_in a.head a.wells.now) a.rename.now passed in
    omega (arith, room.parted, room.in-coordinates)

pub put_zeros-requires : goal.put_zeros-requires
put_zeros-requires c = let a = c.args in
    let v = c.table.ensures in
    let passed = rw (v.head, v.flags, v.coordinates, v.dimensions) at c.in_ok-close_fault.ensures in
    let room = close-room a.wells.now.dimensions (wells_in a.head a.wells.now) a.rename.now passed in
    let same = c.move_down.ensures.same in
    omega (arith, room.parted, room.in-coordinates, same.coordinates_len)

pub returns-clause-outcome : goal.returns-clause-outcome
returns-clause-outcome c = let a = c.args in
    let v = c.table.ensures in
    let passed = rw (v.head, v.flags, v.coordinates, v.dimensions) at c.in_ok-close_fault.ensures in
    let moved = c.move_down.ensures in
    let room = close-room a.wells.now.dimensions (wells_in a.head a.wells.now) a.rename.now passed in
    let flags = fill_to c.move_down.new.wells.flags.now a.head.live a.head.slots 0 room.live-few (omega (arith, room.in-flags, moved.same.flags_len)) (c.fill.ensures.after (λ y e. e)) in
    close-done a.wells.now.dimensions (wells_in a.head a.wells.now) a.rename.now passed _ _ _ _ _ moved.flags moved.coordinates moved.rename flags c.put_zeros.ensures
