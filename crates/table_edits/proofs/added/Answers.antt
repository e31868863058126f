-- `table_edits::added` meets its contract. Assumes nothing.
use mathlib.Core.Path.{◌∙◌}
use native.Mathlib.Omega.{arith}
use Rattle.std.proofs.lemmas.Result.{err_from_is_err_and}
use Rattle.table_checks.specs.Tables.{wells_in}
use Rattle.table_edits.proofs.Adds.{kept-table, kept-point, kept-full, add-room, add-done}
use Rattle.table_edits.proofs.added.Goals as goal

pub returns-in_err-slot-clause-outcome : goal.returns-in_err-slot-clause-outcome
returns-in_err-slot-clause-outcome c = let a = c.args in
    let v = c.table-table.ensures in
    let p = err_from_is_err_and c.from_residual.result c.from_residual.ensures.1 in
    rw (p.1, p.2) (kept-table a.wells.now.dimensions (wells_in a.head a.wells.now) a.point.now _ (rw (v.head, v.flags, v.coordinates, v.dimensions) at c.in_err-slot.ensures.verdict))

pub returns-in_err-point_fault-clause-outcome : goal.returns-in_err-point_fault-clause-outcome
returns-in_err-point_fault-clause-outcome c = let a = c.args in
    let v = c.table-table.ensures in
    let p = err_from_is_err_and c.from_residual-in_err-point_fault.result c.from_residual-in_err-point_fault.ensures.1 in
    rw (p.1, p.2) (kept-point a.wells.now.dimensions (wells_in a.head a.wells.now) a.point.now (rw (v.head, v.flags, v.coordinates, v.dimensions) at c.in_ok-slot.ensures.verdict) _ c.in_err-point_fault.ensures)

pub returns-then-slots-room-clause-outcome : goal.returns-then-slots-room-clause-outcome
returns-then-slots-room-clause-outcome c = let a = c.args in
    let v = c.table-table.ensures in
    let found = rw (v.head, v.flags, v.coordinates, v.dimensions) at c.in_ok-slot.ensures in
    kept-full a.wells.now.dimensions (wells_in a.head a.wells.now) a.point.now found.verdict c.in_ok-point_fault.ensures c.in_ok-slot.slot found.next c.if-slot-slots.true (c.if-slots-room.true ∙ rw v.flags at c.capacity-room.ensures)

pub bounds-wells-slot : goal.bounds-wells-slot
bounds-wells-slot c = let a = c.args in
    let v = c.table-table.ensures in
    let found = rw (v.head, v.flags, v.coordinates, v.dimensions) at c.in_ok-slot.ensures in
    let many = rw v.flags at c.capacity-room.ensures in
    let room = add-room a.wells.now.dimensions (wells_in a.head a.wells.now) a.point.now found.verdict c.in_ok-point_fault.ensures _ found.next _ many c.else-slot-slots.either in
    room.in-flags

pub overflow_mul-slot : goal.overflow_mul-slot
overflow_mul-slot c = let a = c.args in
    let v = c.table-table.ensures in
    let found = rw (v.head, v.flags, v.coordinates, v.dimensions) at c.in_ok-slot.ensures in
    let many = rw v.flags at c.capacity-room.ensures in
    let room = add-room a.wells.now.dimensions (wells_in a.head a.wells.now) a.point.now found.verdict c.in_ok-point_fault.ensures _ found.next _ many c.else-slot-slots.either in
    omega (arith, room.few)

pub put_values-requires : goal.put_values-requires
put_values-requires c = let a = c.args in
    let v = c.table-table.ensures in
    let found = rw (v.head, v.flags, v.coordinates, v.dimensions) at c.in_ok-slot.ensures in
    let many = rw v.flags at c.capacity-room.ensures in
    let room = add-room a.wells.now.dimensions (wells_in a.head a.wells.now) a.point.now found.verdict c.in_ok-point_fault.ensures _ found.next _ many c.else-slot-slots.either in
    omega (arith, room.long, room.in-coordinates)

pub overflow_add-slot : goal.overflow_add-slot
overflow_add-slot c = let a = c.args in
    let v = c.table-table.ensures in
    let found = rw (v.head, v.flags, v.coordinates, v.dimensions) at c.in_ok-slot.ensures in
    let many = rw v.flags at c.capacity-room.ensures in
    let room = add-room a.wells.now.dimensions (wells_in a.head a.wells.now) a.point.now found.verdict c.in_ok-point_fault.ensures _ found.next _ many c.else-slot-slots.either in
    omega (arith, room.below)

pub overflow_add-result : goal.overflow_add-result
overflow_add-result c = let a = c.args in
    let v = c.table-table.ensures in
    let found = rw (v.head, v.flags, v.coordinates, v.dimensions) at c.in_ok-slot.ensures in
    let many = rw v.flags at c.capacity-room.ensures in
    let room = add-room a.wells.now.dimensions (wells_in a.head a.wells.now) a.point.now found.verdict c.in_ok-point_fault.ensures _ found.next _ many c.else-slot-slots.either in
    omega (arith, room.live-few)

pub returns-clause-outcome : goal.returns-clause-outcome
returns-clause-outcome c = let a = c.args in
    let v = c.table-table.ensures in
    let found = rw (v.head, v.flags, v.coordinates, v.dimensions) at c.in_ok-slot.ensures in
    let many = rw v.flags at c.capacity-room.ensures in
    let room = add-room a.wells.now.dimensions (wells_in a.head a.wells.now) a.point.now found.verdict c.in_ok-point_fault.ensures _ found.next _ many c.else-slot-slots.either in
    rw (c.put_values.ensures, c.max.ensures)
    (add-done a.wells.now.dimensions (wells_in a.head a.wells.now) a.point.now found.verdict c.in_ok-point_fault.ensures _ found.next _ many c.else-slot-slots.either)
