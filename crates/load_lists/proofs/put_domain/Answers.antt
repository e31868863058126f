-- `load_lists::put_domain` meets its contract. Assumes nothing.
use mathlib.Core.Path.{refl}
use native.Mathlib.Omega.{arith}
use Rattle.bytes_in.proofs.Fields.{lent_many, numbers-back}
use Rattle.load_lists.proofs.Domain.{stands, found, own-fits, borrowed-fits, row-back, domain-written}
use Rattle.load_lists.proofs.put_domain.Goals as goal

pub unwrap-found-requires : goal.unwrap-found-requires
unwrap-found-requires c = let a = c.args in
    stands a.dimensions a.coarse a.bytes.now a.c _ _ c.record_floats-floats.ensures c.domain.ensures c.requires.dimensions_bound.1

pub overflow_add-own_end : goal.overflow_add-own_end
overflow_add-own_end c = let a = c.args in
    let h = found a.dimensions a.coarse a.bytes.now a.c _ _ c.record_floats-floats.ensures (rw c.unwrap-found.ensures at c.domain.ensures) in
    omega (arith, own-fits h c.requires.room, c.well_formed)

pub overflow_add-borrowed_end : goal.overflow_add-borrowed_end
overflow_add-borrowed_end c = let a = c.args in
    let h = found a.dimensions a.coarse a.bytes.now a.c _ _ c.record_floats-floats.ensures (rw c.unwrap-found.ensures at c.domain.ensures) in
    omega (arith, borrowed-fits h c.requires.room, c.well_formed)

pub slice_bounds-read_fields-end : goal.slice_bounds-read_fields-end
slice_bounds-read_fields-end c = let a = c.args in
    let h = found a.dimensions a.coarse a.bytes.now a.c _ _ c.record_floats-floats.ensures (rw c.unwrap-found.ensures at c.domain.ensures) in
    own-fits h c.requires.room

pub slice_bounds-read_fields-end-2 : goal.slice_bounds-read_fields-end-2
slice_bounds-read_fields-end-2 c = let a = c.args in
    let h = found a.dimensions a.coarse a.bytes.now a.c _ _ c.record_floats-floats.ensures (rw c.unwrap-found.ensures at c.domain.ensures) in
    borrowed-fits h c.requires.room

pub read_fields-requires : goal.read_fields-requires
read_fields-requires c = let a = c.args in
    let h = found a.dimensions a.coarse a.bytes.now a.c _ _ c.record_floats-floats.ensures (rw c.unwrap-found.ensures at c.domain.ensures) in
    omega (arith, h.own-within, lent_many a.lists.now.internals.now a.c.own c.unwrap-found.result.own (own-fits h c.requires.room))

pub read_fields-requires-2 : goal.read_fields-requires-2
read_fields-requires-2 c = let a = c.args in
    let h = found a.dimensions a.coarse a.bytes.now a.c _ _ c.record_floats-floats.ensures (rw c.unwrap-found.ensures at c.domain.ensures) in
    omega (arith, h.borrowed-within, lent_many a.lists.now.borrowed.now a.c.borrowed c.unwrap-found.result.borrowed (borrowed-fits h c.requires.room))

pub returns-clause-next : goal.returns-clause-next
returns-clause-next c = let a = c.args in
    let h = found a.dimensions a.coarse a.bytes.now a.c _ _ c.record_floats-floats.ensures (rw c.unwrap-found.ensures at c.domain.ensures) in
    (h.next, refl)

pub returns-clause-written : goal.returns-clause-written
returns-clause-written c = let a = c.args in
    let h = found a.dimensions a.coarse a.bytes.now a.c _ _ c.record_floats-floats.ensures (rw c.unwrap-found.ensures at c.domain.ensures) in
    domain-written h a.lists.now.internals.now a.lists.now.domains.now a.lists.now.boxes.now a.lists.now.borrowed.now _ _ _ _ _ _ c.number_at-depth.ensures.0 c.floats_before-box_at.ensures
    (numbers-back _ _ _ _ a.lists.now.internals.now (own-fits h c.requires.room) c.read_fields.ensures)
    (numbers-back _ _ _ _ a.lists.now.borrowed.now (borrowed-fits h c.requires.room) c.read_fields-2.ensures) c.put_row.ensures
    (row-back _ _ _ _ a.lists.now.boxes.now c.floats_before-box_at.result c.row_floats.result c.row_floats.ensures c.put_row_floats.ensures)
