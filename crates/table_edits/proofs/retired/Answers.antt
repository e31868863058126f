-- `table_edits::retired` meets its contract. Assumes nothing.
use Rattle.std.proofs.lemmas.Result.{err_from_is_err_and}
use Rattle.table_checks.specs.Tables.{table_of}
use Rattle.table_edits.proofs.Retires.{retire-kept, retire-high, slot-in, retire-free, live-some, retire-done}
use Rattle.table_edits.proofs.retired.Goals as goal
use Rattle.table_edits.proofs.retired.Goals.{then-slots-slot-via-then-slots-slot, then-slots-slot-via-else-slots-slot+then-flags-slot-eq0}

pub returns-in_err-table_fault : goal.returns-in_err-table_fault
returns-in_err-table_fault c = let a = c.args in
    let p = err_from_is_err_and c.from_residual.result c.from_residual.ensures.1 in
    rw (p.1, p.2) (retire-kept a.points.dimensions (table_of a.head.slots a.head.live a.flags.now a.points.coordinates.now) a.slot _ c.in_err-table_fault.ensures.verdict)

pub bounds-flags-slot : goal.bounds-flags-slot
bounds-flags-slot c = let a = c.args in
    slot-in a.points.dimensions (table_of a.head.slots a.head.live a.flags.now a.points.coordinates.now) a.slot c.in_ok-table_fault.ensures.verdict c.if-slots-slot.false

pub returns-then-slots-slot : goal.returns-then-slots-slot
returns-then-slots-slot c = let a = c.args in
    let t = table_of a.head.slots a.head.live a.flags.now a.points.coordinates.now in
    elim c.then-slots-slot.branch [
      | then-slots-slot-via-then-slots-slot w ↦ retire-high a.points.dimensions t a.slot c.in_ok-table_fault.ensures.verdict w.if-slots-slot.true
      | then-slots-slot-via-else-slots-slot+then-flags-slot-eq0 w ↦ retire-free a.points.dimensions t a.slot c.in_ok-table_fault.ensures.verdict w.if-slots-slot.false w.if-flags-slot-eq0.true
    ]

pub overflow_sub-result : goal.overflow_sub-result
overflow_sub-result c = let a = c.args in
    live-some a.points.dimensions (table_of a.head.slots a.head.live a.flags.now a.points.coordinates.now) a.slot c.in_ok-table_fault.ensures.verdict c.if-slots-slot.false c.if-flags-slot-eq0.false

pub returns : goal.returns
returns c = let a = c.args in
    retire-done a.points.dimensions (table_of a.head.slots a.head.live a.flags.now a.points.coordinates.now) a.slot c.in_ok-table_fault.ensures.verdict c.if-slots-slot.false c.if-flags-slot-eq0.false
