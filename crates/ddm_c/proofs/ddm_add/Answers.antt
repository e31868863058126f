-- `ddm_c::ddm_add` meets its contract. Assumes nothing.
use mathlib.Core.Path.{◌≡◌, subst}
use borrow.Author.Rules.{rules}
use Rattle.definition.specs.Table.{Head}
use Rattle.table_checks.specs.Tables.{wells_in}
use Rattle.table_edits.specs.Edits.{Added}
use Rattle.refusal.specs.Refusals.{answer_of}
use Rattle.slots.proofs.Told.{add-short, add-long}
use Rattle.ddm_c.proofs.ddm_add.Goals as goal

pub returns-then-res-lt-PAIR : goal.returns-then-res-lt-PAIR
returns-then-res-lt-PAIR c = rw c.number.ensures (add-short _ _ _ _ _ _ c.if-res-lt-PAIR.true)

pub returns : goal.returns
returns c = let P = c.args in
    let q = c.add-answer in
    let w = subst (λ (h : Head). Added P.dimensions (record { head = h; flags = P.flags.now; coordinates = P.coordinates.now }) (wells_in q.new.head q.new.wells) P.point.now (answer_of (λ x. x) 0 q.result)) c.head_from-counters.ensures q.ensures.outcome in
    let flags : _ ≡ q.new.wells.flags.now = search rules in
    let coordinates : _ ≡ q.new.wells.coordinates.now = search rules in
    rw (c.put_placed.ensures.number, c.put_head.ensures)
    (add-long P.dimensions P.head.now P.flags.now P.coordinates.now P.point.now P.res.now _ _ _ (answer_of (λ x. x) 0 q.result)
    (wells_in q.new.head q.new.wells) c.if-res-lt-PAIR.false c.put_placed.ensures.slot w.answers w.table flags coordinates)
