-- `ddm_c::ddm_retire` meets its contract. Assumes nothing.
use mathlib.Core.Path.{refl, ◌∙◌, subst}
use Rattle.definition.specs.Table.{Head}
use Rattle.table_checks.specs.Tables.{table_of}
use Rattle.table_edits.specs.Edits.{Retired}
use Rattle.table.specs.Answers.{plain_answer}
use Rattle.refusal.proofs.Told.{seen}
use Rattle.slots.proofs.Told.{retire-told}
use Rattle.ddm_c.proofs.ddm_retire.Goals as goal

pub returns : goal.returns
returns c = let P = c.args in
    let q = c.retire-answer in
    let w = subst (λ (h : Head). Retired P.dimensions (record { head = h; flags = P.flags.now; coordinates = P.coordinates.now }) (table_of q.new.head.slots q.new.head.live q.new.flags P.coordinates.now) P.slot (plain_answer q.result)) c.head_from-counters.ensures q.ensures in
    let t = c.of in
    rw c.put_head.ensures
    (retire-told P.dimensions P.head.now P.flags.now _ P.coordinates.now P.slot (record { number = t.result.number; place = t.result.place; value = 0 })
    (table_of q.new.head.slots q.new.head.live q.new.flags P.coordinates.now) (seen _ (λ _. 0) 0 q.result t.result (λ x z. refl) t.ensures ∙ w.answers) w.table refl)
