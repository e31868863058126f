-- `ddm_c::ddm_quotas` meets its contract. Assumes nothing.
use borrow.Author.Rules.{rules}
use Rattle.quotas.specs.Answers.{as_shared, no_seats, quota_report_lem}
use Rattle.refusal.proofs.Told.{seen}
use Rattle.slots.proofs.Told.{quotas-short, quotas-long}
use Rattle.ddm_c.proofs.ddm_quotas.Goals as goal

pub returns-then-res-lt-PAIR : goal.returns-then-res-lt-PAIR
returns-then-res-lt-PAIR c = rw c.number.ensures (quotas-short _ _ _ _ _ c.if-res-lt-PAIR.true)

pub returns : goal.returns
returns c = let q = c.get_domain_coarse_quotas-answer in
    let t = c.of-told in
    quotas-long _ _ _ _ _ _ _ _ (quota_report_lem q.result) (record { number = t.result.number; place = t.result.place; value = as_shared t.result.value })
    c.if-res-lt-PAIR.false q.ensures (seen _ as_shared no_seats q.result t.result (λ x z. search rules) t.ensures) c.put_values.ensures
