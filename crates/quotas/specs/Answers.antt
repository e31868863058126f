-- What an answer of the quotas stands for: document 01's number and what it reports. Definitions only.
use Rattle.std.specs.Prelude.{Result}
use Rattle.definition.specs.Outcome.{Answer, Shared}
use Rattle.refusal.specs.declared.Refusal.{Refusal}
use Rattle.refusal.specs.Refusals.{answer_of}
use Rattle.quotas.specs.declared.Seated.{Seated}

-- what an accepted call reports, and what a refused one does
abbrev pub as_shared : Seated → Shared
as_shared s = record { leaves = s.leaves; seats = s.seats }

abbrev pub no_seats : Shared
no_seats = record { leaves = 0; seats = 0 }

-- what a call of `get_domain_coarse_quotas` answers
abbrev pub quota_report_lem : Result Seated Refusal → Answer Shared
quota_report_lem answer = answer_of as_shared no_seats answer
