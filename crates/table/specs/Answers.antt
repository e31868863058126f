-- The answers of the calls on a table as those of the definition. Definitions only.
use Rattle.std.specs.Prelude.{ℕ, Result}
use Rattle.definition.specs.Outcome.{Answer}
use Rattle.refusal.specs.declared.Refusal.{Refusal}
use Rattle.refusal.specs.Refusals.{answer_of}

-- number and place of a refusal, and the slot
abbrev pub slot_answer : Result ℕ Refusal → Answer ℕ
slot_answer = answer_of (λ slot. slot) 0

-- number and place of a refusal alone
abbrev pub plain_answer : Result (Unit {0}) Refusal → Answer ℕ
plain_answer = answer_of (λ u. 0) 0
