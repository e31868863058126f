-- What an answer of a level size asked alone stands for: document 01's number and value. Definitions only.
use Rattle.std.specs.Prelude.{ℕ, Result}
use Rattle.definition.specs.Outcome.{Answer}
use Rattle.refusal.specs.declared.Refusal.{Refusal}
use Rattle.refusal.specs.Refusals.{answer_of}

-- a refusal names no place, and its value is 0
abbrev pub size_report : Result ℕ Refusal → Answer ℕ
size_report answer = answer_of (λ m. m) 0 answer
