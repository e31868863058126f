-- What an answer of the root's code stands for: document 01's number, place and value. Definitions only.
use Rattle.std.specs.Prelude.{Float, Result}
use Rattle.definition.specs.Number.{plus_zero}
use Rattle.definition.specs.Outcome.{Answer}
use Rattle.refusal.specs.declared.Refusal.{Refusal}
use Rattle.refusal.specs.Refusals.{answer_of}

-- a refusal names no place, and its value is +0
abbrev pub root_report : Result Float Refusal → Answer Float
root_report answer = answer_of (λ v. v) plus_zero answer
