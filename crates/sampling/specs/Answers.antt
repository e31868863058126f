-- What an answer of the sampling's code stands for: document 01's number, place and value. Definitions only.
use Rattle.std.specs.Prelude.{ℕ, Result}
use Rattle.definition.specs.Number.{plus_zero}
use Rattle.definition.specs.Packed.{SampleSizes}
use Rattle.definition.specs.Outcome as outcome
use Rattle.definition.specs.Outcome.{Answer}
use Rattle.refusal.specs.declared.Refusal.{Refusal}
use Rattle.refusal.specs.Refusals.{answer_of}
use Rattle.sampling.specs.declared.Sampled.{Sampled}

-- the rows written and their cover
abbrev pub as_sampled : Sampled → outcome.Sampled
as_sampled s = record { rows = s.rows; cover = s.cover }

-- what a call answers: a refused one has the rows 0 and the cover +0
abbrev pub sample_report_lem : Result Sampled Refusal → Answer outcome.Sampled
sample_report_lem answer = answer_of as_sampled (record { rows = 0; cover = plus_zero }) answer

-- the lengths of the lent lists
abbrev pub sample_lent : ℕ → ℕ → ℕ → SampleSizes
sample_lent output floats wholes = record { output = output; floats = floats; wholes = wholes }
