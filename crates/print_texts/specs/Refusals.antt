-- A refusal by its number and place. Definitions only.
use Rattle.std.specs.Prelude.{ℕ}
use Rattle.definition.specs.Refusals.{Refusal}

abbrev pub refusal_of : ℕ → ℕ → Refusal
refusal_of number place = record { number = number; place = place }
