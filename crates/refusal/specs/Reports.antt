-- What is told of an answer. Definitions only.
use Rattle.std.specs.Prelude.{◌≡◌, ℕ, Result, Ok, Err}
use Rattle.refusal.specs.declared.Refusal.{Refusal}
use Rattle.refusal.specs.declared.Report.{Report}
use Rattle.refusal.specs.Refusals.{refusal_number, refusal_place}

-- a number and a place, and a zero of its type as the value
abbrev pub NoValue : {A : Type 0} → (A → Type 0) → ℕ → ℕ → Report A → Type 0
NoValue IsZero number place r = (r.number ≡ number) × (r.place ≡ place) × IsZero r.value

-- number and place of the refusal, both 0 for none, and the value, which is a zero of its type where the call is refused
abbrev pub Reports : {A : Type 0} → (A → Type 0) → Result A Refusal → Report A → Type 0
Reports IsZero (Ok x) r = r ≡ record { number = 0; place = 0; value = x }
Reports IsZero (Err d) r = NoValue IsZero (refusal_number d) (refusal_place d) r
