-- The answer that stands for a verdict is the one that the definition gives. Assumes nothing.
use Rattle.std.specs.Prelude.{◌≡◌, Ok, Err}
use mathlib.Core.Path.{refl}
use Rattle.definition.specs.Refusals.{Verdict, accepted, refused}
use Rattle.definition.specs.Outcome.{number_of, place_of, value_of, answered}
use Rattle.refusal.specs.declared.Refusal.{Refusal}
use Rattle.refusal.specs.Refusals.{as_refusal, answer_of}

-- a refused call answers by the refusal
pub answer-refused : {A B : Type 0} (value : A → B) (x zeros : B) (v : Verdict) (r : Refusal) → v ≡ refused (as_refusal r) → answer_of value zeros (Err r) ≡ answered v x zeros
unfolding number_of place_of value_of
answer-refused value x zeros v r e = rw e refl

-- an accepted one reports its value
pub answer-accepted : {A B : Type 0} (value : A → B) (y : A) (x zeros : B) (v : Verdict) → v ≡ accepted → value y ≡ x → answer_of value zeros (Ok y) ≡ answered v x zeros
unfolding number_of place_of value_of
answer-accepted value y x zeros v e f = rw e (rw f refl)
