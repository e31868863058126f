-- What is told of an answer is the definition's answer. Assumes nothing.
use Rattle.std.specs.Prelude.{Result, Ok, Err}
use mathlib.Core.Path.{◌≡◌, refl}
use Rattle.refusal.specs.declared.Refusal.{Refusal}
use Rattle.refusal.specs.declared.Report.{Report}
use Rattle.refusal.specs.Refusals.{answer_of}
use Rattle.refusal.specs.Reports.{Reports}

-- each value seen through `view`, where `zeros` is what a zero is seen as
pub seen : {A B : Type 0} (IsZero : A → Type 0) (view : A → B) (zeros : B) (answer : Result A Refusal) (r : Report A) → ((x : A) → IsZero x → view x ≡ zeros) → Reports IsZero answer r
    → record { number = r.number; place = r.place; value = view r.value } ≡ answer_of view zeros answer
seen IsZero view zeros (Ok x) r z e = rw e refl
seen IsZero view zeros (Err d) r z e = rw (e.0, e.1, z r.value e.2) refl
