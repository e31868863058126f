-- `ddm_c::ddm_row_test` meets its contract. Assumes nothing.
use Rattle.std.specs.Prelude.{Result, Ok, Err}
use mathlib.Core.Path.{◌≡◌, refl, ap, ◌∙◌}
use Rattle.definition.specs.Outcome.{number_of}
use Rattle.refusal.specs.declared.Refusal.{Refusal}
use Rattle.refusal.specs.declared.Report.{Report}
use Rattle.refusal.specs.Refusals.{verdict_of}
use Rattle.refusal.specs.Reports.{Reports}
use Rattle.ddm_c.proofs.ddm_row_test.Goals as goal

-- the number that is told of an answer is that of the verdict that the answer stands for
number-told : {A : Type 0} (IsZero : A → Type 0) (answer : Result A Refusal) (r : Report A) → Reports IsZero answer r → r.number ≡ number_of (verdict_of answer)
unfolding number_of
number-told IsZero (Ok x) r e = rw e refl
number-told IsZero (Err d) r e = e.0

pub returns : goal.returns
returns c = number-told _ _ _ c.of.ensures ∙ ap number_of c.stretch_test.ensures
