-- From the reader's answer to what is kept of a stream. Assumes nothing.
-- Holds: broken-answer, broken-output, whole-answer, whole-output
use mathlib.Core.Path.{◌≡◌, sym, ap, ◌∙◌}
use Prim.Native.Nat.{ℕ, ◌≤◌}
use mathlib.Core.List.{List}
use lib.ListN.{length}
use Rattle.definition.specs.Outcome.{Answer}
use Rattle.formats.specs.Stream.{job_in}
use Rattle.stored.specs.Programs.{Kept, nothing, kept_job, kept}
use Rattle.reload_laws.specs.Sizes.{most_file_bytes}
use Rattle.std.specs.Prelude.{Result, Ok, Err}
use Rattle.refusal.specs.declared.Refusal.{Refusal}
use Rattle.refusal.specs.Refusals.{as_refusal}
use Rattle.stream_reader.specs.declared.job.Job.{Job}
use Rattle.stream_reader.specs.Reading.{job_is, job_of}
use Rattle.job_room.proofs.JobRead.{broken-read, whole-read}
use Rattle.keep.specs.Keeping.{keep_answer, keep_output, keep_report}
use Rattle.keep.proofs.Outcomes.{answer-refused, output-refused}

module _ (r : Result Job Refusal) (stream : List ℕ) (h : job_of r ≡ job_in stream) (lent : List ℕ) where
  -- ---- a stream that is refused
  module _ (x : Refusal) (e : r ≡ Err x) where
    broken-kept : nothing (as_refusal x) ≡ kept stream
    unfolding kept_job kept
    broken-kept = ap kept_job (broken-read r stream h x e)

    module _ (long : most_file_bytes ≤ length lent) where
      pub broken-answer : keep_report (Err x) ≡ keep_answer (kept stream) lent
      broken-answer = sym (answer-refused lent long (as_refusal x)) ∙ ap (λ (k : Kept). keep_answer k lent) broken-kept

      pub broken-output : lent ≡ keep_output (kept stream) lent
      broken-output = sym (output-refused lent long (as_refusal x)) ∙ ap (λ (k : Kept). keep_output k lent) broken-kept

  -- ---- a job that is read
  module _ (j : Job) (e : r ≡ Ok j) where
    abbrev kept_of_job : Kept
    kept_of_job = kept_job (job_is j)

    whole-kept : kept_of_job ≡ kept stream
    unfolding kept
    whole-kept = ap kept_job (whole-read r stream h j e)

    pub whole-answer : (a : Answer ℕ) → a ≡ keep_answer kept_of_job lent → a ≡ keep_answer (kept stream) lent
    whole-answer a f = f ∙ ap (λ (k : Kept). keep_answer k lent) whole-kept

    pub whole-output : (after : List ℕ) → after ≡ keep_output kept_of_job lent → after ≡ keep_output (kept stream) lent
    whole-output after f = f ∙ ap (λ (k : Kept). keep_output k lent) whole-kept
