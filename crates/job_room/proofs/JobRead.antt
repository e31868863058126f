-- What the reader's answer says: the job that stands in the stream, or its refusal. Assumes nothing.
use mathlib.Core.Path.{◌≡◌, sym, ap, ◌∙◌}
use Prim.Native.Nat.{ℕ}
use mathlib.Core.List.{List}
use Rattle.formats.specs.Stream.{broken, job_in}
use Rattle.std.specs.Prelude.{Result, Ok, Err}
use Rattle.refusal.specs.declared.Refusal.{Refusal}
use Rattle.refusal.specs.Refusals.{as_refusal}
use Rattle.stream_reader.specs.declared.job.Job.{Job}
use Rattle.stream_reader.specs.Reading.{job_is, job_of}

module _ (r : Result Job Refusal) (bs : List ℕ) (h : job_of r ≡ job_in bs) where
  pub broken-read : (x : Refusal) → r ≡ Err x → broken (as_refusal x) ≡ job_in bs
  broken-read x e = ap job_of (sym e) ∙ h

  pub whole-read : (j : Job) → r ≡ Ok j → job_is j ≡ job_in bs
  whole-read j e = ap job_of (sym e) ∙ h
