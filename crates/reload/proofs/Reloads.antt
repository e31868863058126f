-- From the file's length and the reader's answer to what is printed. Assumes nothing.
-- Holds: too_long, not-too-long, loaded-room, broken-reloaded, whole-reloaded
use mathlib.Core.Path.{◌≡◌, ap}
use Prim.Native.Nat.{ℕ, ◌+◌, ◌≤◌, ◌<◌}
use mathlib.Core.List.{List}
use lib.ListN.{length}
use lib.Ieee.{Float}
use borrow.Author.Tests.{le-ltb, lt-ltb}
use Rattle.definition.specs.Tree as tree
use Rattle.formats.specs.Stream as format
use Rattle.formats.specs.Stream.{job, job_in}
use Rattle.formats.specs.Printout.{refusal_text}
use Rattle.stored.specs.Programs.{most_file, reloaded_for, reloaded}
use Rattle.stream_laws.specs.Sizes.{JobLimits, most_bytes}
use Rattle.reload_laws.proofs.ReloadedLong.{reloaded-for-long}
use Rattle.bytes_out.specs.declared.writer.Writer.{Writer}
use Rattle.bytes_out.specs.Writing.{Takes}
use Rattle.std.specs.Prelude.{Result, Ok, Err}
use Rattle.refusal.specs.declared.Refusal.{Refusal}
use Rattle.refusal.specs.declared.Refusal.TheVariants.{LargeJob}
use Rattle.refusal.specs.Refusals.{as_refusal}
use Rattle.stream_reader.specs.declared.job.Job.{Job}
use Rattle.stream_reader.specs.Reading.{job_is, job_of}
use Rattle.job_room.proofs.JobRead.{broken-read, whole-read}
use Rattle.job_room.proofs.Printing.{text-room}
use Rattle.reload.specs.Loading.{loaded_text}

-- ---- by the file's length
module _ (s : tree.Settings) (cs : List Float) (bs : List ℕ) where
  pub too_long : most_file < length bs → refusal_text (as_refusal LargeJob) ≡ reloaded_for (job s cs) bs
  unfolding reloaded_for
  too_long h = rw (lt-ltb most_file (length bs) h)

  pub not-too-long : length bs ≤ most_file → loaded_text s cs bs ≡ reloaded_for (job s cs) bs
  unfolding reloaded_for loaded_text
  not-too-long h = rw (le-ltb most_file (length bs) h)

  pub loaded-room : {w : Writer} → JobLimits s cs → w.at + most_bytes ≤ length w.bytes.now → length bs ≤ most_file → Takes w (loaded_text s cs bs)
  loaded-room limits long h = rw (not-too-long h) (text-room (reloaded_for (job s cs) bs) (reloaded-for-long (job s cs) bs limits) long)

-- ---- by the reader's answer
module _ (r : Result Job Refusal) (stream bs : List ℕ) (h : job_of r ≡ job_in stream) where
  pub broken-reloaded : (x : Refusal) → r ≡ Err x → refusal_text (as_refusal x) ≡ reloaded stream bs
  unfolding reloaded_for reloaded
  broken-reloaded x e = ap (λ (j : format.Job). reloaded_for j bs) (broken-read r stream h x e)

  pub whole-reloaded : (j : Job) → r ≡ Ok j → reloaded_for (job_is j) bs ≡ reloaded stream bs
  unfolding reloaded
  whole-reloaded j e = ap (λ (k : format.Job). reloaded_for k bs) (whole-read r stream h j e)
