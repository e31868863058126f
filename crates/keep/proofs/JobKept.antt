-- From the outcomes of the build and of the writer to what is kept of a job. Assumes nothing.
-- Holds: refused-answer, refused-output, stored_answer, stored-output
use mathlib.Core.Path.{◌≡◌, sym, ap, ◌∙◌}
use Prim.Native.Nat.{ℕ, ◌≤◌, ◌<◌}
use native.Mathlib.Omega.{arith}
use mathlib.Core.List.{List}
use lib.ListN.{length}
use lib.Ieee.{Float}
use Rattle.definition.specs.Tree.{Settings, levels}
use Rattle.definition.specs.Packed.{Counts}
use Rattle.definition.specs.Refusals.{Verdict, accepted, refused}
use Rattle.definition.specs.Outcome.{Answer, number_of, place_of, written, TreeLists, lent_sizes, build_call, build_answer, build_lists}
use Rattle.definition_laws.proofs.Accepted.{build-zero}
use Rattle.formats.specs.Stream.{job}
use Rattle.stored.specs.File.{file_bytes}
use Rattle.stored.specs.Programs.{Kept, file, nothing, kept_by, kept_job}
use Rattle.stored_built.proofs.BuiltSound.{built-sound}
use Rattle.stored_built.proofs.Written.{write-of-build-answers, write-of-build-fills}
use Rattle.stream_laws.specs.Sizes.{JobLimits}
use Rattle.reload_laws.specs.Sizes.{most_file_bytes}
use Rattle.reload_laws.proofs.KeptFits.{sound-file-fits}
use Rattle.store.specs.Outcome.{Stored}
use Rattle.job_room.specs.Room.{lent_lists, lent_floats, lent_wholes, lent_records}
use Rattle.job_room.proofs.Lists.{build-as-stated, lent-largest}
use Rattle.keep.specs.Keeping.{keep_answer, keep_output}
use Rattle.keep.proofs.Outcomes.{answer-refused, output-refused, answer-file, output-file}

-- ---- a build in the lists of the largest job, by its answer
module _ (s : Settings) (cs : List Float) (limits : JobLimits s cs) (lent : List ℕ) (long : most_file_bytes ≤ length lent) where
  module _ (r : Answer Counts) (e : r ≡ build_answer s cs lent_lists lent_floats lent_wholes lent_records) where
    abbrev call : Verdict
    call = build_call s cs lent_lists lent_floats lent_wholes lent_records

    -- it is judged as one in lists of the stated sizes
    kept-is : kept_job (job s cs) ≡ kept_by call s cs
    unfolding kept_job
    kept-is = ap (λ (v : Verdict). kept_by v s cs) (sym (rw lent-largest (build-as-stated s cs limits)))

    number_is : r.number ≡ number_of call
    unfolding build_answer
    number_is = ap (λ (a : Answer Counts). a.number) e

    place_is : r.place ≡ place_of call
    unfolding build_answer
    place_is = ap (λ (a : Answer Counts). a.place) e

    -- ---- refused
    module _ (h : 0 < r.number) where
      by_number : (v : Verdict) → r.number ≡ number_of v → r.place ≡ place_of v → kept_by v s cs ≡ nothing (record { number = r.number; place = r.place })
      unfolding kept_by number_of place_of
      by_number accepted en ep = absurd (omega arith)
      by_number (refused q) en ep = rw (en, ep)

      kept-nothing : kept_job (job s cs) ≡ nothing (record { number = r.number; place = r.place })
      kept-nothing = kept-is ∙ by_number call number_is place_is

      pub refused-answer : record { number = r.number; place = r.place; value = 0 } ≡ keep_answer (kept_job (job s cs)) lent
      refused-answer = rw kept-nothing (sym (answer-refused lent long (record { number = r.number; place = r.place })))

      pub refused-output : lent ≡ keep_output (kept_job (job s cs)) lent
      refused-output = rw kept-nothing (sym (output-refused lent long (record { number = r.number; place = r.place })))

    -- ---- accepted: the file is written from the counts and the lists
    module _ (h : r.number ≤ 0) (new : TreeLists) (f : new ≡ build_lists s cs lent_lists lent_floats lent_wholes lent_records) where
      takes : build_call s cs lent_lists lent_floats lent_wholes lent_records ≡ accepted
      takes = build-zero s cs (lent_sizes lent_lists lent_floats lent_wholes lent_records) (sym number_is ∙ (omega arith))

      kept-file : kept_job (job s cs) ≡ file (file_bytes s cs (levels s cs))
      unfolding kept_by
      kept-file = kept-is ∙ ap (λ (v : Verdict). kept_by v s cs) takes

      room : length (file_bytes s cs (levels s cs)) ≤ length lent
      room = omega (arith, long, sound-file-fits s cs (levels s cs) limits (built-sound s cs (lent_sizes lent_lists lent_floats lent_wholes lent_records) takes))

      module _ (after : List ℕ) (a : Answer ℕ) (w : Stored s cs r.value new lent after a) where
        pub stored_answer : a ≡ keep_answer (kept_job (job s cs)) lent
        stored_answer =
            w.answers ∙ rw (f, e) (write-of-build-answers s cs lent_lists lent_floats lent_wholes lent_records takes lent room)
            ∙ sym (ap (λ (k : Kept). keep_answer k lent) kept-file ∙ answer-file lent long (file_bytes s cs (levels s cs)))

        pub stored-output : after ≡ keep_output (kept_job (job s cs)) lent
        unfolding written
        stored-output =
            w.output ∙ rw (f, e) (write-of-build-fills s cs lent_lists lent_floats lent_wholes lent_records takes lent room)
            ∙ sym (ap (λ (k : Kept). keep_output k lent) kept-file ∙ output-file lent long (file_bytes s cs (levels s cs)))
