-- What the two programs make of their input: `ddm_keep` writes the file of a job's tree, and `ddm_reload` prints the tree of a file that is
-- loaded for a job. Definitions only.
use Rattle.std.specs.Prelude.{ℕ, cond, List, length, replicate, ltb, Float}
use Rattle.definition.specs.Number.{plus_zero}
use Rattle.definition.specs.Tree.{Settings, levels, point_count}
use Rattle.definition.specs.Packed.{BuildSizes, tree_stated, build_stated}
use Rattle.definition.specs.Refusals.{Refusal, Verdict, accepted, refused, build_verdict}
use Rattle.definition.specs.Outcome.{TreeLists}
use Rattle.formats.specs.Stream.{Job, job, broken, job_in}
use Rattle.formats.specs.Printout.{tree_text, refusal_text}
use Rattle.stored.specs.File.{file_bytes}
use Rattle.stored.specs.Stored.{tree_in}
use Rattle.stored.specs.Outcome.{load_verdict}

-- the stated lengths for a job's settings and points
abbrev stated : Settings → List Float → BuildSizes
stated s cs = build_stated s.dimension (point_count s.dimension cs) s.neighbours

-- ---- ddm_keep

-- a file, or a refusal
pub data Kept : Type 0 where
  file : List ℕ → Kept
  nothing : Refusal → Kept

unfoldable pub kept_by : Verdict → Settings → List Float → Kept
kept_by accepted s cs = file (file_bytes s cs (levels s cs))
kept_by (refused r) s cs = nothing r

-- a job is built in lists of the stated sizes
unfoldable pub kept_job : Job → Kept
kept_job (job s cs) = kept_by (build_verdict s cs (stated s cs)) s cs
kept_job (broken r) = nothing r

-- what the program makes of a stream
unfoldable pub kept : List ℕ → Kept
kept bs = kept_job (job_in bs)

-- ---- ddm_reload

-- the longest file that the program takes; 17 for a longer one
abbrev pub most_file : ℕ
most_file = 1048576

-- lists of the stated lengths
unfoldable pub blank_lists : Settings → List Float → TreeLists
blank_lists s cs =
    let b = tree_stated s.dimension (point_count s.dimension cs) s.neighbours in
    record {
      level_points = replicate b.level_points 0;
      internals = replicate b.internals 0;
      domains = replicate b.domains 0;
      boxes = replicate b.boxes plus_zero;
      borrowed = replicate b.borrowed 0;
    }

unfoldable pub reloaded_by : Verdict → List ℕ → List ℕ
reloaded_by accepted bs = tree_text (tree_in bs)
reloaded_by (refused r) bs = refusal_text r

-- a job is loaded into lists of the stated sizes
unfoldable pub reloaded_for : Job → List ℕ → List ℕ
reloaded_for (job s cs) bs =
    let loaded = reloaded_by (load_verdict s cs bs (blank_lists s cs)) bs in
    cond (ltb most_file (length bs)) (refusal_text (record { number = 17; place = 0 })) loaded
reloaded_for (broken r) bs = refusal_text r

-- what the program prints for a job stream and a file
unfoldable pub reloaded : List ℕ → List ℕ → List ℕ
reloaded stream bs = reloaded_for (job_in stream) bs
