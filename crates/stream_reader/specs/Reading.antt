-- The reader's answers as the definition has them. Definitions only.
use Rattle.std.specs.Prelude.{ℕ, ◌*◌, ◌≤◌, List, take, Float, Result, Ok, Err}
use Rattle.definition.specs.Tree as tree
use Rattle.definition.specs.Tree.{point_count}
use Rattle.config.specs.Params.{settings_of_lem, settings_are}
use Rattle.config.specs.declared.Settings.{Settings}
use Rattle.formats.specs.Stream as stream
use Rattle.formats.specs.Stream.{job, broken, stream_points}
use Rattle.refusal.specs.declared.Refusal.{Refusal}
use Rattle.refusal.specs.Refusals.{as_refusal}
use Rattle.stream_reader.specs.declared.job.Job.{Job}

-- what the point records came to, the coordinates being at the front of cs
abbrev pub points_of : Settings → Result ℕ Refusal → List Float → stream.Job
points_of s (Ok n) cs = job (settings_are s) (take (n * s.dimensions) cs)
points_of s (Err r) cs = broken (as_refusal r)

-- the settings of a job, and the job, as the definition has them
abbrev pub job_settings : Job → tree.Settings
job_settings j = settings_of_lem j.points.dimensions j.params

abbrev pub job_is : Job → stream.Job
job_is j = job (job_settings j) j.points.coordinates.now

-- the job that an answer stands for
abbrev pub job_of : Result Job Refusal → stream.Job
job_of (Ok j) = job_is j
job_of (Err r) = broken (as_refusal r)

-- a job has at most 32 points
abbrev pub Within : Result Job Refusal → Type 0
Within (Ok j) = point_count j.points.dimensions j.points.coordinates.now ≤ stream_points
Within (Err r) = Unit {0}
