-- `stream_reader::read_job` meets its contract. Assumes nothing.
use Rattle.std.proofs.lemmas.Result.{err_from_is_err_and}
use Rattle.stream_reader.proofs.Records.{job-broken, job-wrong, job-right, held-broken, held-over, held-within}
use Rattle.config.specs.Params.{settings_are}
use Rattle.formats.specs.Stream.{Job, settings_size, stream_points, read_points, held, job_in}
use mathlib.Core.List.{List, []}
use lib.ListN.{length, drop, take, length-drop}
use lib.Seq.{take_all}
use native.Mathlib.Omega.{arith}
use Prim.Native.Nat.{ℕ, ◌-◌, ◌*◌}
use mathlib.Core.Path.{◌≡◌, sym, ap, ◌∙◌}
use Rattle.stream_reader.proofs.read_job.Goals as goal
use Rattle.stream_reader.proofs.read_job.Goals.{In_ok-check_dimension}

pub returns-then-not-settings_whole-clause-same : goal.returns-then-not-settings_whole-clause-same
returns-then-not-settings_whole-clause-same c = job-broken c.args.input.now (sym c.settings_whole.ensures ∙ c.if-not-settings_whole.true)

pub returns-in_err-check_dimension-clause-same : goal.returns-in_err-check_dimension-clause-same
returns-in_err-check_dimension-clause-same c =
    let p = err_from_is_err_and c.from_residual.result c.from_residual.ensures.1 in
    rw (p.1, p.2) (job-wrong c.args.input.now (sym c.settings_whole.ensures ∙ c.if-not-settings_whole.false) _ c.settings_of-settings.ensures _
    c.in_err-check_dimension.ensures.number)

-- the points that are read decide the job
module _ (c : In_ok-check_dimension) where
  abbrev points : Job
  points = read_points (settings_are c.settings_of-settings.result) stream_points settings_size (drop settings_size c.args.input.now) []

  by-points : job_in c.args.input.now ≡ held points
  by-points =
      job-right c.args.input.now (sym c.settings_whole.ensures ∙ c.if-not-settings_whole.false) _ c.settings_of-settings.ensures
      c.in_ok-check_dimension.ensures.fine.0 c.in_ok-check_dimension.ensures.fine.1

  -- the records that are lent are all behind the settings
  all-records : read_points (settings_are c.settings_of-settings.result) stream_points settings_size
      (take (length c.args.input.now - settings_size) (drop settings_size c.args.input.now)) [] ≡ points
  all-records =
      ap (λ (bs : List ℕ). read_points (settings_are c.settings_of-settings.result) stream_points settings_size bs [])
      (take_all (length c.args.input.now - settings_size) (drop settings_size c.args.input.now) (omega (arith, length-drop settings_size c.args.input.now)))

pub returns-in_err-count-clause-same : goal.returns-in_err-count-clause-same
returns-in_err-count-clause-same c =
    let p = err_from_is_err_and c.from_residual-in_err-count.result c.from_residual-in_err-count.ensures.1 in
    let at = (goal.at.returns-in_err-count-clause-same c).In_ok-check_dimension in
    rw (p.1, p.2) (held-broken (settings_are c.settings_of-settings.result) c.args.input.now (points at) (by-points at) _ (c.in_err-count.ensures.same ∙ all-records at))

pub returns-then-params-gt-MOST_NEIGHBOURS-clause-same : goal.returns-then-params-gt-MOST_NEIGHBOURS-clause-same
returns-then-params-gt-MOST_NEIGHBOURS-clause-same c =
    let at = (goal.at.returns-then-params-gt-MOST_NEIGHBOURS-clause-same c).In_ok-check_dimension in
    held-over (settings_are c.settings_of-settings.result) c.args.input.now (points at) (by-points at)
    (take (c.in_ok-count.count * c.settings_of-settings.result.dimensions) c.read_points.new.coordinates) (c.in_ok-count.ensures.same ∙ all-records at) c.if-params-gt-MOST_NEIGHBOURS.true

pub returns-clause-same : goal.returns-clause-same
returns-clause-same c =
    let at = (goal.at.returns-clause-same c).In_ok-check_dimension in
    held-within (settings_are c.settings_of-settings.result) c.args.input.now (points at) (by-points at)
    (take (c.in_ok-count.count * c.settings_of-settings.result.dimensions) c.read_points.new.coordinates) (c.in_ok-count.ensures.same ∙ all-records at) c.if-params-gt-MOST_NEIGHBOURS.false
