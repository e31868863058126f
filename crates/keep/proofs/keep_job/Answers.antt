-- `keep::keep_job` meets its contract. Assumes nothing.
use mathlib.Core.Path.{◌∙◌}
use native.Mathlib.Omega.{arith}
use Rattle.std.proofs.lemmas.Result.{err_from_is_err_and}
use Rattle.stream_reader.specs.Reading.{job_settings}
use Rattle.job_room.proofs.Printing.{refusal-numbered}
use Rattle.keep.proofs.JobKept.{refused-answer, refused-output, stored_answer, stored-output}
use Rattle.keep.proofs.keep_job.Goals as goal

pub returns-in_err-tree : goal.returns-in_err-tree
returns-in_err-tree c = let start = c in
    let s = job_settings start.args.job in
    let cs = start.args.job.points.coordinates.now in
    let lent = start.args.file.now in
    let w = rw (
      c.lend-lists.ensures ∙ c.zero_lists-lists.ensures,
      c.lend-room.ensures.floats ∙ c.zeros-room.ensures.floats,
      c.lend-room.ensures.wholes ∙ c.zeros-room.ensures.wholes,
      c.lend-records.ensures.cuts ∙ c.zeros-records.ensures.cuts,
      c.lend-records.ensures.planes ∙ c.zeros-records.ensures.planes,
    ) at c.in_err-tree.ensures.built in
    let p = err_from_is_err_and c.from_residual.result c.from_residual.ensures.1 in
    record {
      answer = rw (p.1, p.2) (refused-answer s cs start.args.job.limits lent start.requires _ w.answers (refusal-numbered _));
      output = refused-output s cs start.args.job.limits lent start.requires _ w.answers (refusal-numbered _);
    }

pub returns : goal.returns
returns c = let start = c in
    let s = job_settings start.args.job in
    let cs = start.args.job.points.coordinates.now in
    let lent = start.args.file.now in
    let w = rw (
      c.lend-lists.ensures ∙ c.zero_lists-lists.ensures,
      c.lend-room.ensures.floats ∙ c.zeros-room.ensures.floats,
      c.lend-room.ensures.wholes ∙ c.zeros-room.ensures.wholes,
      c.lend-records.ensures.cuts ∙ c.zeros-records.ensures.cuts,
      c.lend-records.ensures.planes ∙ c.zeros-records.ensures.planes,
    ) at c.in_ok-tree.ensures.built in
    let stored = rw c.read.ensures at c.store_tree.ensures in record {
      answer = stored_answer s cs start.args.job.limits lent start.requires _ w.answers (omega arith) _ w.lists _ _ stored;
      output = stored-output s cs start.args.job.limits lent start.requires _ w.answers (omega arith) _ w.lists _ _ stored;
    }
