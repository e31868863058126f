-- `printout::write_job` meets its contract. Assumes nothing.
use mathlib.Core.Path.{sym, ◌∙◌}
use Rattle.bytes_out.proofs.Writing.{spelt_as, takes_as}
use Rattle.stream_reader.specs.Reading.{job_settings}
use Rattle.tree_lists.specs.Lent.{lists_in, records_in}
use Rattle.job_room.proofs.Lists.{lent-sizes}
use Rattle.printout.proofs.Joins.{room_for, answer-stands, answer-printed}
use Rattle.printout.proofs.write_job.Goals as goal

pub write_answer-requires : goal.write_answer-requires
write_answer-requires c =
    let s = job_settings c.args.job in
    let cs = c.args.job.points.coordinates.now in
    let lent = lent-sizes (lists_in c.lend-lists.result) c.lend-room.result.floats.now c.lend-room.result.wholes.now (records_in c.lend-records.result)
    (c.lend-lists.ensures ∙ c.zero_lists-lists.ensures) (c.lend-room.ensures.floats ∙ c.zeros-room.ensures.floats) (c.lend-room.ensures.wholes ∙ c.zeros-room.ensures.wholes)
    (c.lend-records.ensures.cuts ∙ c.zeros-records.ensures.cuts) (c.lend-records.ensures.planes ∙ c.zeros-records.ensures.planes) in
    let w = c.build-answer.ensures.built in
    record {
      stands = answer-stands s cs (lists_in c.lend-lists.result) _ _ _ c.args.job.limits lent _ (c.read.ensures ∙ w.lists) _ w.answers;
      room_for = takes_as (answer-printed s cs (lists_in c.lend-lists.result) _ _ _ c.args.job.limits lent _ (c.read.ensures ∙ w.lists) _ w.answers) (room_for s cs c.args.job.limits c.requires);
    }

pub returns : goal.returns
returns c =
    let s = job_settings c.args.job in
    let cs = c.args.job.points.coordinates.now in
    let lent = lent-sizes (lists_in c.lend-lists.result) c.lend-room.result.floats.now c.lend-room.result.wholes.now (records_in c.lend-records.result)
    (c.lend-lists.ensures ∙ c.zero_lists-lists.ensures) (c.lend-room.ensures.floats ∙ c.zeros-room.ensures.floats) (c.lend-room.ensures.wholes ∙ c.zeros-room.ensures.wholes)
    (c.lend-records.ensures.cuts ∙ c.zeros-records.ensures.cuts) (c.lend-records.ensures.planes ∙ c.zeros-records.ensures.planes) in
    let w = c.build-answer.ensures.built in
    spelt_as (sym (answer-printed s cs (lists_in c.lend-lists.result) _ _ _ c.args.job.limits lent _ (c.read.ensures ∙ w.lists) _ w.answers)) c.write_answer.ensures
