-- `reload::write_loaded` meets its contract. Assumes nothing.
use mathlib.Core.Path.{sym, ◌∙◌}
use Rattle.bytes_out.proofs.Writing.{spelt_as, takes_as}
use Rattle.stream_reader.specs.Reading.{job_settings}
use Rattle.reload.proofs.LoadedText.{answer-stands, answer-printed}
use Rattle.reload.proofs.write_loaded.Goals as goal

pub write_answer-requires : goal.write_answer-requires
write_answer-requires c =
    let s = job_settings c.args.job in
    let cs = c.args.job.points.coordinates.now in
    let w = rw (c.lend-lists.ensures ∙ c.zero_lists-lists.ensures, sym c.read.ensures) at c.load_tree-answer.ensures.loaded in
    record {
      stands = answer-stands s cs c.args.file.now c.args.job.limits _ _ w;
      room_for = takes_as (answer-printed s cs c.args.file.now c.args.job.limits _ _ w) c.requires;
    }

pub returns : goal.returns
returns c =
    let s = job_settings c.args.job in
    let cs = c.args.job.points.coordinates.now in
    let w = rw (c.lend-lists.ensures ∙ c.zero_lists-lists.ensures, sym c.read.ensures) at c.load_tree-answer.ensures.loaded in
    spelt_as (sym (answer-printed s cs c.args.file.now c.args.job.limits _ _ w)) c.write_answer.ensures
