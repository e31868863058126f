-- `printout::write_printout` meets its contract. Assumes nothing.
use Rattle.bytes_out.proofs.Writing.{spelt_as}
use Rattle.job_room.proofs.Printing.{refusal-room}
use Rattle.printout.proofs.Joins.{broken-printed, whole-printed}
use Rattle.printout.proofs.write_printout.Goals as goal

pub write_refusal-requires : goal.write_refusal-requires
write_refusal-requires c = refusal-room _ c.requires

pub returns-in-Err : goal.returns-in-Err
returns-in-Err c = let start = c in
    let same = c.read_job.ensures.same in
    spelt_as (broken-printed _ start.args.input.now same _ c.in-Err.is) c.write_refusal.ensures

pub returns-in-Ok : goal.returns-in-Ok
returns-in-Ok c = let start = c in
    let same = c.read_job.ensures.same in
    spelt_as (whole-printed _ start.args.input.now same _ c.in-Ok.is)
    c.write_job.ensures
