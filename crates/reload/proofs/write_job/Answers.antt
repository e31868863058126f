-- `reload::write_job` meets its contract. Assumes nothing.
use native.Mathlib.Omega.{arith}
use Rattle.refusal.specs.declared.Refusal.TheVariants.{LargeJob}
use Rattle.bytes_out.proofs.Writing.{spelt_as}
use Rattle.stream_reader.specs.Reading.{job_settings}
use Rattle.job_room.proofs.Printing.{refusal-room}
use Rattle.reload.proofs.Reloads.{too_long, not-too-long, loaded-room}
use Rattle.reload.proofs.write_job.Goals as goal

pub write_refusal-requires : goal.write_refusal-requires
write_refusal-requires c = refusal-room LargeJob c.requires

pub returns-then-file-gt-MOST_FILE : goal.returns-then-file-gt-MOST_FILE
returns-then-file-gt-MOST_FILE c = let start = c in
    let s = job_settings start.args.job in
    let cs = start.args.job.points.coordinates.now in
    let bs = start.args.file.now in
    spelt_as (too_long s cs bs (omega (arith, c.if-file-gt-MOST_FILE.true))) c.write_refusal.ensures

pub write_loaded-requires : goal.write_loaded-requires
write_loaded-requires c = let start = c in
    let s = job_settings start.args.job in
    let cs = start.args.job.points.coordinates.now in
    let bs = start.args.file.now in
    loaded-room s cs bs start.args.job.limits start.requires (omega (arith, c.if-file-gt-MOST_FILE.false))

pub returns : goal.returns
returns c = let start = c in
    let s = job_settings start.args.job in
    let cs = start.args.job.points.coordinates.now in
    let bs = start.args.file.now in
    spelt_as (not-too-long s cs bs (omega (arith, c.if-file-gt-MOST_FILE.false))) c.write_loaded.ensures
