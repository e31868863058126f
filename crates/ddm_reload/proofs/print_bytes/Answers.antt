-- `ddm_reload::print_bytes` meets its contract. Assumes nothing.
use Rattle.stored.specs.Programs.{reloaded}
use Rattle.job_room.proofs.Printing.{taken, found}
use Rattle.ddm_reload.proofs.print_bytes.Goals as goal

pub unwrap-requires : goal.unwrap-requires
unwrap-requires c = taken (reloaded c.args.stream.now c.args.file.now) _ _ c.reload.ensures.answer c.requires

pub returns : goal.returns
returns c = let text = found (reloaded c.args.stream.now c.args.file.now) _ _ _ c.unwrap.ensures c.reload.ensures.answer c.requires _ c.reload.ensures.output in
    record { fits = text.0; same = text.1 }
