-- `ddm_keep::keep_bytes` meets its contract. Assumes nothing.
use Rattle.stored.specs.Programs.{kept}
use Rattle.keep.proofs.Numbered.{kept-numbered}
use Rattle.keep.proofs.Found.{found}
use Rattle.ddm_keep.proofs.keep_bytes.Goals as goal

pub returns : goal.returns
returns c = let stream = c.args.bytes.now in
    let call = c.keep.ensures in
    found c.args.file.now c.requires _ _ (kept stream) (kept-numbered stream) call.answer call.output
