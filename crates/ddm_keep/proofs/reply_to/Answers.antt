-- `ddm_keep::reply_to` meets its contract. Assumes nothing.
use mathlib.Core.Path.{subst}
use Rattle.stored.specs.Programs.{kept}
use Rattle.keep.specs.Keeping.{Found}
use Rattle.ddm_keep.proofs.Decided.{front-replies}
use Rattle.ddm_keep.proofs.reply_to.Goals as goal

pub returns : goal.returns
returns c = let input = c.args.input in
    front-replies input.front input.bytes.now _ c.keep_bytes.result c.requires.0 c.requires.1
    (subst (λ bs. Found (kept bs) c.keep_bytes.new.file c.keep_bytes.result) c.read.ensures c.keep_bytes.ensures)
