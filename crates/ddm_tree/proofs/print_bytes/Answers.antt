-- `ddm_tree::print_bytes` meets its contract. Assumes nothing.
use Rattle.formats.specs.Printout.{printout}
use Rattle.job_room.proofs.Printing.{taken, found}
use Rattle.ddm_tree.proofs.print_bytes.Goals as goal

pub unwrap-requires : goal.unwrap-requires
unwrap-requires c = taken (printout c.args.bytes.now) _ _ c.printout.ensures.answer c.requires

pub returns : goal.returns
returns c = let text = found (printout c.args.bytes.now) _ _ _ c.unwrap.ensures c.printout.ensures.answer c.requires _ c.printout.ensures.output in
    record { fits = text.0; same = text.1 }
