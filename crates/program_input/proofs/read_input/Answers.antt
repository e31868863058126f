-- `program_input::read_input` meets its contract. Assumes nothing.
use Rattle.std.proofs.Common.{rules, refl}
use Rattle.program_input.proofs.Fronts.{known-more}
use Rattle.program_input.proofs.read_input.Goals as goal

pub loop-done-preserved : goal.loop-done-preserved
loop-done-preserved g c =
    (search rules, search rules, known-more _ _ _ _ _ _ c.loop-done.input _ c.loop-done.invariant.2 c.read_lump.ensures.stays c.in_ok-n.ensures.bytes.0 refl)
