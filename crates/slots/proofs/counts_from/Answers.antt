-- `slots::counts_from` meets its contract. Assumes nothing.
use native.Mathlib.Omega.{arith}
use Rattle.slots.proofs.Slots.{slot_read}
use Rattle.slots.proofs.counts_from.Goals as goal

pub returns : goal.returns
returns c = slot_read _ (omega arith)
