-- `slots::put_counts` meets its contract. Assumes nothing.
use native.Mathlib.Omega.{arith}
use Rattle.slots.proofs.Slots.{slot_counts}
use Rattle.slots.proofs.put_counts.Goals as goal

pub returns : goal.returns
returns c = slot_counts _ _ _ _ _ _ _ _ (omega arith) (omega arith) c.put_values.ensures c.put_values-2.ensures c.put_values-3.ensures
