-- `slots::put_value` meets its contract. Assumes nothing.
use mathlib.Core.Path.{refl}
use native.Mathlib.Omega.{arith}
use Rattle.lists.proofs.Put.{set-put}
use Rattle.slots.proofs.put_value.Goals as goal

pub returns : goal.returns
returns g c = (c.of-told.result, c.of-told.ensures, refl, set-put _ 0 _ (omega arith))
