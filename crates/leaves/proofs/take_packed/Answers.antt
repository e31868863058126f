-- `leaves::take_packed` meets its contract. Assumes nothing.
use mathlib.Core.Path.{◌≡◌, refl, ◌∙◌}
use Prim.Native.Nat.{◌-◌, ◌*◌}
use native.Mathlib.Omega.{arith}
use lib.ListN.{length}
use Rattle.lists.specs.Lists.{part}
use Rattle.leaves.proofs.take_packed.Goals as goal

pub returns : goal.returns
unfolding part
returns c = let n = length c.args.rows.now in
    let e : 2 * n - n ≡ n = omega arith in
    c.copy_values.ensures.after ∙ rw e refl
