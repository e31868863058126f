-- `packed::floats_before` meets its contract. Assumes nothing.
use mathlib.Core.Path.{ap}
use Prim.Native.Nat.{ℕ, ◌*◌}
use native.Mathlib.Omega.{arith}
use Rattle.packed.proofs.floats_before.Goals as goal

pub overflow_mul-result : goal.overflow_mul-result
overflow_mul-result c = omega (arith, ap (λ (f : ℕ). f * c.args.k) c.row_floats.ensures, c.requires.1)

pub returns : goal.returns
returns c = ap (λ (f : ℕ). f * c.args.k) c.row_floats.ensures
