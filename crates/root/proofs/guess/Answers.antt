-- `root::guess` is safe. Its contract says nothing of the result. Assumes nothing.
use native.Mathlib.Omega.{arith}
use Prim.Native.Nat.{◌-◌, ◌/◌}
use Rattle.root_laws.proofs.Patterns.{no_nan}
use Rattle.root.proofs.guess.Goals as goal

pub float_from_bits-f : goal.float_from_bits-f
float_from_bits-f c = no_nan c.args.b c.requires

pub float_from_bits-y : goal.float_from_bits-y
float_from_bits-y c = no_nan (0x5fe6_eb50_c7b5_37a9 - c.args.b / 2) (omega arith)
