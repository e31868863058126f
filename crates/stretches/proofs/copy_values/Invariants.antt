use mathlib.Core.Path.{◌≡◌}
use lib.ListN.{take}
use Rattle.stretches.proofs.copy_values.Given as goal

abbrev pub invariant-loop-i : goal.invariant-loop-i
invariant-loop-i g l = take l.i l.list ≡ take l.i l.values
