use mathlib.Core.Path.{◌≡◌}
use Prim.Native.Nat.{◌*◌}
use Rattle.definition.specs.Packed.{row_floats_lem}
use Rattle.covers.proofs.Moved.{Moved}
use Rattle.covers.proofs.put_covers.Given as goal

abbrev pub invariant-loop-l : goal.invariant-loop-l
invariant-loop-l l = (l.start ≡ row_floats_lem l.dimensions * l.first) × Moved l.dimensions l.initial.boxes l.start l.covers l.l l.boxes
