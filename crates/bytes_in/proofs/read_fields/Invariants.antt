use mathlib.Core.Path.{◌≡◌}
use Prim.Native.Nat.{◌+◌, ◌*◌}
use mathlib.Core.List.{map}
use lib.ListN.{take}
use Rattle.lists.specs.Lists.{from}
use Rattle.bytes_in.proofs.read_fields.Given as goal

abbrev pub invariant-loop-i : goal.invariant-loop-i
invariant-loop-i g l = take l.i l.out ≡ map (λ i. g.T.Field.read (l.at + g.T.Field.SIZE * i) l.input) (from 0 l.i)
