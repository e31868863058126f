use mathlib.Core.Path.{◌≡◌}
use mathlib.Core.Bool.{Bool, false}
use Prim.Native.Nat.{ℕ, ◌+◌, ◌*◌, ◌%◌}
use mathlib.Core.List.{List}
use lib.Dec.{leb}
use Rattle.lists.specs.Lists.{any_of, from}
use Rattle.formats.specs.Bytes.{field, float_size}
use Rattle.bytes_in.proofs.bits_below.Given as goal

-- the bits of the float number i reach the limit, the sign apart
abbrev pub above : ℕ → List ℕ → ℕ → ℕ → Bool
above limit input at i = leb limit (field float_size (at + float_size * i) input % 0x8000_0000_0000_0000)

abbrev pub invariant-loop-i : goal.invariant-loop-i
invariant-loop-i l = any_of (above l.limit l.input l.at) (from 0 l.i) ≡ false
