use mathlib.Core.Path.{◌≡◌}
use mathlib.Core.Bool.{false}
use Rattle.lists.specs.Lists.{any_of, from}
use Rattle.formats.specs.Bytes.{float_size}
use Rattle.file_front.proofs.Compared.{differs, float_of}
use Rattle.file_front.proofs.floats_are.Given as goal

abbrev pub invariant-loop-i : goal.invariant-loop-i
invariant-loop-i l = (any_of (differs (float_of l.xs) float_size l.at l.bytes) (from 0 l.i) ≡ false)
