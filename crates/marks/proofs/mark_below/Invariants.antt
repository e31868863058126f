use mathlib.Core.Path.{◌≡◌}
use lib.Dec.{ltb}
use lib.ListN.{length}
use Rattle.marks.specs.Bits.{Marked}
use Rattle.marks.proofs.mark_below.Given as goal

abbrev pub invariant-loop-row : goal.invariant-loop-row
invariant-loop-row l = (length l.words ≡ length l.initial.words) × Marked l.words (λ j. ltb j l.row)
