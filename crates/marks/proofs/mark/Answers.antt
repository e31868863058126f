-- `marks::mark` meets its contract. Assumes nothing.
use mathlib.Core.Path.{ap}
use Prim.Native.Nat.{ℕ, ◌/◌, ◌%◌}
use native.Mathlib.Omega.{arith}
use lib.ListN.{set}
use Rattle.marks.specs.Bits.{bit_at, marking}
use Rattle.marks.proofs.Words.{or-adds}
use Rattle.marks.proofs.Marks.{mark-adds}
use Rattle.marks.proofs.mark.Goals as goal

pub returns : goal.returns
unfolding bit_at marking
returns c = let i = c.args.i in
    let ws = c.args.words.now in
    let e = ap (λ (x : ℕ). set ws (i / 64) x) (or-adds _ (i % 64) (omega arith) c.requires.1) in
    (e, λ p m. rw e (mark-adds m i c.requires.0 c.requires.1))
