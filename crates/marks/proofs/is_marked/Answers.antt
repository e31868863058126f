-- `marks::is_marked` meets its contract. Assumes nothing.
use mathlib.Core.Path.{sym, ap, ◌∙◌}
use Prim.Native.Nat.{ℕ, ◌/◌, ◌%◌, ◌^◌}
use native.Mathlib.Omega.{arith}
use lib.Dec.{eqb}
use Rattle.std.proofs.lemmas.Nat.Bits.{shr_and_one}
use Rattle.marks.specs.Bits.{bit_at}
use Rattle.marks.proofs.Marks.{bit-tells}
use Rattle.marks.proofs.is_marked.Goals as goal

pub returns : goal.returns
unfolding bit_at
returns c = λ p m. let word = c.in-Some.ensures.lookup.3 in
    let bit = c.args.i % 64 in
    ap (λ (x : ℕ). eqb x 1) (shr_and_one c.in-Some.field-0.now bit ∙ ap (λ (x : ℕ). x / 2 ^ bit % 2) (word.1 0)) ∙ bit-tells m c.args.i (omega (arith, word.0))

pub returns-in_default : goal.returns-in_default
returns-in_default c = λ p m. sym (m.beyond c.args.i (omega (arith, c.in_default.ensures.lookup.3)))
