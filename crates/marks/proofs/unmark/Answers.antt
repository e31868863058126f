-- `marks::unmark` meets its contract. Assumes nothing.
use mathlib.Core.Path.{◌≡◌, ap}
use mathlib.Core.Logic.{⊎_elim}
use Prim.Native.Nat.{ℕ, ◌/◌, ◌%◌, ◌^◌, ◌<◌}
use native.Mathlib.Omega.{arith}
use borrow.Author.Rules.{rules}
use borrow.Author.Tests.{eq-eqb}
use lib.ListN.{set, get_or}
use lib.Seq.{set-get_or}
use Rattle.lists.proofs.Tests.{same_or}
use Rattle.marks.specs.Bits.{bit_at, unmarking}
use Rattle.marks.proofs.Words.{and-takes, and-keeps}
use Rattle.marks.proofs.Marks.{unmark-takes, unmark-none, marked-within, bits-marked}
use Rattle.marks.proofs.unmark.Goals as goal

pub returns-then-i-words-clause-taken : goal.returns-then-i-words-clause-taken
unfolding bit_at unmarking
returns-then-i-words-clause-taken c = let i = c.args.i in
    λ there. ap (λ (x : ℕ). set c.args.words.now (i / 64) x) (and-takes _ (i % 64) (omega arith) (search rules) there)

pub returns-then-i-words-clause-set : goal.returns-then-i-words-clause-set
unfolding bit_at unmarking
returns-then-i-words-clause-set c = let i = c.args.i in
    let ws = c.args.words.now in
    let word = get_or ws (i / 64) 0 in
    let fits : word < 2 ^ 64 = search rules in
    let k : i % 64 < 64 = omega arith in
    λ p m. ⊎_elim
    (λ (there : bit_at ws i ≡ 1). rw (and-takes word (i % 64) k fits there) (unmark-takes m i (omega arith) there))
    (λ (none : bit_at ws i ≡ 1 → ⊥).
    let zero : word / 2 ^ (i % 64) % 2 ≡ 0 = omega (arith, none) in
    rw (and-keeps word (i % 64) k fits zero, set-get_or ws (i / 64) 0) (unmark-none m i none))
    (same_or (bit_at ws i) 1)

pub returns-else-i-words-clause-taken : goal.returns-else-i-words-clause-taken
returns-else-i-words-clause-taken c = let i = c.args.i in
    λ there. absurd (omega (arith, marked-within (bits-marked c.args.words.now) i (eq-eqb _ 1 there)))
