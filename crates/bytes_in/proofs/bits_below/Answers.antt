-- `bytes_in::bits_below` meets its contract. Assumes nothing.
use Rattle.bytes_in.proofs.Turns.{none-tested, none_more, one_found}
use mathlib.Core.Path.{◌≡◌, sym, ap, ◌∙◌}
use mathlib.Core.Bool.{not}
use Prim.Native.Nat.{ℕ, ◌%◌}
use lib.Dec.{leb}
use borrow.Author.Tests.{le-leb, lt-leb}
use borrow.Author.Rules.{rules}
use Rattle.bytes_in.proofs.bits_below.Invariants.{above}
use Rattle.bytes_in.proofs.bits_below.Goals as goal

pub loop-i-init : goal.loop-i-init
loop-i-init c = none-tested _

pub returns-then-limit-bits : goal.returns-then-limit-bits
returns-then-limit-bits c = let a = c.args in
    let turn = c.loop-i in
    let here = ap (λ (b : ℕ). leb a.limit (b % 0x8000_0000_0000_0000)) (sym c.bits_at-bits.ensures) ∙ le-leb a.limit _ c.if-limit-bits.true in
    sym (ap not (one_found (above a.limit a.input.now a.at) a.count turn.i (search rules) here))

pub loop-i-preserved : goal.loop-i-preserved
loop-i-preserved c = let a = c.args in
    let turn = c.loop-i in
    let here = ap (λ (b : ℕ). leb a.limit (b % 0x8000_0000_0000_0000)) (sym c.bits_at-bits.ensures) ∙ lt-leb a.limit _ c.if-limit-bits.false in
    none_more (above a.limit a.input.now a.at) turn.i turn.invariant here

pub returns : goal.returns
returns c = let e : c.loop-i.i ≡ c.args.count = search rules in
    rw (← e) (sym (ap not c.loop-i.invariant))
