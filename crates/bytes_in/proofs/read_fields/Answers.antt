-- `bytes_in::read_fields` meets its contract. The loop's invariant: the places passed are written. Assumes nothing.
use mathlib.Core.Path.{◌≡◌, refl, sym, ap, ◌∙◌}
use mathlib.Core.List.{map}
use lib.ListN.{length}
use lib.Seq.{take_all}
use borrow.Author.Rules.{rules}
use Prim.Native.Nat.{ℕ, ◌+◌, ◌*◌}
use native.Mathlib.Omega.{arith}
use Rattle.lists.specs.Lists.{from}
use Rattle.lists.proofs.From.{fill_more}
use Rattle.bytes_in.proofs.read_fields.Goals as goal

pub loop-i-init : goal.loop-i-init
unfolding from
loop-i-init g c = refl

pub loop-i-preserved : goal.loop-i-preserved
loop-i-preserved g c =
    let a = c.args in
    let l = c.loop-i in
    let here = c.read_at.ensures ∙ ap (λ (s : ℕ). g.T.Field.read (a.at + s * l.i) a.input.now) c.SIZE.ensures in
    fill_more (λ j. g.T.Field.read (a.at + g.T.Field.SIZE * j) a.input.now) l.out l.i _ (omega arith) here l.invariant

pub returns : goal.returns
returns g c =
    let a = c.args in
    let l = c.loop-i in
    let all : l.i ≡ length l.out = search rules in
    sym (take_all l.i l.out (omega arith)) ∙ l.invariant
    ∙ ap (λ (n : ℕ). map (λ i. g.T.Field.read (a.at + g.T.Field.SIZE * i) a.input.now) (from 0 n)) (omega arith)
    ∙ sym (g.met.T.Field.each _ a.at a.input.now)
