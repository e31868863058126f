-- `stretches::number_rows` meets its contract. The loop's invariant: the numbers passed are written. Assumes nothing.
use mathlib.Core.Path.{◌≡◌, refl, sym, ◌∙◌}
use Prim.Native.Nat.{◌<◌}
use native.Mathlib.Numerals.{add-one}
use native.Mathlib.Omega.{arith}
use lib.ListN.{length}
use lib.Seq.{take_all, take-suc-set, length-take-le}
use Rattle.lists.specs.Lists.{from}
use Rattle.lists.proofs.Put.{put-zero}
use Rattle.lists.proofs.From.{below-snoc, length_from}
use Rattle.stretches.proofs.number_rows.Goals as goal

pub loop-i-init : goal.loop-i-init
unfolding from
loop-i-init c = refl

pub loop-i-preserved : goal.loop-i-preserved
loop-i-preserved c = let l = c.loop-i in
    let h : l.i < length l.w-items = omega arith in
    rw (add-one, take-suc-set, l.invariant, below-snoc)

pub returns : goal.returns
returns c = let l = c.loop-i in
    let n = c.args.count in
    let k : length l.w-items ≡ n = omega (arith, l.auto.w-items, length-take-le n c.args.wholes.now c.requires) in
    let i : l.i ≡ n = omega arith in
    let e : l.w-items ≡ from 0 n = sym (take_all n l.w-items (omega arith)) ∙ rw i at l.invariant in
    rw (e, put-zero, length_from)
