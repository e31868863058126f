-- `stretches::copy_values` meets its contract. The loop's invariant: so many values are written. Assumes nothing.
use mathlib.Core.Path.{refl, sym, ◌∙◌}
use Prim.Native.Nat.{◌<◌, ◌≤◌}
use native.Mathlib.Numerals.{add-one}
use native.Mathlib.Omega.{arith}
use lib.ListN.{length}
use lib.Seq.{take_all, take-suc, take-suc-set}
use Rattle.stretches.proofs.copy_values.Goals as goal

pub loop-i-init : goal.loop-i-init
loop-i-init g c = refl

pub loop-i-preserved : goal.loop-i-preserved
loop-i-preserved g c = let l = c.loop-i in
    let x = c.index-values-i in
    let h : l.i < length l.list = omega (arith, l.auto.list, c.loop-i-test.true) in
    let k : l.i < length c.args.values.now = omega (arith, c.requires, c.loop-i-test.true) in
    rw (add-one, take-suc-set l.list l.i x.result h, take-suc c.args.values.now l.i x.result k, l.invariant, sym x.is) refl

pub returns-clause-after : goal.returns-clause-after
returns-clause-after g c = let l = c.loop-i in
    let m : length l.list ≤ l.i = omega (arith, l.auto.list, c.loop-i-test.false) in
    let n : length c.args.values.now ≤ l.i = omega (arith, c.requires, c.loop-i-test.false) in
    sym (take_all l.i l.list m) ∙ l.invariant ∙ take_all l.i c.args.values.now n
