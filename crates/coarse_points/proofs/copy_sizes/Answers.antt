-- `coarse_points::copy_sizes` meets its contract: the sizes so far stand in front. Assumes nothing.
use mathlib.Core.Path.{◌≡◌, sym, ◌∙◌}
use Prim.Native.Nat.{◌+◌}
use native.Mathlib.Omega.{arith}
use borrow.Author.Rules.{rules}
use lib.ListN.{length}
use lib.Seq.{take_all}
use Rattle.lists.proofs.From.{map-from-nil, fill_more}
use Rattle.packed.specs.Reading.{own_count}
use Rattle.coarse_points.proofs.copy_sizes.Goals as goal

pub loop-l-init : goal.loop-l-init
loop-l-init c = let v = c.args.leaves in sym (map-from-nil (λ l. own_count v.domains.now (v.first + l)) 0)

pub loop-l-preserved : goal.loop-l-preserved
loop-l-preserved c = let v = c.args.leaves in
    let i = c.loop-l in
    fill_more (λ l. own_count v.domains.now (v.first + l)) i.shares i.l _ (search rules) c.row.ensures.own_count i.invariant

pub returns : goal.returns
returns c = let m = c.args.leaves.count in
    let i = c.loop-l in
    let n : length i.shares ≡ m = i.auto.shares ∙ c.requires.1 in
    let all : i.l ≡ m = omega (arith, n) in
    sym (take_all m i.shares (omega (arith, n))) ∙ (rw all at i.invariant)
