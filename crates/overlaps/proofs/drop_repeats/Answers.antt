-- `overlaps::drop_repeats` meets its contract. Assumes nothing.
use mathlib.Core.Path.{sym, ◌∙◌}
use borrow.Author.Tests.{eqb-true}
use native.Mathlib.Omega.{arith}
use Rattle.overlaps.proofs.Drops.{drop-same, drop-new, drop-end, drop-none}
use Rattle.overlaps.proofs.drop_repeats.Goals.{then-codes-kept, else-codes-kept}
use Rattle.overlaps.proofs.drop_repeats.Goals as goal

pub returns-then-is_empty : goal.returns-then-is_empty
returns-then-is_empty c = (omega arith, drop-none c.args.codes.now c.args.codes.now (eqb-true _ _ (sym c.is_empty.ensures ∙ c.if-is_empty.true)))

pub loop-r-preserved : goal.loop-r-preserved
loop-r-preserved c = let v = c.loop-r in
    elim c.if-codes-kept.branch [
      | then-codes-kept w ↦ rw (w.codes-is, w.kept-is) (drop-new c.args.codes.now v.codes v.kept v.r v.invariant c.loop-r-test.true c.requires w.if-codes-kept.true)
      | else-codes-kept w ↦ rw (w.codes-is, w.kept-is) (drop-same c.args.codes.now v.codes v.kept v.r v.invariant c.loop-r-test.true w.if-codes-kept.false)
    ]

pub returns : goal.returns
returns c = let v = c.loop-r in
    let i = v.invariant in
    (omega arith, drop-end c.args.codes.now v.codes v.kept v.r v.invariant (omega arith))
