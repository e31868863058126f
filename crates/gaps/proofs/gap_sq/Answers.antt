-- `gaps::gap_sq` meets its contract. The invariant: the sum is the gap on the axes passed. Assumes nothing.
use mathlib.Core.Path.{◌∙◌}
use native.Mathlib.Omega.{arith}
use Rattle.gaps.proofs.Axes.{gap-first, gap-more, gap-all}
use Rattle.gaps.proofs.gap_sq.Goals as goal

pub loop-axis-init : goal.loop-axis-init
loop-axis-init c = let a = c.args in
    gap-first a.points.dimensions a.points.coordinates.now a.whole a.row

pub loop-axis-preserved : goal.loop-axis-preserved
loop-axis-preserved c = let a = c.args in
    c.add_square-sum.ensures ∙ gap-more a.points.dimensions a.points.coordinates.now a.whole a.row c.requires.2 (omega (arith, c.well_formed)) c.requires.0
    c.loop-axis.axis _ _ _ c.loop-axis-test.true c.loop-axis.invariant c.coordinate-x.ensures c.clamp-nearest.ensures

pub returns : goal.returns
returns c = let a = c.args in
    gap-all a.points.dimensions a.points.coordinates.now a.whole a.row
    c.loop-axis.axis c.loop-axis.sum c.loop-axis.auto.axis-end c.loop-axis-test.false c.loop-axis.invariant
