-- `cut::longest_axis` meets its contract. The loop's invariant: `longest` is the first axis below `axis` with the longest extent, and
-- `e` is its extent. Assumes nothing.
use mathlib.Core.Path.{◌≡◌, ◌∙◌}
use mathlib.Core.Bool.{Bool}
use Prim.Native.Nat.{ℕ}
use native.Mathlib.Omega.{arith}
use lib.Ieee.{lt}
use Rattle.lists.proofs.Best.{best-below-first, best-below-yes, best-below-no}
use Rattle.definition.specs.Points.{extent}
use Rattle.definition.specs.Cut.{longest_axis_lem}
use Rattle.cut.proofs.longest_axis.Goals.{then-e-v, else-e-v}
use Rattle.cut.proofs.longest_axis.Goals as goal

pub loop-axis-init : goal.loop-axis-init
loop-axis-init c = (best-below-first _, rw c.column.ensures at c.extent_on-e.ensures)

pub loop-axis-preserved : goal.loop-axis-preserved
loop-axis-preserved c = let s = c in
    let a = s.args in
    let better : ℕ → ℕ → Bool = λ y z. lt (extent a.points.dimensions a.points.coordinates.now a.rows.now z) (extent a.points.dimensions a.points.coordinates.now a.rows.now y) in
    let i = s.loop-axis.invariant in
    let v = rw c.column-in-loop-axis.ensures at c.extent_on-v.ensures in
    elim c.if-e-v.branch [
      | then-e-v w ↦ (w.longest-is ∙ best-below-yes better s.loop-axis.axis s.loop-axis.longest c.loop-axis.auto.axis i.0 (rw (v, i.1) at w.if-e-v.true), w.e-is ∙ v ∙ rw w.longest-is)
      | else-e-v w ↦ (w.longest-is ∙ best-below-no better s.loop-axis.axis s.loop-axis.longest c.loop-axis.auto.axis i.0 (rw (v, i.1) at w.if-e-v.false), w.e-is ∙ i.1 ∙ rw w.longest-is)
    ]

pub returns : goal.returns
unfolding longest_axis_lem
returns c = let e : c.loop-axis.axis ≡ c.args.points.dimensions = omega arith in rw e at c.loop-axis.invariant.0
