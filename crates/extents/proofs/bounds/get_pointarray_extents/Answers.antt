-- `extents::get_pointarray_extents` meets its contract. Assumes nothing.
use mathlib.Core.Path.{refl, ap, ◌∙◌}
use Rattle.boxes.proofs.Boxed.{filled_none, filled_more, filled-all}
use Rattle.definition.specs.Points.{lower_bound_lem, upper_bound_lem}
use Rattle.extents.proofs.bounds.get_pointarray_extents.Goals as goal

pub loop-axis-init : goal.loop-axis-init
loop-axis-init c = filled_none _ _ _ _ _ refl refl

pub loop-axis-preserved : goal.loop-axis-preserved
loop-axis-preserved c = let turn = c in
    let s = turn in
    filled_more turn.loop-axis.invariant c.lower_bound.result c.upper_bound.result turn.loop-axis-test.true s.requires.0
    (c.lower_bound.ensures ∙ ap (λ k. lower_bound_lem k.points.dimensions k.points.coordinates.now c.args.rows.now k.axis) c.column-column.ensures)
    (c.upper_bound.ensures ∙ ap (λ k. upper_bound_lem k.points.dimensions k.points.coordinates.now c.args.rows.now k.axis) c.column-column.ensures)

pub returns : goal.returns
returns c = (refl, filled-all c.loop-axis.invariant c.loop-axis-test.false)
