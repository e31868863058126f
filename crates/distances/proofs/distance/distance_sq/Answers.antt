-- `distances::distance_sq` meets its contract. Assumes nothing.
use mathlib.Core.Path.{◌∙◌}
use Rattle.distances.proofs.Turns.{rows-square}
use Rattle.distances.proofs.distance.distance_sq.Goals as goal

pub returns : goal.returns
returns c = let p = c.args.points in
    let i = c.point.ensures in
    let j = c.point-2.ensures in
    c.distance_sq_between.ensures ∙ rows-square p.dimensions p.coordinates.now _ _ _ _ i.coordinates i.number j.coordinates
