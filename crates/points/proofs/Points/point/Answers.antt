-- `points::Points::point` meets its contract. Assumes nothing.
use Prim.Native.Nat.{◌*◌}
use Rattle.lists.proofs.Put.{part-lent}
use Rattle.points.proofs.Points.point.Goals as goal

pub returns-clause-coordinates : goal.returns-clause-coordinates
returns-clause-coordinates c = let a = c.args.self in
    part-lent a.coordinates.now (c.args.row * a.dimensions) a.dimensions
