-- `distances::get_distance` meets its contract. Assumes nothing.
use mathlib.Core.Path.{ap, ◌∙◌}
use Rattle.definition.specs.Number.{square_root_lem}
use Rattle.definition.specs.Points.{distance, rows_sq, rows_apart}
use Rattle.distances.proofs.distance.get_distance.Goals as goal

pub returns : goal.returns
unfolding rows_apart distance rows_sq
returns c = c.root.ensures ∙ ap square_root_lem c.distance_sq.ensures
