-- `cut::extent_on` meets its contract. Assumes nothing.
use mathlib.Core.Path.{ap₂}
use lib.Ieee.{Float}
use Rattle.definition.specs.Number.{minus}
use Rattle.definition.specs.Points.{extent}
use Rattle.cut.proofs.extent_on.Goals as goal

pub returns : goal.returns
unfolding extent
returns c = ap₂ (λ (x y : Float). minus x y) c.upper_bound.ensures c.lower_bound.ensures
