-- `distances::argmax` meets its contract. Assumes nothing.
use mathlib.Core.Path.{◌∙◌}
use borrow.Author.Rules.{rules}
use lib.Ieee.{lt}
use Rattle.distances.proofs.Firsts.{farthest-place}
use Rattle.distances.proofs.places.argmax.Goals as goal

pub returns : goal.returns
returns c = c.place.ensures (λ x y. lt y x) (λ v w r p. search rules) ∙ farthest-place _ _
