-- `distances::argmin` meets its contract. Assumes nothing.
use mathlib.Core.Path.{◌∙◌}
use borrow.Author.Rules.{rules}
use lib.Ieee.{lt}
use Rattle.distances.proofs.Firsts.{nearest-place}
use Rattle.distances.proofs.places.argmin.Goals as goal

pub returns : goal.returns
returns c = c.place.ensures (λ x y. lt x y) (λ v w r p. search rules) ∙ nearest-place _ _
