-- `extents::upper_bound` meets its contract. Assumes nothing.
use mathlib.Core.Path.{◌∙◌}
use borrow.Author.Rules.{rules}
use Rattle.extents.proofs.Firsts.{greatest-is}
use Rattle.extents.proofs.bounds.upper_bound.Goals as goal

pub returns : goal.returns
returns c = c.bound.ensures _ (λ v w r p. search rules) ∙ greatest-is _
