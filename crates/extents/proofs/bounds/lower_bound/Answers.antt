-- `extents::lower_bound` meets its contract. Assumes nothing.
use mathlib.Core.Path.{◌∙◌}
use borrow.Author.Rules.{rules}
use Rattle.extents.proofs.Firsts.{least-is}
use Rattle.extents.proofs.bounds.lower_bound.Goals as goal

pub returns : goal.returns
returns c = c.bound.ensures _ (λ v w r p. search rules) ∙ least-is _
