-- `coarse_points::leaf_quotas` meets its contract: the sizes are shared out in place. Assumes nothing.
use mathlib.Core.Path.{ap, ◌∙◌}
use mathlib.Core.List.{List}
use Prim.Native.Nat.{ℕ}
use Rattle.definition.specs.Quotas.{quotas_for}
use Rattle.coarse_points.proofs.leaf_quotas.Goals as goal

pub returns : goal.returns
returns c = c.share_in_place.ensures ∙ ap (λ (z : List ℕ). quotas_for z c.args.size) c.copy_sizes.ensures
