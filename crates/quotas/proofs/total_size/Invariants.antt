use mathlib.Core.Path.{◌≡◌}
use Prim.Native.Nat.{◌≤◌}
use lib.ListN.{take}
use Rattle.lists.specs.Lists.{total}
use Rattle.definition.specs.Refusals.{most_points}
use Rattle.quotas.proofs.total_size.Given as goal

abbrev pub invariant-loop-w : goal.invariant-loop-w
invariant-loop-w l = (l.sum ≡ total (take l.w-index l.sizes)) × (l.sum ≤ most_points)
