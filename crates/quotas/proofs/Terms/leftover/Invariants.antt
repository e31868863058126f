use mathlib.Core.Path.{◌≡◌}
use mathlib.Core.List.{map}
use Prim.Native.Nat.{◌-◌}
use Rattle.lists.specs.Lists.{total, from}
use Rattle.definition.specs.Quotas.{whole_at}
use Rattle.quotas.specs.Sharing.{capacities}
use Rattle.quotas.proofs.Terms.leftover.Given as goal

abbrev pub invariant-loop-w : goal.invariant-loop-w
invariant-loop-w l = (l.left ≡ l.self.rest - total (map (whole_at (capacities l.sizes l.self.first) l.self.rest) (from 0 l.w-index)))
