use mathlib.Core.Path.{◌≡◌}
use mathlib.Core.List.{◌++◌, map}
use Prim.Native.Nat.{◌-◌}
use lib.ListN.{drop}
use Rattle.lists.specs.Lists.{from}
use Rattle.definition.specs.Quotas.{remainder_at}
use Rattle.definition.specs.SeatCut.{ties}
use Rattle.quotas.specs.Sharing.{capacities, quota_at}
use Rattle.quotas.proofs.Terms.hand_out.Given as goal

abbrev pub invariant-loop-w : goal.invariant-loop-w
invariant-loop-w l = (l.at_cut ≡ l.left - l.taken - ties l.w-index (remainder_at (capacities l.initial.sizes l.self.first) l.self.rest) l.cut) × (l.sizes ≡ map (quota_at l.initial.sizes l.self.first l.self.rest) (from 0 l.w-index) ++ drop l.w-index l.initial.sizes)
