use mathlib.Core.Path.{◌≡◌}
use Prim.Native.Nat.{◌≤◌}
use Rattle.definition.specs.Quotas.{remainder_at}
use Rattle.definition.specs.SeatCut.{above}
use Rattle.quotas.specs.Sharing.{capacities}
use Rattle.quotas.proofs.Terms.count_above.Given as goal

abbrev pub invariant-loop-w : goal.invariant-loop-w
invariant-loop-w l = (l.many ≤ l.w-index) × (l.many ≡ above l.w-index (remainder_at (capacities l.sizes l.self.first) l.self.rest) l.t)
