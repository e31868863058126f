-- `quotas::deal` meets its contract: the laws of one sharing say what its steps need. Assumes nothing.
use mathlib.Core.Path.{◌≡◌}
use mathlib.Core.List.{List}
use Prim.Native.Nat.{ℕ, ◌≤◌, max}
use native.Mathlib.Omega.{arith}
use Rattle.lists.specs.Lists.{total}
use Rattle.definition.specs.Quotas.{size_at}
use Rattle.definition.specs.Refusals.{most_points}
use Rattle.quotas.specs.Sharing.{Sharing, capacities}
use Rattle.quotas.proofs.OneLeaf.{seat-cut-is}
use Rattle.quotas.proofs.deal.Goals as goal

-- what the sharing asks, from what the numbers are
shared : (sizes : List ℕ) (first rest capacity pool : ℕ) → ((j : ℕ) → size_at sizes j ≤ most_points) → first ≤ 1 → rest ≤ capacity → capacity ≤ most_points
    → total (capacities sizes first) ≡ capacity → pool ≡ max 1 capacity → Sharing sizes first rest pool
shared sizes first rest capacity pool fit one within small all e =
    record { sizes_fit = fit; first_fits = one; rest_fits = omega arith; within = omega arith; divisor = omega arith }

pub leftover-left-requires : goal.leftover-left-requires
leftover-left-requires c = let a = c.args in
    let e : c.max.result ≡ max 1 a.capacity = omega (arith, c.max.ensures) in
    shared a.sizes.now a.first a.rest a.capacity _ c.requires.0 c.requires.1 c.requires.2 c.requires.3 c.requires.4 e

pub hand_out-requires : goal.hand_out-requires
hand_out-requires c = let a = c.args in
    let e : c.max.result ≡ max 1 a.capacity = omega (arith, c.max.ensures) in
    let l = c.leftover-left.ensures in
    let k = c.cut-cut.ensures in
    let w = shared a.sizes.now a.first a.rest a.capacity _ c.requires.0 c.requires.1 c.requires.2 c.requires.3 c.requires.4 e in
    (w, l, c.count_above-taken.ensures, seat-cut-is a.sizes.now a.first a.rest _ w _ _ l k.0 k.1)

pub returns : goal.returns
returns c = c.hand_out.ensures
