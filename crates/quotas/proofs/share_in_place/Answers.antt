-- `quotas::share_in_place` meets its contract: where the seats reach the nonempty leaves each of these gets one first, and the rest is
-- dealt. Assumes nothing.
use mathlib.Core.Path.{sym, ap, ◌∙◌}
use native.Mathlib.Omega.{arith}
use Rattle.lists.specs.Lists.{total}
use Rattle.lists.proofs.Sums.{total-at}
use Rattle.definition.proofs.Fairness.{capacity-one, capacity-none, for-each, for-none}
use Rattle.quotas.proofs.share_in_place.Goals as goal

pub deal-requires : goal.deal-requires
deal-requires c = let a = c.args in (
  (λ j. omega (arith, total-at a.sizes.now j, c.requires.0, c.requires.1)),
  omega arith,
  omega (arith, c.requires.2),
  omega (arith, c.requires.1),
  omega (arith, c.count_nonempty-d.ensures, capacity-one a.sizes.now, c.requires.0),
)

pub deal-requires-else-d-s : goal.deal-requires-else-d-s
deal-requires-else-d-s c = let a = c.args in (
  (λ j. omega (arith, total-at a.sizes.now j, c.requires.0, c.requires.1)),
  omega arith,
  c.requires.2,
  c.requires.1,
  ap total (capacity-none a.sizes.now) ∙ sym c.requires.0,
)

pub returns-then-d-s : goal.returns-then-d-s
returns-then-d-s c = c.deal.ensures
    ∙ for-each c.args.sizes.now c.args.s c.count_nonempty-d.result c.count_nonempty-d.ensures c.if-d-s.true

pub returns-else-d-s : goal.returns-else-d-s
returns-else-d-s c = c.deal-else-d-s.ensures
    ∙ for-none c.args.sizes.now c.args.s c.count_nonempty-d.result c.count_nonempty-d.ensures c.if-d-s.false
