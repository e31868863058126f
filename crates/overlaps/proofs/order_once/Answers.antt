-- `overlaps::order_once` meets its contract. Assumes nothing.
use lib.ListN.{take}
use Rattle.lists.proofs.Same.{same_length as same_size}
use Rattle.overlaps.proofs.Lends.{same-distinct}
use native.Mathlib.Omega.{arith}
use Rattle.overlaps.proofs.order_once.Goals as goal

pub returns : goal.returns
returns c = let old = c.args.codes.now in
    let f = c.drop_repeats in
    let g = c.sort in (
      omega (arith, f.ensures.0, same_size g.new.list old g.ensures.1),
      same-distinct old g.new.list (take f.result f.new.codes) g.ensures.1 f.ensures.1,
    )
