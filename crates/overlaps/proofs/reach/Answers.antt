-- `overlaps::reach` meets its contract: `position` finds the first that is no less. Assumes nothing.
use Rattle.std.proofs.Common.{nat_le, rules}
use Rattle.std.proofs.lemmas.Iterator.{YieldsList-from_slice}
use Rattle.std.proofs.lemmas.Iterator.Search.{position_from_yields_List}
use Rattle.overlaps.proofs.Reaches.{reached}
use Rattle.overlaps.proofs.reach.Goals as goal

pub returns : goal.returns
returns c = let a = c.args in
    let l = a.codes.now in
    let p = c.position-passed in
    let found = position_from_yields_List (nat_le a.limit) _ _ p.result p.ensures.ran (YieldsList-from_slice _ c.iter.ensures.rest) (λ x b q k. search rules) in
    rw c.unwrap_or.ensures (reached l a.from a.limit p.result c.requires found)
