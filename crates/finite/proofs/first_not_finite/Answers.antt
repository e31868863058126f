-- `finite::first_not_finite` meets its contract: `position` finds the first bad value. Assumes nothing.
use Rattle.std.proofs.Common.{rules}
use Rattle.std.proofs.lemmas.Iterator.{YieldsList-from_slice}
use Rattle.std.proofs.lemmas.Iterator.Search.{position_from_yields_List}
use Rattle.finite.proofs.Positions.{bad, bad-found}
use Rattle.finite.proofs.first_not_finite.Goals as goal

pub returns : goal.returns
returns c = bad-found _ _ (position_from_yields_List bad _ _ c.position.result c.position.ensures.ran (YieldsList-from_slice _ c.iter.ensures.rest) (λ x b q k. search rules))
