-- `boxes::put_zeros` meets its contract. Assumes nothing.
use Rattle.lists.proofs.Lent.{fill-back}
use Rattle.boxes.proofs.put_zeros.Goals as goal

pub returns : goal.returns
returns c = fill-back _ _ _ _ c.requires (c.fill.ensures.after (λ y e. e))
