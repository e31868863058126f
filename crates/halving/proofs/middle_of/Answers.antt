-- `halving::middle_of` meets its contract. Assumes nothing.
use Rattle.halving.proofs.middle_of.Goals as goal

pub middle-requires : goal.middle-requires
middle-requires c = let p = c.requires in let e = c.copy_values.ensures.after in (p.0, rw e p.1, rw e p.2)

pub returns : goal.returns
returns c = rw c.copy_values.ensures.after at c.middle.ensures
