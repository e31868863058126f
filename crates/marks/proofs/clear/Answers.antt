-- `marks::clear` meets its contract: each word is 0. Assumes nothing.
use Rattle.marks.proofs.Marks.{marked-zeros}
use Rattle.marks.proofs.clear.Goals as goal

pub returns : goal.returns
returns c = rw (c.fill.ensures.after (λ y e. e)) (marked-zeros _)
