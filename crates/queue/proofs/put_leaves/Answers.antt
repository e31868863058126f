-- `queue::put_leaves` meets its contract. Assumes nothing.
use Rattle.queue.proofs.put_leaves.Goals as goal

pub returns : goal.returns
returns c = let l = c.halves.ensures.left in
    let r = c.halves.ensures.right in
    rw (c.put_own.ensures, l.0, l.1, l.2, r.0, r.1, r.2) at c.put_own-2.ensures
