-- `queue::put_halves` meets its contract. Assumes nothing.
use mathlib.Core.Path.{refl, ◌∙◌}
use native.Mathlib.Omega.{arith}
use Rattle.lists.proofs.Put.{put-next-at}
use Rattle.queue.proofs.put_halves.Goals as goal

pub returns : goal.returns
returns c = let l = c.halves.ensures.left in
    let r = c.halves.ensures.right in
    (rw (c.put_waiting.ensures, l.0, l.1, l.2, l.3, r.0, r.1, r.2, r.3) at c.put_waiting-2.ensures) ∙ put-next-at _ _ _ _ _ (omega arith) refl
