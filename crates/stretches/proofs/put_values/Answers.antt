-- `stretches::put_values` meets its contract. Assumes nothing.
use mathlib.Core.Path.{ap, ◌∙◌}
use lib.ListN.{length}
use Rattle.lists.specs.Lists.{put}
use Rattle.lists.proofs.Put.{part-back}
use Rattle.stretches.proofs.put_values.Goals as goal

pub returns : goal.returns
returns g c = let e = c.copy_values.ensures in
    let a = c.args in
    part-back _ _ _ _ (ap length e.after) ∙ ap (put a.list.now a.at) e.after
