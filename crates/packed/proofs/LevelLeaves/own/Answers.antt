-- `packed::LevelLeaves::own` meets its contract. Assumes nothing.
use mathlib.Core.Path.{◌∙◌}
use Prim.Native.Nat.{◌+◌}
use Rattle.lists.proofs.Put.{part-lent}
use Rattle.packed.proofs.OwnRows.{row-own}
use Rattle.packed.proofs.LevelLeaves.own.Goals as goal

pub returns : goal.returns
returns c = let a = c.args.self in
    let row = c.row-row.result in
    part-lent a.internals.now row.internal_start row.internal_count ∙ row-own a.internals.now a.domains.now (a.first + c.args.l) row c.row-row.ensures
