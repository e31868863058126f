use mathlib.Core.Path.{◌≡◌}
use Prim.Native.Nat.{ℕ, ◌<◌}
use lib.ListN.{take, get_or}
use Rattle.cut_index.specs.Filed.{position_in}
use Rattle.overlap_owners.specs.Own.{Written}
use Rattle.overlap_owners.proofs.mark_leaf.Given as goal

abbrev pub invariant-loop-k : goal.invariant-loop-k
invariant-loop-k l =
    Written l.active (take l.k l.rows) l.leaf l.initial.wholes l.wholes
    × ((j : ℕ) → j < l.k → get_or l.positions j 0 ≡ position_in l.active (get_or l.rows j 0))
