use Rattle.bytes_out.proofs.Writing.{Left}
use Rattle.lists.specs.Lists.{joined, total, from}
use Rattle.packed.specs.Reading.{read_level, read_levels}
use Rattle.packed.specs.View.{packed_of}
use Rattle.stored.specs.File.{tree_records}
use lib.ListN.{take}
use Prim.Native.Nat.{◌-◌}
use mathlib.Core.Path.{◌≡◌}
use mathlib.Core.List.{map}
use Rattle.store_bytes.proofs.put_levels.Given as goal

abbrev pub invariant-loop-t : goal.invariant-loop-t
invariant-loop-t l = let p = packed_of l.tree.leaves in
    (l.a ≡ total (take l.t l.tree.rows.now)) × (l.j ≡ total (take l.t l.tree.domains.now))
    × Left l.initial.out l.out (joined (tree_records (read_levels p l.tree.level_points.now l.tree.rows.now l.tree.domains.now l.tree.levels)))
    (tree_records (map (read_level p l.tree.level_points.now l.tree.rows.now l.tree.domains.now) (from l.t (l.tree.levels - l.t))))
