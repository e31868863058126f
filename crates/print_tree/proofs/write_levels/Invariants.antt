use Rattle.print_tree.proofs.Levels.{front_text}
use Rattle.packed.specs.View.{packed_of}
use Rattle.bytes_out.specs.Writing.{Appends}
use Rattle.lists.specs.Lists.{total}
use lib.ListN.{take}
use mathlib.Core.Path.{◌≡◌}
use Rattle.print_tree.proofs.write_levels.Given as goal

abbrev pub invariant-loop-t : goal.invariant-loop-t
invariant-loop-t l = (l.a ≡ total (take l.t l.tree.rows.now)) × (l.j ≡ total (take l.t l.tree.domains.now)) × Appends l.initial.out l.out (front_text (packed_of l.tree.leaves) l.tree.level_points.now l.tree.rows.now l.tree.domains.now l.t)
