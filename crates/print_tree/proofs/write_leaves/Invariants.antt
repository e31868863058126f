use Rattle.print_tree.proofs.Grow.{fine_text}
use Rattle.packed.specs.View.{packed_of}
use Rattle.bytes_out.specs.Writing.{Appends}
use Rattle.print_tree.proofs.write_leaves.Given as goal

abbrev pub invariant-loop-i : goal.invariant-loop-i
invariant-loop-i l = Appends l.initial.out l.out (fine_text (packed_of l.tree) l.j l.i)
