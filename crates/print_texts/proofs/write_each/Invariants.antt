use Rattle.bytes_out.specs.Writing.{Appends}
use Rattle.lists.specs.Lists.{joined}
use lib.ListN.{take}
use mathlib.Core.List.{map}
use Rattle.print_texts.proofs.write_each.Given as goal

abbrev pub invariant-loop-x : goal.invariant-loop-x
invariant-loop-x g l = Appends l.initial.out l.out (joined (map g.T.Printed.text (take l.x-index l.xs)))
