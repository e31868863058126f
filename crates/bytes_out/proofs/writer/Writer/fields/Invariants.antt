use Rattle.bytes_out.specs.Writing.{Appends}
use Rattle.lists.specs.Lists.{joined}
use lib.ListN.{take}
use mathlib.Core.List.{map}
use Rattle.bytes_out.proofs.writer.Writer.fields.Given as goal

abbrev pub invariant-loop-x : goal.invariant-loop-x
invariant-loop-x g l = Appends l.initial.self l.self (joined (map g.T.Field.bytes (take l.x-index l.xs)))
