use Rattle.overlaps.proofs.Drops.{Dropped}
use Rattle.overlaps.proofs.drop_repeats.Given as goal

abbrev pub invariant-loop-r : goal.invariant-loop-r
invariant-loop-r l = Dropped l.initial.codes l.codes l.kept l.r
