use Rattle.row_sets.specs.Lent.{SameSets}
use Rattle.file_levels.proofs.LevelsInTurn.{LevelsTested}
use Rattle.file_levels.proofs.check_levels.Given as goal

abbrev pub invariant-loop-i : goal.invariant-loop-i
invariant-loop-i l = LevelsTested l.bytes l.at l.dimensions l.n l.sets.listed.now l.place l.least l.below l.domains l.borrowed l._i
    × SameSets l.initial.sets l.sets
