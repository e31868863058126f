use mathlib.Core.Path.{◌≡◌}
use lib.ListN.{take}
use Rattle.lists.specs.Lists.{put}
use Rattle.overlaps.specs.Codes.{coded_rows}
use Rattle.overlaps.proofs.write_rows.Given as goal

abbrev pub invariant-loop-k : goal.invariant-loop-k
invariant-loop-k l = l.borrowed ≡ put l.initial.borrowed l.bat (coded_rows l.active (take l.k l.codes))
