use mathlib.Core.Path.{◌≡◌}
use lib.ListN.{take}
use Rattle.coarse_points.specs.Sent.{counts_at}
use Rattle.coarse_points.proofs.copy_sizes.Given as goal

abbrev pub invariant-loop-l : goal.invariant-loop-l
invariant-loop-l l = take l.l l.shares ≡ counts_at l.leaves.domains.now l.leaves.first l.l
