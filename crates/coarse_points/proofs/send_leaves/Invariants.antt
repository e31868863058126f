use mathlib.Core.Path.{◌≡◌}
use lib.ListN.{length, take}
use Rattle.lists.specs.Lists.{put}
use Rattle.coarse_points.specs.Sent.{sent_at, covers_at}
use Rattle.coarse_points.proofs.send_leaves.Given as goal

abbrev pub invariant-loop-l : goal.invariant-loop-l
invariant-loop-l l = (l.start ≡ length (sent_at l.points.dimensions l.points.coordinates.now l.leaves.internals.now l.leaves.domains.now l.leaves.first l.shares l.l))
    × (l.sent ≡ put l.initial.sent 0 (sent_at l.points.dimensions l.points.coordinates.now l.leaves.internals.now l.leaves.domains.now l.leaves.first l.shares l.l))
    × (take l.l l.covers ≡ covers_at l.points.dimensions l.points.coordinates.now l.leaves.internals.now l.leaves.domains.now l.leaves.first l.shares l.l)
