use lib.ListN.{length}
use Rattle.queue.proofs.Loop.{cuts_left}
use Rattle.queue.proofs.View.{room_in}
use Rattle.tree_lists.specs.Lent.{SameRecords}
use Rattle.leaves.proofs.Turns.{Run, KeptLengths}
use Rattle.leaves.proofs.cut_leaves.Given as goal

abbrev pub invariant-loop-head : goal.invariant-loop-head
invariant-loop-head l = Run l.points.dimensions l.points.coordinates.now l.leaf l.initial.rows l.initial.domains l.initial.boxes l.initial.wholes l.initial.floats l.initial.records.cuts.now l.initial.records.planes.now l.from l.first l.fn.start.node l.rows l.wholes l.domains l.floats l.boxes l.records.cuts.now l.records.planes.now l.head l.tail l.done l.k
    × KeptLengths l.initial.wholes l.initial.domains l.initial.records.cuts.now l.initial.floats l.initial.boxes l.wholes l.domains l.floats l.boxes
    × SameRecords l.initial.records l.records

abbrev pub decreases-loop-head : goal.decreases-loop-head
decreases-loop-head l = cuts_left (room_in (length l.initial.rows) l.wholes) l.head l.tail
