-- `overlap_owners::position` meets its contract: the rows before the position are lower, those from it on are not. Assumes nothing.
use lib.Dec.{ltb}
use Rattle.std.proofs.lemmas.List.Sorted.{IsPartitionPoint-from_clause}
use borrow.Author.Rules.{rules}
use Rattle.overlap_owners.proofs.Bisect.{lower-first, lower-end}
use Rattle.overlap_owners.proofs.position.Goals as goal

pub returns : goal.returns
returns c =
    let row = c.args.row in
    let point = IsPartitionPoint-from_clause (λ y. ltb y row) c.args.active.now _ c.partition_point.ensures.partitioned (lower-first c.args.active.now c.requires.0 row) (λ a r q k. search rules) in
    lower-end c.args.active.now c.requires.0 row c.requires.1 c.partition_point.result point
