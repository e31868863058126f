-- `split` recurses on the two halves of the rows, which are fewer.
use lib.ListN.{length}
use Rattle.split.proofs.+split.Given as goal

abbrev pub decreases-split : goal.decreases-split
decreases-split l = length l.rows.now
