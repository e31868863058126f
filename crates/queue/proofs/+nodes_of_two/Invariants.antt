-- `nodes_of_two` recurses on half the size.
use Rattle.queue.proofs.+nodes_of_two.Given as goal

abbrev pub decreases-nodes_of_two : goal.decreases-nodes_of_two
decreases-nodes_of_two l = l.size
