-- One digit fewer. Assumes nothing.
use Rattle.print_texts.proofs.+write_hex.Given as goal

abbrev pub decreases-write_hex : goal.decreases-write_hex
decreases-write_hex l = l.k
