-- `printing::Numbers` prints as its contract says. Assumes nothing.
use Rattle.std.proofs.Common.{rules}
use Rattle.std.proofs.Output.{has_written_append, has_written_of_eq}
use Rattle.printing.specs.Texts.{numbers_text}
use Rattle.printing.proofs.NumberTexts.{numbers-more}
use Rattle.printing.proofs.NumbersDisplay.fmt.Goals as goal

pub loop-n-init : goal.loop-n-init
unfolding numbers_text
loop-n-init g c = search rules

pub loop-n-preserved : goal.loop-n-preserved
loop-n-preserved g c p =
    has_written_of_eq _ _ _ _ _ (numbers-more c.args.self.now.0.now c.loop-n.n-index (search rules))
    (has_written_append _ _ _ _ _ _ (c.loop-n.invariant p) (search rules))
