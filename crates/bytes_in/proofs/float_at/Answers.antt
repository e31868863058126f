-- `bytes_in::float_at` meets its contract. Assumes nothing.
use mathlib.Core.Path.{ap, ◌∙◌}
use lib.Ieee.{of_bits, binary64}
use Rattle.bytes_in.proofs.float_at.Goals as goal

pub returns : goal.returns
returns c = c.float_of.ensures ∙ ap (of_bits binary64) c.bits_at.ensures
