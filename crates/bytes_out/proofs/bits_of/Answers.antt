-- `bytes_out::bits_of` meets its contract. Assumes nothing.
use Rattle.bytes_out.proofs.Nan.{bits-nan}
use mathlib.Core.Path.{sym, ◌∙◌}
use Rattle.bytes_out.proofs.bits_of.Goals as goal

pub returns-then-is_nan : goal.returns-then-is_nan
returns-then-is_nan c = bits-nan _ (sym c.is_nan.ensures.value ∙ c.if-is_nan.true)
