-- `bytes_in::float_of` meets its contract. Assumes nothing.
use Rattle.bytes_in.proofs.Floats.{no_nan, the_nan}
use Rattle.bytes_in.proofs.float_of.Goals as goal

pub float_from_bits-result : goal.float_from_bits-result
float_from_bits-result c = no_nan _ _ c.bits_are_nan.ensures c.if-bits_are_nan.false

pub returns-then-bits_are_nan : goal.returns-then-bits_are_nan
returns-then-bits_are_nan c = the_nan _ _ c.bits_are_nan.ensures c.if-bits_are_nan.true
