-- `bytes_in::bits_are_nan` meets its contract. Assumes nothing.
use Rattle.bytes_in.proofs.Floats.{nan-above}
use Rattle.bytes_in.proofs.bits_are_nan.Goals as goal

pub returns : goal.returns
returns c = nan-above c.args.bits
