-- `bytes_in::byte_at` meets its contract. Assumes nothing.
use Rattle.bytes_in.proofs.Bytes.{byte-is}
use Rattle.bytes_in.proofs.byte_at.Goals as goal

pub returns : goal.returns
returns c = (byte-is c.args.input.now c.args.at c.requires, (c.type_inv.input c.args.at).fits)
