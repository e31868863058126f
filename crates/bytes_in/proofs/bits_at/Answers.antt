-- `bytes_in::bits_at` meets its contract. Assumes nothing.
use mathlib.Core.Path.{◌∙◌}
use Rattle.bytes_in.proofs.Bytes.{eight_bytes, chunk-long, chunk-field}
use Rattle.bytes_in.proofs.bits_at.Goals as goal

pub returns : goal.returns
returns c = let at = c.args.at in
    let bs = c.args.input.now in
    let chunk = rw c.unwrap.ensures at c.first_chunk.ensures.cases in
    c.from_le_bytes.ensures ∙ eight_bytes _ (chunk-long 8 at bs chunk) ∙ chunk-field 8 at bs chunk
