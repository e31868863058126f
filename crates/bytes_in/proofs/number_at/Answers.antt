-- `bytes_in::number_at` meets its contract. Assumes nothing.
use mathlib.Core.Path.{◌∙◌}
use Rattle.bytes_in.proofs.Bytes.{four_bytes, chunk-long, chunk-field}
use Rattle.bytes_in.proofs.number_at.Goals as goal

pub returns : goal.returns
returns c = let at = c.args.at in
    let bs = c.args.input.now in
    let chunk = rw c.unwrap.ensures at c.first_chunk.ensures.cases in
    (c.from_le_bytes.ensures ∙ four_bytes _ (chunk-long 4 at bs chunk) ∙ chunk-field 4 at bs chunk, c.from_le_bytes.type_inv)
