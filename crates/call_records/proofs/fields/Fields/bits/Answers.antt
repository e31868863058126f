-- `call_records::Fields::bits` meets its contract. Assumes nothing.
use mathlib.Core.Path.{◌∙◌, ap}
use Rattle.std.specs.Int.{w64, from_le_bytes}
use Rattle.call_records.proofs.Widths.{bits-front}
use Rattle.call_records.proofs.fields.Fields.bits.Goals as goal

pub returns : goal.returns
returns c =
    let (room, value, rest) = c.in_ok-take.ensures in
    (room, c.from_le_bytes.ensures ∙ ap (from_le_bytes w64) value ∙ bits-front c.args.self.now.rest.now room, rest)
