-- `call_records::Fields::word` meets its contract. Assumes nothing.
use mathlib.Core.Path.{◌∙◌, ap}
use Rattle.std.specs.Int.{w32, from_le_bytes}
use Rattle.call_records.proofs.Widths.{word-front}
use Rattle.call_records.proofs.fields.Fields.word.Goals as goal

pub returns : goal.returns
returns c =
    let (room, value, rest) = c.in_ok-take.ensures in
    (room, c.from_le_bytes.ensures ∙ ap (from_le_bytes w32) value ∙ word-front c.args.self.now.rest.now room, rest)
