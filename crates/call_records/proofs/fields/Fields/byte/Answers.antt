-- `call_records::Fields::byte` meets its contract. Assumes nothing.
use mathlib.Core.Path.{◌∙◌, ap}
use lib.ListN.{get_or}
use Rattle.call_records.proofs.Widths.{byte-front}
use Rattle.call_records.proofs.fields.Fields.byte.Goals as goal

pub returns : goal.returns
returns c =
    let (room, value, rest) = c.in_ok-byte.ensures in
    (room, ap (λ field. get_or field 0 0) value ∙ byte-front c.args.self.now.rest.now room, rest)
