-- `FileReader::counts` meets its contract. Assumes nothing.
use mathlib.Core.Path.{sym, ◌∙◌}
use Rattle.file_reader.proofs.Fetches.{number-here}
use Rattle.file_reader.proofs.FileReader.counts.Goals as goal

pub returns : goal.returns
returns c = let here = number-here c.args.self.at c.args.self.bytes.now in
    let first = c.number_at-first.ensures in
    let second = c.number_at-second.ensures in
    record { stands = sym c.if-not-record_at.false ∙ c.record_at.ensures; counts = (first.0 ∙ here 2, second.0 ∙ here 6, first.1, second.1) }
