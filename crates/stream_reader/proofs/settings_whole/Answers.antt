-- `stream_reader::settings_whole` meets its contract. Assumes nothing.
use mathlib.Core.Path.{sym, ◌∙◌}
use Rattle.formats.specs.Stream.{settings_mark, settings_size}
use Rattle.bytes_in.proofs.Bytes.{record-room}
use borrow.Author.Rules.{rules}
use Rattle.stream_reader.proofs.settings_whole.Goals as goal

pub policy_fits-requires : goal.policy_fits-requires
policy_fits-requires c = record-room settings_mark settings_size 0 c.args.input.now (search rules) (sym c.record_at.ensures ∙ c.if-record_at.true)
