-- `store_records::put_level` meets its contract. Assumes nothing.
use Rattle.bytes_out.proofs.Writing.{takes_first, takes_next, ◌▸◌}
use Rattle.formats.specs.Bytes.{numbers_bytes}
use Rattle.store_records.specs.Records.{level_record}
use Rattle.store_records.proofs.put_level.Goals as goal

pub put_counts-requires : goal.put_counts-requires
unfolding level_record numbers_bytes
put_counts-requires c = takes_first _ _ c.requires

pub fields-requires : goal.fields-requires
unfolding level_record numbers_bytes
fields-requires c = takes_next c.put_counts.ensures c.requires

pub returns : goal.returns
unfolding level_record numbers_bytes
returns c = c.put_counts.ensures ▸ c.fields.ensures
