-- `store_bytes::put_whole_level` meets its contract. Assumes nothing.
use mathlib.Core.Path.{sym}
use Rattle.bytes_out.proofs.Writing.{spelt_as, takes_as, takes_first, takes_next, ◌▸◌}
use Rattle.packed.specs.View.{packed_of}
use Rattle.store_bytes.proofs.Runs.{level-run}
use Rattle.store_bytes.proofs.put_whole_level.Goals as goal

pub put_level-requires : goal.put_level-requires
put_level-requires c = takes_first _ _ (takes_as (level-run c.args.coarse (packed_of c.args.tree) c.args.rows.now c.args.j c.args.m) c.requires.room_for)

pub put_domains-requires : goal.put_domains-requires
put_domains-requires c = record { by_index = c.requires.by_index; room_for = takes_next c.put_level.ensures (takes_as (level-run c.args.coarse (packed_of c.args.tree) c.args.rows.now c.args.j c.args.m) c.requires.room_for) }

pub returns : goal.returns
returns c = spelt_as (sym (level-run c.args.coarse (packed_of c.args.tree) c.args.rows.now c.args.j c.args.m)) (c.put_level.ensures ▸ c.put_domains.ensures)
