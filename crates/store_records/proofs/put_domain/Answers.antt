-- `store_records::put_domain` meets its contract. Assumes nothing.
use mathlib.Core.Path.{sym}
use Rattle.bytes_out.proofs.Writing.{spelt_as, takes_as, takes_first, takes_next, ◌▸◌}
use Rattle.store_records.proofs.Parts.{domain-parts}
use Rattle.store_records.proofs.put_domain.Goals as goal

pub put_counts-requires : goal.put_counts-requires
put_counts-requires c = takes_first _ _ (takes_first _ _ (takes_first _ _ (takes_first _ _ (takes_first _ _ (takes_as (domain-parts c.args.coarse _ _ c.leaf-leaf.ensures) c.requires.room_for)))))

pub fields-requires : goal.fields-requires
fields-requires c = takes_next c.put_counts.ensures (takes_first _ _ (takes_first _ _ (takes_first _ _ (takes_first _ _ (takes_as (domain-parts c.args.coarse _ _ c.leaf-leaf.ensures) c.requires.room_for)))))

pub fields-requires-2 : goal.fields-requires-2
fields-requires-2 c = takes_next (c.put_counts.ensures ▸ c.fields.ensures) (takes_first _ _ (takes_first _ _ (takes_first _ _ (takes_as (domain-parts c.args.coarse _ _ c.leaf-leaf.ensures) c.requires.room_for))))

pub put_bounds-requires : goal.put_bounds-requires
put_bounds-requires c = takes_next (c.put_counts.ensures ▸ c.fields.ensures ▸ c.fields-2.ensures) (takes_first _ _ (takes_first _ _ (takes_as (domain-parts c.args.coarse _ _ c.leaf-leaf.ensures) c.requires.room_for)))

pub field-requires : goal.field-requires
field-requires c = takes_next (c.put_counts.ensures ▸ c.fields.ensures ▸ c.fields-2.ensures ▸ c.put_bounds.ensures) (takes_first _ _ (takes_as (domain-parts c.args.coarse _ _ c.leaf-leaf.ensures) c.requires.room_for))

pub field-requires-2 : goal.field-requires-2
field-requires-2 c = takes_next (c.put_counts.ensures ▸ c.fields.ensures ▸ c.fields-2.ensures ▸ c.put_bounds.ensures ▸ c.field.ensures) (takes_as (domain-parts c.args.coarse _ _ c.leaf-leaf.ensures) c.requires.room_for)

pub returns : goal.returns
returns c = spelt_as (sym (domain-parts c.args.coarse _ _ c.leaf-leaf.ensures)) (c.put_counts.ensures ▸ c.fields.ensures ▸ c.fields-2.ensures ▸ c.put_bounds.ensures ▸ c.field.ensures ▸ c.field-2.ensures)
