-- `store_records::put_counts` meets its contract. Assumes nothing.
use native.Mathlib.Omega.{arith}
use Rattle.bytes_out.proofs.Writing.{takes_first, takes_next, ◌▸◌}
use Rattle.store_records.specs.Records.{counts_bytes}
use Rattle.store_records.proofs.put_counts.Goals as goal

pub mark-requires : goal.mark-requires
unfolding counts_bytes
mark-requires c = record { fits = omega (arith, c.requires.fits) }

pub field-requires : goal.field-requires
unfolding counts_bytes
field-requires c = takes_next c.mark.ensures (takes_first _ _ c.requires)

pub field-requires-2 : goal.field-requires-2
unfolding counts_bytes
field-requires-2 c = takes_next (c.mark.ensures ▸ c.field.ensures) c.requires

pub returns : goal.returns
unfolding counts_bytes
returns c = c.mark.ensures ▸ c.field.ensures ▸ c.field-2.ensures
