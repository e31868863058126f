-- `store_records::put_head` meets its contract. Assumes nothing.
use native.Mathlib.Omega.{arith}
use Rattle.bytes_out.proofs.Writing.{takes_first, takes_next, ◌▸◌}
use Rattle.stored.specs.File.{head_bytes_lem}
use Rattle.store_records.proofs.put_head.Goals as goal

pub mark-requires : goal.mark-requires
unfolding head_bytes_lem
mark-requires c = record { fits = omega (arith, c.requires.fits) }

pub put_settings-requires : goal.put_settings-requires
unfolding head_bytes_lem
put_settings-requires c = takes_next c.mark.ensures (takes_first _ _ c.requires)

pub field-requires : goal.field-requires
unfolding head_bytes_lem
field-requires c = takes_next (c.mark.ensures ▸ c.put_settings.ensures) c.requires

pub returns : goal.returns
unfolding head_bytes_lem
returns c = c.mark.ensures ▸ c.put_settings.ensures ▸ c.field.ensures
