-- `store_records::put_bounds` meets its contract. Assumes nothing.
use mathlib.Core.Path.{sym}
use native.Mathlib.Omega.{arith}
use Rattle.bytes_out.proofs.Writing.{nothing_yet, spelt_as, takes_as}
use Rattle.store_records.proofs.Parts.{no-bounds, all-bounds}
use Rattle.store_records.proofs.put_bounds.Goals as goal

pub returns-then-coarse : goal.returns-then-coarse
returns-then-coarse c = spelt_as (sym (no-bounds _ _ c.if-coarse.true)) (nothing_yet _ (omega (arith, c.requires.fits)))

pub fields-requires : goal.fields-requires
fields-requires c = takes_as (all-bounds _ _ c.if-coarse.false) c.requires

pub returns : goal.returns
returns c = spelt_as (sym (all-bounds _ _ c.if-coarse.false)) c.fields.ensures
