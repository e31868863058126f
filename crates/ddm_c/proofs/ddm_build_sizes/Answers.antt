-- `ddm_c::ddm_build_sizes` meets its contract. Assumes nothing.
use Rattle.build_sizes.specs.Sizes.{sizes_report}
use Rattle.slots.proofs.Told.{told-short, told-long}
use Rattle.ddm_c.proofs.ddm_build_sizes.Goals as goal

pub returns-then-res-lt-SIZES : goal.returns-then-res-lt-SIZES
returns-then-res-lt-SIZES c = rw c.number.ensures (told-short _ _ _ _ c.if-res-lt-SIZES.true)

pub returns : goal.returns
returns c = told-long 9 _ _ _ _ (sizes_report c.build_sizes.result) _ c.if-res-lt-SIZES.false c.put_sizes.ensures.number c.put_sizes.ensures.slot c.build_sizes.ensures
