-- `overlaps::write_rows` meets its contract. Assumes nothing.
use native.Mathlib.Omega.{arith}
use Rattle.overlaps.proofs.Rows.{coded_none, coded-more, coded-end}
use Rattle.overlaps.proofs.write_rows.Goals as goal

pub loop-k-init : goal.loop-k-init
loop-k-init c = let a = c.args in coded_none a.codes.now a.active.now a.borrowed.now a.bat c.requires.0

pub loop-k-preserved : goal.loop-k-preserved
loop-k-preserved c = let a = c.args in
    rw c.position_of.ensures
    (coded-more a.codes.now a.active.now a.borrowed.now a.bat c.requires.0 c.loop-k.borrowed c.loop-k.k c.loop-k-test.true c.loop-k.invariant)

pub returns : goal.returns
returns c = let a = c.args in
    coded-end a.codes.now a.active.now a.borrowed.now a.bat c.requires.0 c.loop-k.borrowed c.loop-k.k (omega arith) c.loop-k-test.false c.loop-k.invariant
