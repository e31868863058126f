-- `closing::move_point` meets its contract. The loop's invariant: the coordinates passed are copied. Assumes nothing.
use mathlib.Core.Path.{◌≡◌}
use native.Mathlib.Omega.{arith}
use lib.Ieee.{nan}
use Rattle.closing.proofs.Moves.{copy-none, copy-down}
use Rattle.closing.proofs.move_point.Goals as goal

pub loop-i-init : goal.loop-i-init
loop-i-init c = copy-none _ _ _

pub loop-i-preserved : goal.loop-i-preserved
loop-i-preserved c = let P = c.args in
    let l = c.loop-i in
    copy-down P.coordinates.now l.coordinates P.from P.to l.i nan (omega arith) (omega arith) l.invariant

pub returns : goal.returns
returns c = let P = c.args in
    let l = c.loop-i in
    let e : l.i ≡ P.dimensions = omega arith in
    rw (← e) l.invariant
