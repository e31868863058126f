-- `closing::move_slot` meets its contract. Assumes nothing.
use native.Mathlib.Nat.{add-zero, mul-le-mul_right}
use native.Mathlib.Omega.{arith}
use Rattle.closing.proofs.Moves.{is-retired, is_live}
use Rattle.closing.proofs.move_slot.Goals as goal

pub returns-then-flag-eq0-clause-next : goal.returns-then-flag-eq0-clause-next
returns-then-flag-eq0-clause-next c = let a = c.args in rw (is-retired a.wells.now.flags.now a.slot c.if-flag-eq0.true, add-zero)

pub returns-then-flag-eq0-clause-flags : goal.returns-then-flag-eq0-clause-flags
returns-then-flag-eq0-clause-flags c = let a = c.args in rw (is-retired a.wells.now.flags.now a.slot c.if-flag-eq0.true)

pub returns-then-flag-eq0-clause-coordinates : goal.returns-then-flag-eq0-clause-coordinates
returns-then-flag-eq0-clause-coordinates c = let a = c.args in rw (is-retired a.wells.now.flags.now a.slot c.if-flag-eq0.true)

pub returns-then-flag-eq0-clause-rename : goal.returns-then-flag-eq0-clause-rename
returns-then-flag-eq0-clause-rename c = let a = c.args in rw (is-retired a.wells.now.flags.now a.slot c.if-flag-eq0.true)

pub overflow_mul-to : goal.overflow_mul-to
overflow_mul-to c = let s = c in
    omega (arith, s.requires, mul-le-mul_right s.args.wells.now.dimensions s.requires.0)

pub returns-clause-next : goal.returns-clause-next
returns-clause-next c = let a = c.args in rw (is_live a.wells.now.flags.now a.slot c.if-flag-eq0.false)

pub returns-clause-flags : goal.returns-clause-flags
returns-clause-flags c = let a = c.args in rw (is_live a.wells.now.flags.now a.slot c.if-flag-eq0.false)

pub move_point-requires : goal.move_point-requires
move_point-requires c = let s = c in
    (mul-le-mul_right s.args.wells.now.dimensions s.requires.0, s.requires.2)

pub returns-clause-coordinates : goal.returns-clause-coordinates
returns-clause-coordinates c = let w = c.args.wells.now in
    rw (is_live w.flags.now c.args.slot c.if-flag-eq0.false) c.move_point.ensures

pub returns-clause-rename : goal.returns-clause-rename
returns-clause-rename c = let a = c.args in rw (is_live a.wells.now.flags.now a.slot c.if-flag-eq0.false)
