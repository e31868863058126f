-- `closing::move_down` meets its contract. Assumes nothing.
use mathlib.Core.Path.{refl}
use native.Mathlib.Omega.{arith}
use borrow.Author.Rules.{rules}
use lib.ListN.{length}
use Rattle.closing.proofs.Moves.{slot-room, starts, ends, low, turn}
use Rattle.closing.proofs.move_down.Goals as goal

pub loop-i-init : goal.loop-i-init
loop-i-init c = let P = c.args in
    let w = P.wells.now in
    (search rules, refl, starts w.dimensions P.slots w.flags.now w.coordinates.now P.rename.now)

pub move_slot-to-requires : goal.move_slot-to-requires
move_slot-to-requires c = let s = c in
    let P = s.args in
    let w = P.wells.now in
    let l = c.loop-i in
    let same = l.invariant.0 in
    let below = c.loop-i-test.true in
    let left = low w.dimensions P.slots w.flags.now w.coordinates.now P.rename.now l.wells.flags.now l.wells.coordinates.now l.rename l.i l.to l.invariant.2 in
    let d = same.dimensions in (
      left,
      omega (arith, below, s.requires, same.flags_len),
      rw d (slot-room w.dimensions l.i P.slots (length l.wells.coordinates.now) below (omega (arith, s.requires, same.coordinates_len))),
      omega (arith, below, s.requires, l.invariant.1),
    )

pub loop-i-preserved : goal.loop-i-preserved
loop-i-preserved c = let s = c in
    let P = s.args in
    let w = P.wells.now in
    let l = c.loop-i in
    let same = l.invariant.0 in
    let below = c.loop-i-test.true in
    let r = rw same.dimensions at c.move_slot-to.ensures in (
      search rules,
      search rules,
      turn w.dimensions P.slots w.flags.now w.coordinates.now P.rename.now l.wells.flags.now l.wells.coordinates.now l.rename l.i l.to l.invariant.2
          (omega (arith, below, s.requires)) (slot-room w.dimensions l.i P.slots (length w.coordinates.now) below s.requires.1) (omega (arith, below, s.requires))
          _ _ _ c.move_slot-to.result r.next r.flags r.coordinates r.rename,
    )

pub returns : goal.returns
returns c = let P = c.args in
    let w = P.wells.now in
    let l = c.loop-i in
    let e = ends w.dimensions P.slots w.flags.now w.coordinates.now P.rename.now l.wells.flags.now l.wells.coordinates.now l.rename l.i l.to l.invariant.2 (omega arith) in
    record { same = search rules; flags = e.0; coordinates = e.1.0; rename = e.1.1 }
