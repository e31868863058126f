-- `live_slots::list_live` meets its contract. Assumes nothing.
use mathlib.Core.Path.{◌≡◌, refl, sym, ap, ◌∙◌}
use Prim.Native.Nat.{◌<◌}
use native.Mathlib.Omega.{arith}
use lib.ListN.{length, take, get_or, length-set}
use Rattle.std.proofs.lemmas.List.{get_or-take, length-take-le}
use Rattle.live_slots.proofs.Listed.{starts, turn-fits, turn-live, turn-retired, ends}
use Rattle.live_slots.proofs.list_live.Goals as goal
use Rattle.live_slots.proofs.list_live.Goals.{then-flag-ne0, else-flag-ne0}

pub loop-i-init : goal.loop-i-init
loop-i-init c = let P = c.args in (omega arith, refl, starts P.table.flags.now P.rows.now)

pub offset_bounds-rows-n : goal.offset_bounds-rows-n
offset_bounds-rows-n c = let P = c.args in
    let l = c.loop-i in
    let all : length (take P.table.head.slots P.table.flags.now) ≡ P.table.head.slots = length-take-le P.table.head.slots P.table.flags.now c.requires.0 in
    let inside : l.i < P.table.head.slots = omega arith in
    let read : get_or (take P.table.head.slots P.table.flags.now) l.i 0 ≡ get_or P.table.flags.now l.i 0 = get_or-take P.table.head.slots P.table.flags.now l.i 0 inside in
    let h = turn-fits P.table.flags.now P.rows.now l.rows P.table.head.slots l.i l.n c.requires.1 inside l.invariant.2 (λ z. c.if-flag-ne0.true (read ∙ z)) in
    omega arith

pub bounds-rows-n : goal.bounds-rows-n
bounds-rows-n c = let P = c.args in
    let l = c.loop-i in
    let all : length (take P.table.head.slots P.table.flags.now) ≡ P.table.head.slots = length-take-le P.table.head.slots P.table.flags.now c.requires.0 in
    let inside : l.i < P.table.head.slots = omega arith in
    let read : get_or (take P.table.head.slots P.table.flags.now) l.i 0 ≡ get_or P.table.flags.now l.i 0 = get_or-take P.table.head.slots P.table.flags.now l.i 0 inside in
    let h = turn-fits P.table.flags.now P.rows.now l.rows P.table.head.slots l.i l.n c.requires.1 inside l.invariant.2 (λ z. c.if-flag-ne0.true (read ∙ z)) in
    h

pub loop-i-preserved : goal.loop-i-preserved
loop-i-preserved c = let P = c.args in
    let l = c.loop-i in
    let all : length (take P.table.head.slots P.table.flags.now) ≡ P.table.head.slots = length-take-le P.table.head.slots P.table.flags.now c.requires.0 in
    let inside : l.i < P.table.head.slots = omega arith in
    let read : get_or (take P.table.head.slots P.table.flags.now) l.i 0 ≡ get_or P.table.flags.now l.i 0 = get_or-take P.table.head.slots P.table.flags.now l.i 0 inside in
    let fits = c.requires.1 in
    elim c.if-flag-ne0.branch [
      | then-flag-ne0 w ↦ (omega (arith, w.n-is), ap length w.rows-is ∙ length-set l.rows l.n l.i ∙ l.invariant.1, rw (w.rows-is, w.n-is) (turn-live P.table.flags.now P.rows.now l.rows P.table.head.slots l.i l.n fits inside l.invariant.2 (λ z. w.if-flag-ne0.true (read ∙ z))))
      | else-flag-ne0 w ↦ (omega (arith, w.n-is), ap length w.rows-is ∙ l.invariant.1, rw (w.rows-is, w.n-is) (turn-retired P.table.flags.now P.rows.now l.rows P.table.head.slots l.i l.n fits inside l.invariant.2 (sym read ∙ w.if-flag-ne0.false)))
    ]

pub returns : goal.returns
returns c = let P = c.args in
    let l = c.loop-i in
    let all : length (take P.table.head.slots P.table.flags.now) ≡ P.table.head.slots = length-take-le P.table.head.slots P.table.flags.now c.requires.0 in
    ends P.table.flags.now P.rows.now l.rows P.table.head.slots l.i l.n (omega arith) l.invariant.2
