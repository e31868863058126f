-- `slots_checks::judge_slots` meets its contract. The invariant: of the live slots passed none has a coordinate that is not finite.
-- Assumes nothing.
use mathlib.Core.Path.{◌≡◌, sym, ap, ◌∙◌}
use Prim.Native.Nat.{ℕ, ◌+◌, ◌*◌, ◌<◌}
use native.Mathlib.Omega.{arith}
use lib.ListN.{length, take, get_or}
use Rattle.std.proofs.lemmas.List.{get_or-take, length-take-le}
use Rattle.lists.proofs.Put.{length_part}
use Rattle.definition.specs.Refusals.{refused}
use Rattle.definition.specs.Table.{flagged}
use Rattle.slots_checks.proofs.Judged.{flag-live, flag-retired, none_first, none-same, none_more, judged-none, judged-here}
use Rattle.slots_checks.proofs.Groups.{slot-inside}
use Rattle.slots_checks.proofs.judge_slots.Goals as goal
use Rattle.slots_checks.proofs.judge_slots.Goals.{then-flag-ne0+in_default, else-flag-ne0}

pub loop-i-init : goal.loop-i-init
loop-i-init c = let P = c.args in none_first P.table.points.dimensions P.table.points.coordinates.now (flagged P.table.flags.now)

pub returns-in-Some : goal.returns-in-Some
returns-in-Some c = let P = c.args in
    let i = c.loop-i.i in
    let d = P.table.points.dimensions in
    let cs = P.table.points.coordinates.now in
    let all : length (take P.table.head.slots P.table.flags.now) ≡ P.table.head.slots = length-take-le P.table.head.slots P.table.flags.now c.requires.0 in
    let below : i < P.table.head.slots = omega arith in
    let live = flag-live P.table.flags.now i (λ z. c.if-flag-ne0.true (get_or-take P.table.head.slots P.table.flags.now i 0 below ∙ z)) in
    let inside = slot-inside i P.table.head.slots d below in
    let at = rw c.point.ensures.coordinates at c.in-Some.ensures in
    ap (λ (k : ℕ). refused (record { number = 10; place = i * d + k })) at.0
    ∙ judged-here d cs (flagged P.table.flags.now) i P.table.head.slots below live (omega (arith, inside)) c.loop-i.invariant (omega (arith, at.0, at.1, length_part cs (i * d) d (omega (arith, inside))))

pub loop-i-preserved : goal.loop-i-preserved
loop-i-preserved c = let P = c.args in
    let i = c.loop-i.i in
    let none = c.loop-i.invariant in
    let d = P.table.points.dimensions in
    let cs = P.table.points.coordinates.now in
    let flags = P.table.flags.now in
    let all : length (take P.table.head.slots flags) ≡ P.table.head.slots = length-take-le P.table.head.slots flags c.requires.0 in
    let below : i < P.table.head.slots = omega arith in
    let read : get_or (take P.table.head.slots flags) i 0 ≡ get_or flags i 0 = get_or-take P.table.head.slots flags i 0 below in
    let inside = slot-inside i P.table.head.slots d below in
    elim c.if-flag-ne0.branch [
      | then-flag-ne0+in_default w ↦ let e = rw w.point.ensures.coordinates at w.in_default.ensures in
          none_more d cs (flagged flags) i (flag-live flags i (λ z. w.if-flag-ne0.true (read ∙ z))) (omega (arith, inside)) (omega (arith, e, length_part cs (i * d) d (omega (arith, inside)))) none
      | else-flag-ne0 w ↦ none-same d cs (flagged flags) i (flag-retired flags i (sym read ∙ w.if-flag-ne0.false)) none
    ]

pub returns : goal.returns
returns c = let P = c.args in
    let all : length (take P.table.head.slots P.table.flags.now) ≡ P.table.head.slots = length-take-le P.table.head.slots P.table.flags.now c.requires.0 in
    judged-none P.table.points.dimensions P.table.points.coordinates.now (flagged P.table.flags.now) c.loop-i.i P.table.head.slots (omega arith) (omega arith) c.loop-i.invariant
