-- `table_checks::Table::survey` meets its contract. Assumes nothing.
use mathlib.Core.Path.{◌≡◌, sym, ◌∙◌}
use Prim.Native.Nat.{◌<◌}
use native.Mathlib.Omega.{arith}
use lib.ListN.{length, take, get_or}
use Rattle.std.proofs.lemmas.List.{get_or-take, length-take-le}
use Rattle.table_checks.proofs.Pass.{starts, turn-live, turn-first, turn-later, ends-live, ends_next}
use Rattle.table_checks.proofs.Table.survey.Goals as goal
use Rattle.table_checks.proofs.Table.survey.Goals.{then-flag-ne0, else-flag-ne0+then-i-next, else-flag-ne0+else-i-next}

pub loop-i-init : goal.loop-i-init
loop-i-init c = starts _ _

pub loop-i-preserved : goal.loop-i-preserved
loop-i-preserved c = let l = c.loop-i in
    let a = c.args in
    let p = l.invariant in
    let all : length (take a.self.head.slots a.self.flags.now) ≡ a.self.head.slots = length-take-le a.self.head.slots a.self.flags.now c.requires in
    let inside : l.i < a.self.head.slots = omega arith in
    let read : get_or (take a.self.head.slots a.self.flags.now) l.i 0 ≡ get_or a.self.flags.now l.i 0 = get_or-take a.self.head.slots a.self.flags.now l.i 0 inside in
    elim c.if-flag-ne0.branch [
      | then-flag-ne0 w ↦ rw (w.live-is, w.next-is) (turn-live a.self.flags.now a.self.head.slots _ _ _ p (λ z. w.if-flag-ne0.true (read ∙ z)))
      | else-flag-ne0+then-i-next w ↦ rw (w.live-is, w.next-is) (turn-first a.self.flags.now a.self.head.slots _ _ _ p (sym read ∙ w.if-flag-ne0.false) w.if-i-next.true)
      | else-flag-ne0+else-i-next w ↦ rw (w.live-is, w.next-is) (turn-later a.self.flags.now a.self.head.slots _ _ _ p (sym read ∙ w.if-flag-ne0.false) w.if-i-next.false)
    ]

pub returns : goal.returns
returns c = let l = c.loop-i in
    let a = c.args in
    let all : length (take a.self.head.slots a.self.flags.now) ≡ a.self.head.slots = length-take-le a.self.head.slots a.self.flags.now c.requires in
    let e : l.i ≡ a.self.head.slots = omega arith in
    let p = rw e at l.invariant in
    record {
      live = ends-live a.self.flags.now a.self.head.slots _ _ p;
      next = ends_next a.self.flags.now a.self.head.slots _ _ p;
    }
