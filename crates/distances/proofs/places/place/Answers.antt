-- `distances::place` meets its contract. The invariant: the place is the best of those passed, by any comparison that the calls decide.
-- Assumes nothing.
use mathlib.Core.Path.{sym, ◌∙◌}
use native.Mathlib.Omega.{arith}
use Rattle.distances.proofs.Firsts.{place-first, place-yes, place-no, place_end}
use Rattle.distances.proofs.places.place.Goals.{then-better, else-better}
use Rattle.distances.proofs.places.place.Goals as goal

pub loop-i-init : goal.loop-i-init
loop-i-init g c = (omega arith, λ b d. place-first)

pub loop-i-preserved : goal.loop-i-preserved
loop-i-preserved g c =
    let h = c.loop-i-test.true in
    elim c.if-better.branch [
      | then-better w ↦ (omega arith, λ b d. rw w.best-is (place-yes _ _ (c.loop-i.invariant.1 b d) h (sym (d _ _ _ c.better.ensures) ∙ w.if-better.true)))
      | else-better w ↦ (omega arith, λ b d. rw w.best-is (place-no _ _ (c.loop-i.invariant.1 b d) h (sym (d _ _ _ c.better.ensures) ∙ w.if-better.false)))
    ]

pub returns : goal.returns
returns g c = λ b d. place_end _ _ (c.loop-i.invariant.1 b d) c.loop-i-test.false
