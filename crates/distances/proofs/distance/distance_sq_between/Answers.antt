-- `distances::distance_sq_between` meets its contract. The invariant: the sum is that of the axes passed. Assumes nothing.
use mathlib.Core.Path.{refl, ◌∙◌}
use native.Mathlib.Omega.{arith}
use Rattle.definition.specs.Points.{distance_sq_lem}
use Rattle.distances.proofs.Turns.{distance-more, distance-all}
use Rattle.distances.proofs.distance.distance_sq_between.Goals as goal

pub loop-k-init : goal.loop-k-init
unfolding distance_sq_lem
loop-k-init c = refl

pub loop-k-preserved : goal.loop-k-preserved
loop-k-preserved c = let a = c.args in
    c.add_square-sum.ensures ∙ distance-more a.p.now a.q.now _ _ c.loop-k.invariant

pub returns : goal.returns
returns c = let l = c.loop-k in
    distance-all _ _ _ _ _ (omega arith) c.loop-k-test.false l.invariant
