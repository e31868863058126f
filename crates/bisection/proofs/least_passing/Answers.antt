-- `bisection::least_passing` meets its contract. Assumes nothing.
use mathlib.Core.Path.{sym, ◌∙◌}
use native.Mathlib.Omega.{arith}
use Rattle.std.proofs.Common.{◌≡◌}
use Rattle.bisection.proofs.Halving.{kept-first, kept-high, kept-low, kept-least}
use Rattle.bisection.proofs.least_passing.Goals as goal

pub loop-low-init : goal.loop-low-init
loop-low-init g c = (omega arith, omega arith, λ t f s. kept-first t _)

pub returns : goal.returns
returns g c = λ t f s.
    let e : c.loop-low.high ≡ c.loop-low.low = omega arith in
    kept-least t _ _ (omega arith) (rw e at (c.loop-low.invariant.2 t f s))

pub loop-low-preserved-then-passes : goal.loop-low-preserved-then-passes
loop-low-preserved-then-passes g c = (
  omega arith,
  omega arith,
  λ t f s. kept-high t _ _ _ _ (c.loop-low.invariant.2 t f s) (sym (f _ _ (omega arith) c.passes.ensures) ∙ c.if-passes.true),
)

pub loop-low-preserved : goal.loop-low-preserved
loop-low-preserved g c = (
  omega arith,
  omega arith,
  λ t f s. kept-low t _ _ _ _ (omega arith) s (c.loop-low.invariant.2 t f s) (sym (f _ _ (omega arith) c.passes.ensures) ∙ c.if-passes.false),
)
