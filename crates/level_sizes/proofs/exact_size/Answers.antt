-- `level_sizes::exact_size` meets its contract: where a number reaches the goal, all above it do. Assumes nothing.
use Rattle.std.proofs.Common.{rules, ℕ, ◌^◌, ◌*◌, ◌-◌}
use native.Mathlib.Nat.{pow-le-pow_left, le_trans}
use native.Mathlib.Omega.{arith}
use lib.Dec.{leb}
use borrow.Author.Tests.{leb-true, le-leb}
use Rattle.definition.specs.Levels.{exact_size_lem}
use Rattle.definition.proofs.Sizes.{goal-bound}
use Rattle.bisection.specs.Tests.{Stays}
use Rattle.level_sizes.proofs.exact_size.Goals as goal

-- where a number reaches the goal, all above it do
reaches : (n r goal : ℕ) → Stays n (λ m. leb goal (m ^ r))
reaches n r goal i j h l t = le-leb _ _ (le_trans (leb-true _ _ t) (pow-le-pow_left h r))

pub power-requires : goal.power-requires
power-requires c = (c.requires.0, omega arith)

pub overflow_mul-goal : goal.overflow_mul-goal
overflow_mul-goal c = let p = c.requires in
    omega (arith, goal-bound _ _ _ _ c.power.ensures p.0 p.1 p.3)

pub least_passing-requires : goal.least_passing-requires
least_passing-requires c = λ i h κs p e l f g u. (omega arith, c.requires.3)

pub returns : goal.returns
unfolding exact_size_lem
returns c = let a = c.args in
    c.least_passing.ensures (λ m. leb (a.c * a.a ^ (a.r - 1)) (m ^ a.r)) (λ i b h p. search rules) (reaches _ _ _)
