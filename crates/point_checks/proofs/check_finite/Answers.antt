-- `point_checks::check_finite` meets its contract. Assumes nothing.
use native.Mathlib.Omega.{arith}
use Rattle.std.proofs.lemmas.Bool.Decides.{nat_tests}
use Rattle.definition.specs.Refusals.{verdict}
use Rattle.point_checks.proofs.Laws.{bad-test}
use Rattle.point_checks.proofs.check_finite.Goals as goal

pub returns-in-Some : goal.returns-in-Some
unfolding verdict
returns-in-Some c = grind (arith, nat_tests, bad-test 0 c.args.values.now)

pub returns-in-None : goal.returns-in-None
unfolding verdict
returns-in-None c = grind (arith, nat_tests, bad-test 0 c.args.values.now)
