-- `tree_checks::check_tree` meets its contract. Assumes nothing.
use mathlib.Core.Path.{◌∙◌}
use Rattle.std.proofs.Common.{rules}
use Rattle.stored.specs.Outcome.{lists_short_lem, own_tests}
use Rattle.config.specs.Params.{settings_of_lem}
use Rattle.build_checks.proofs.Laws.{same-tests}
use Rattle.tree_checks.proofs.check_tree.Goals as goal

pub returns : goal.returns
unfolding own_tests lists_short_lem
returns c = let P = c.args in
    let t = c.check_points.ensures in
    t.2 ∙ same-tests (settings_of_lem P.points.dimensions P.params) _ _ _ _ _ (λ e. let h = t.1 e in search rules)
