-- `build_checks::points_fault` meets its contract. Assumes nothing.
use mathlib.Core.Path.{ap, ◌∙◌}
use Prim.Native.Nat.{◌/◌, ◌≤◌, ◌<◌}
use native.Mathlib.Omega.{arith}
use Rattle.std.proofs.lemmas.Result.{err_from_is_err_and}
use Rattle.definition.specs.Levels.{threshold, reductions}
use Rattle.definition.specs.Refusals.{verdict}
use Rattle.config.specs.Params.{settings_are}
use Rattle.point_checks.specs.Tests.{count_tests}
use Rattle.build_checks.proofs.Laws.{fault-first, fault-second, points-groups, nine-met, nine-passed}
use Rattle.build_checks.proofs.points_fault.Goals as goal

pub returns-in_err-n-clause-number : goal.returns-in_err-n-clause-number
returns-in_err-n-clause-number c = let a = c.args in
    let p = err_from_is_err_and c.from_residual.result c.from_residual.ensures.1 in
    rw (p.1, p.2) (fault-first (count_tests a.count a.settings.dimensions) _ _ c.in_err-n.ensures.number ∙ ap verdict (points-groups (settings_are a.settings) a.count c.requires.0))

pub returns-then-get_num_level_reductions-gt3-clause-number : goal.returns-then-get_num_level_reductions-gt3-clause-number
returns-then-get_num_level_reductions-gt3-clause-number c = let a = c.args in
    let s = settings_are a.settings in
    let n = a.count / a.settings.dimensions in
    let e = rw (c.resolved_coarse_threshold-c.ensures, c.in_ok-n.ensures.fine.0) at c.get_num_level_reductions.ensures in
    let h : 3 < reductions n (threshold s.policy n) s.factor = omega (arith, e, c.if-get_num_level_reductions-gt3.true) in
    nine-met s n h ∙ fault-second (count_tests a.count a.settings.dimensions) _ c.in_ok-n.ensures.number ∙ ap verdict (points-groups s a.count c.requires.0)

pub returns-clause-number : goal.returns-clause-number
returns-clause-number c = let a = c.args in
    let s = settings_are a.settings in
    let n = a.count / a.settings.dimensions in
    let e = rw (c.resolved_coarse_threshold-c.ensures, c.in_ok-n.ensures.fine.0) at c.get_num_level_reductions.ensures in
    let h : reductions n (threshold s.policy n) s.factor ≤ 3 = omega (arith, e, c.if-get_num_level_reductions-gt3.false) in
    nine-passed s n (omega (arith, c.requires.1)) h ∙ fault-second (count_tests a.count a.settings.dimensions) _ c.in_ok-n.ensures.number ∙ ap verdict (points-groups s a.count c.requires.0)
