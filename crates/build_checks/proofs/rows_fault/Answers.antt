-- `build_checks::rows_fault` meets its contract. Assumes nothing.
use mathlib.Core.Path.{◌∙◌}
use Rattle.std.proofs.lemmas.Result.{err_from_is_err_and}
use Rattle.definition.specs.Refusals.{settings_tests}
use Rattle.config.specs.Params.{settings_are}
use Rattle.build_checks.proofs.Laws.{fault-first, fault-second, rows-tests}
use Rattle.build_checks.proofs.rows_fault.Goals as goal

pub returns-in_err-settings_fault-clause-number : goal.returns-in_err-settings_fault-clause-number
returns-in_err-settings_fault-clause-number c =
    let p = err_from_is_err_and c.from_residual.result c.from_residual.ensures.1 in
    rw (p.1, p.2) (fault-first (settings_tests (settings_are c.args.settings)) _ _ c.in_err-settings_fault.ensures.number)

pub returns-in_err-points_fault-clause-number : goal.returns-in_err-points_fault-clause-number
returns-in_err-points_fault-clause-number c =
    let s = settings_are c.args.settings in
    let p = err_from_is_err_and c.from_residual-in_err-points_fault.result c.from_residual-in_err-points_fault.ensures.1 in
    rw (p.1, p.2) (c.in_err-points_fault.ensures.number ∙ rows-tests s c.args.n c.in_ok-settings_fault.ensures.fine.0 ∙ fault-second (settings_tests s) _ c.in_ok-settings_fault.ensures.number)

pub returns-clause-number : goal.returns-clause-number
returns-clause-number c =
    let s = settings_are c.args.settings in
    c.in_ok-points_fault.ensures.number ∙ rows-tests s c.args.n c.in_ok-settings_fault.ensures.fine.0 ∙ fault-second (settings_tests s) _ c.in_ok-settings_fault.ensures.number
