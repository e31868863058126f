-- `build_checks::check_points` meets its contract. Assumes nothing.
use Rattle.std.proofs.lemmas.Result.{err_from_is_err_and}
use Rattle.config.specs.Params.{settings_of_lem}
use Rattle.build_checks.proofs.Laws.{checks-stop, checks-short, checks-last}
use Rattle.build_checks.proofs.check_points.Goals as goal

pub returns-in_err-n : goal.returns-in_err-n
returns-in_err-n g c = let P = c.args in
    let p = err_from_is_err_and c.from_residual.result c.from_residual.ensures.1 in
    rw (p.1, p.2) (checks-stop (λ n b. g.F.FnOnce.post P.short (n, tt) b) (settings_of_lem P.points.dimensions P.params) P.points.coordinates.now _ c.in_err-n.ensures.number)

pub returns-then-short : goal.returns-then-short
returns-then-short g c = let P = c.args in
    let n = c.in_ok-n.ensures in
    checks-short (λ n b. g.F.FnOnce.post P.short (n, tt) b) (settings_of_lem P.points.dimensions P.params) P.points.coordinates.now n.number (rw n.fine.0 at c.if-short.ensures)

pub returns : goal.returns
returns g c = let P = c.args in
    let n = c.in_ok-n.ensures in
    checks-last (λ n b. g.F.FnOnce.post P.short (n, tt) b) (settings_of_lem P.points.dimensions P.params) P.points.coordinates.now n.number (rw n.fine.0 at c.if-short.ensures) _ c.check_finite.ensures
