-- `list_domains::bounds_fit` meets its contract. Assumes nothing.
use mathlib.Core.Path.{◌≡◌}
use mathlib.Core.Bool.{true, false}
use lib.Ieee.{Float, nan}
use borrow.Author.Rules.{rules}
use borrow.Author.Tests.{tests}
use Rattle.std.proofs.lemmas.Iterator.{cases_from_all, YieldsList-from_slice}
use Rattle.list_domains.specs.Boxes.{bound_fits_lem}
use Rattle.list_domains.proofs.Each.{all-told}
use Rattle.list_domains.proofs.bounds_fit.Goals as goal

pub returns : goal.returns
returns c =
    let a = c.args in
    all-told (bound_fits_lem a.coarse) a.bounds.now nan _
    (cases_from_all _ _ _ (λ (x : Float). bound_fits_lem a.coarse x ≡ true) (λ (x : Float). bound_fits_lem a.coarse x ≡ false) c.all.ensures.ran
    (YieldsList-from_slice a.bounds.now cc) (λ x q k. search (rules, tests)) (λ x q k. search (rules, tests)))
