-- `quotas::get_domain_coarse_quotas` meets its contract: where it is accepted the quotas stand in the place of the sizes.
-- Assumes nothing.
use mathlib.Core.Path.{◌≡◌, refl, sym, ap, ◌∙◌}
use mathlib.Core.List.{List, ◌++◌}
use Prim.Native.Nat.{ℕ, ◌≤◌}
use lib.ListN.{length, drop}
use native.Mathlib.Omega.{arith}
use Rattle.lists.specs.Lists.{total}
use Rattle.definition.specs.Quotas.{quotas_for}
use Rattle.definition.specs.Outcome.{written}
use Rattle.definition.proofs.Fairness.{quotas-length}
use Rattle.quotas.proofs.Verdicts.{seated}
use Rattle.quotas.proofs.get_domain_coarse_quotas.Goals as goal

-- the quotas in the place of the front
front-shared : (sizes l new : List ℕ) (s : ℕ) → s ≤ total sizes → new ≡ quotas_for sizes s → new ++ drop (length sizes) l ≡ written (quotas_for sizes s) l
unfolding written
front-shared sizes l new s h e = rw e (ap (λ (n : ℕ). quotas_for sizes s ++ drop n l) (sym (quotas-length sizes s h)))

pub share_in_place-requires : goal.share_in_place-requires
share_in_place-requires c =
    let i = c.in-Some.ensures in
    (i.0 ∙ sym (ap total c.copy_values.ensures.after), i.1, omega arith)

pub returns : goal.returns
returns c = let a = c.args in
    let i = c.in-Some.ensures in
    let s = c.min-seats.ensures in
    let e = c.share_in_place.ensures ∙ ap (λ (l : List ℕ). quotas_for l c.min-seats.result) c.copy_values.ensures.after in
    seated _ _ _ _ _ _ _ _ (omega arith) c.if-quotas-leaves.false c.if-wholes-leaves.false refl (omega arith)
    (front-shared a.sizes.now a.quotas.now _ _ (omega arith) e) refl
