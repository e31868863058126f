-- `list_levels::all_zero` meets its contract. Assumes nothing.
use mathlib.Core.Path.{◌≡◌}
use mathlib.Core.Bool.{true, false}
use Prim.Native.Nat.{ℕ}
use lib.Dec.{eqb}
use borrow.Author.Rules.{rules}
use borrow.Author.Tests.{tests}
use Rattle.std.proofs.lemmas.Iterator.{cases_from_all, YieldsList-from_slice}
use Rattle.list_domains.proofs.Each.{all-told}
use Rattle.list_levels.proofs.all_zero.Goals as goal

pub returns : goal.returns
returns c =
    all-told (λ (x : ℕ). eqb x 0) c.args.counts.now 0 _
    (cases_from_all _ _ _ (λ (x : ℕ). eqb x 0 ≡ true) (λ (x : ℕ). eqb x 0 ≡ false) c.all.ensures.ran
    (YieldsList-from_slice c.args.counts.now cc) (λ x q k. search (rules, tests)) (λ x q k. search (rules, tests)))
