-- `leaf_tests::check_leaf` meets its contract. Assumes nothing.
use mathlib.Core.Path.{◌≡◌, refl, sym, ap, ◌∙◌}
use mathlib.Core.Bool.{true}
use Prim.Native.Nat.{ℕ, ◌-◌}
use lib.ListN.{length}
use borrow.Author.Rules.{rules}
use Rattle.lists.proofs.Tests.{and-of}
use Rattle.tree_tests.specs.InTurn.{depth_passes_lem}
use Rattle.leaf_tests.proofs.check_leaf.Goals as goal

pub returns-clause-tested : goal.returns-clause-tested
returns-clause-tested g c = λ p q m n.
    let a = c.args in
    let rows = c.rows_pass.ensures.tested p q m n in
    let deep : depth_passes_lem a.level.coarse a.level.rows a.passed.least (length (g.O.Rows.rows a.own.now)) a.depth ≡ true =
    sym (ap (λ (k : ℕ). depth_passes_lem a.level.coarse a.level.rows a.passed.least k a.depth) c.count.ensures) ∙ sym c.depth_passes.ensures ∙ search rules in
    record {
      tests = sym (and-of (sym rows.tests ∙ search rules) deep);
      remaining = ap (λ (k : ℕ). a.passed.remaining - k) c.count-2.ensures;
      depth_last = refl;
      left_set = λ _. rows.left_set (search rules);
      listed_set = λ _. rows.listed_set (search rules);
    }
