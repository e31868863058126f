-- The counts that a tree has by default are the definition's zeros. Assumes nothing.
use mathlib.Core.Path.{◌≡◌, sym, ◌∙◌}
use mathlib.Core.List.{List}
use lib.ListN.{replicate}
use Prim.Native.Nat.{ℕ}
use native.Mathlib.Omega.{arith}
use Rattle.std.specs.Array.{AllOfLen}
use Rattle.std.proofs.lemmas.Grind.{same_number_lists}
use Rattle.std.proofs.lemmas.List.{get_or-replicate}
use Rattle.definition.specs.Outcome.{zero_counts}
use Rattle.tree_answer.specs.declared.DDMTree.{DDMTree}
use Rattle.tree_answer.specs.Answers.{counts_given}

all-zero : (xs : List ℕ) → AllOfLen (λ x. x ≡ 0) xs 4 → xs ≡ replicate 4 0
all-zero xs h = same_number_lists xs (replicate 4 0) h.long (λ k l. h.at k 0 (omega (arith, h.long)) ∙ sym (get_or-replicate 4 k 0 0 (omega (arith, h.long))))

pub no-counts : (t : DDMTree) → t.levels ≡ 0 → AllOfLen (λ x. x ≡ 0) t.rows 4 → AllOfLen (λ x. x ≡ 0) t.domains 4 → counts_given t ≡ zero_counts
no-counts t l r d = rw (l, all-zero t.rows r, all-zero t.domains d)
