-- The rows under the cuts of a level are its active rows, each once. Assumes nothing.
use mathlib.Core.Path.{◌≡◌, sym, ap, ◌∙◌}
use mathlib.Core.Logic.{⊎_elim}
use mathlib.Core.List.{List}
use Prim.Native.Nat.{ℕ, zero, suc, ◌*◌, ◌≤◌, ◌<◌}
use native.Mathlib.Omega.{arith}
use lib.ListN.{length}
use lib.Ieee.{Float}
use Rattle.lists.specs.Lists.{keep}
use Rattle.lists.specs.Same.{Same}
use Rattle.lists.specs.Times.{times, Once}
use Rattle.lists.proofs.Tests.{true-or-false, le-or-lt}
use Rattle.lists.proofs.Count.{length-keep}
use Rattle.lists.proofs.Times.{times-append, times-keep-in, times-keep-out, once-keep, once-length}
use Rattle.lists.proofs.Ascends.{ascends-once}
use Rattle.definition.specs.Cut.{Domain, root_domain, longest_axis_lem, plane, left_of, right_of}
use Rattle.definition.specs.Record.{uncut, cuts_of, level_cuts}
use Rattle.definition.proofs.Cuts.{cut-times}
use Rattle.rows.specs.Rows.{GoodRows}
use Rattle.record_laws.specs.Table.{rows_under}
use Rattle.record_laws.proofs.Entries.{rows-under-leaf, rows-under-cut}
use Rattle.record_laws.proofs.Steps.{step-more, step-done}

-- lists that have each number as often, where one of them has none twice
pub once-same : (xs ys : List ℕ) → Once ys → ((r : ℕ) → times r xs ≡ times r ys) → Same xs ys
once-same xs ys once e p =
    sym (length-keep p xs) ∙ once-length (keep p ys) (keep p xs) (once-keep p ys once) kept ∙ length-keep p ys
  where
    kept : (r : ℕ) → times r (keep p xs) ≡ times r (keep p ys)
    kept r =
        ⊎_elim
        (λ t. times-keep-in p xs r t ∙ e r ∙ sym (times-keep-in p ys r t))
        (λ t. times-keep-out p xs r t ∙ sym (times-keep-out p ys r t))
        (true-or-false (p r))

module _ (d : ℕ) (cs : List Float) (leaf : ℕ) (r : ℕ) where
  -- each cut gives each row to one half
  cuts-times : (fuel : ℕ) (q : Domain) → times r (rows_under (cuts_of d cs leaf fuel q)) ≡ times r q.rows
  unfolding cuts_of
  cuts-times zero q = ap (times r) (rows-under-leaf q)
  cuts-times (suc fuel) q =
      let a = longest_axis_lem d cs q.rows in
      let x = plane d cs q.rows in
      let left = left_of d cs q in
      let right = right_of d cs q in
      ⊎_elim
      (λ (big : 2 * leaf ≤ length q.rows).
      let l = cuts_of d cs leaf fuel left in
      let o = cuts_of d cs leaf fuel right in
      rw (step-more d cs leaf fuel q big, rows-under-cut a x l o, times-append r (rows_under l) (rows_under o)) (omega (arith, cuts-times fuel left, cuts-times fuel right, cut-times d cs q r)))
      (λ (small : length q.rows < 2 * leaf).
      rw (step-done d cs leaf fuel q small, rows-under-cut a x (uncut left) (uncut right), rows-under-leaf left, rows-under-leaf right, times-append r left.rows right.rows) (cut-times d cs q r))
      (le-or-lt (2 * leaf) (length q.rows))

-- THE LAW
pub level-rows : (d : ℕ) (cs : List Float) (leaf : ℕ) (active : List ℕ) → GoodRows d cs active → Same (rows_under (level_cuts d cs leaf active)) active
unfolding level_cuts root_domain
level-rows d cs leaf active g =
    once-same (rows_under (level_cuts d cs leaf active)) active (ascends-once active g.ascends) (λ r. cuts-times d cs leaf r (length active) (root_domain d cs active))
