-- `quotas::count_nonempty` meets its contract. Assumes nothing.
use Rattle.std.proofs.Common.{◌≡◌, sym, ◌∙◌, refl, ℕ, ◌+◌, Bool, true, false, cond, List, count_by, rules}
use Rattle.std.proofs.lemmas.List.Recursion.{is_count_by}
use lib.Dec.{ltb}
use Rattle.lists.specs.Lists.{count, one_if}
use Rattle.quotas.proofs.count_nonempty.Goals as goal

counted : (xs : List ℕ) → count (λ w. ltb 0 w) xs ≡ count_by (λ w. ltb 0 w) xs
unfolding count
counted xs = is_count_by (count (λ w. ltb 0 w)) (λ w. ltb 0 w) refl (λ x xs. go (ltb 0 x) (count (λ w. ltb 0 w) xs)) xs
  where
    go : (b : Bool) (n : ℕ) → one_if b + n ≡ cond b (1 + n) n
    go true n = refl
    go false n = search rules

pub returns : goal.returns
returns c =
    let found : c.count.result ≡ count_by (λ w. ltb 0 w) c.args.sizes.now = search rules in
    found ∙ sym (counted c.args.sizes.now)
