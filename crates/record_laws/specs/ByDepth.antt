-- Leaves by depth, and then from left to right. Definitions only.
use Rattle.std.specs.Prelude.{ℕ, suc, List, map, eqb}
use Rattle.lists.specs.Lists.{keep, from, joined}
use Rattle.definition.specs.Cut.{Domain}

-- those at depth e, from left to right, where `depth_of` gives the depth of each
unfoldable pub at_depth : {D : Type 0} → (D → ℕ) → ℕ → List D → List D
at_depth depth_of e fs = keep (λ f. eqb (depth_of f) e) fs

-- all that are no deeper than `most`: by depth, and then from left to right
unfoldable pub by_depth : {D : Type 0} → (D → ℕ) → ℕ → List D → List D
by_depth depth_of most fs = joined (map (λ e. at_depth depth_of e fs) (from 0 (suc most)))

-- the depth of the definition's domains
abbrev pub domain_depth : Domain → ℕ
domain_depth q = q.depth
