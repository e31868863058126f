-- How often a number stands in a list, and lists without repeats. Definitions only.
use Rattle.std.specs.Prelude.{ℕ, ◌≤◌, List, eqb}
use Rattle.lists.specs.Lists.{count}

-- how often r stands in xs
abbrev pub times : ℕ → List ℕ → ℕ
times r xs = count (λ x. eqb x r) xs

-- no number stands twice
abbrev pub Once : List ℕ → Type 0
Once xs = (r : ℕ) → times r xs ≤ 1
