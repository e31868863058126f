-- A tally of the calls that were replayed. Definitions only.
use Rattle.std.specs.Prelude.{◌≡◌, ℕ, ◌+◌, ◌≤◌, List, [], ◌++◌, codes, decimal, Option, None, Some, MatchOption}

-- Where none differs there is no first; else the first is one of the calls, counted from 1, and those that differ stand from it on.
abbrev pub FirstOf : ℕ → ℕ → Option ℕ → Type 0
FirstOf calls differ first = MatchOption first (differ ≡ 0) (λ k. (1 ≤ k) × (1 ≤ differ) × (k + differ ≤ calls + 1))

-- the first call that differs in print
abbrev pub first_text : Option ℕ → List ℕ
first_text None = []
first_text (Some k) = codes ", the first is call " ++ decimal k

-- a tally in print
abbrev pub tally_text : ℕ → ℕ → Option ℕ → List ℕ
tally_text calls differ first = decimal calls ++ codes " calls, " ++ decimal differ ++ codes " differ" ++ first_text first
