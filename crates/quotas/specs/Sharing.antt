-- One sharing as the code does it, over the sizes themselves: each nonempty leaf has `first` seats (0 or 1) beforehand, and the rest
-- is shared by the capacity that remains. Definitions only.
use Rattle.std.specs.Prelude.{ℕ, ◌+◌, ◌-◌, ◌≤◌, min, max, ◌≡◌, List, map, length}
use Rattle.lists.specs.Lists.{total, from}
use Rattle.definition.specs.Quotas.{size_at, remainder_at, seats_at}
use Rattle.definition.specs.Refusals.{most_points}
use Rattle.definition.specs.SeatCut.{above, CutBy}

-- the capacities that remain
abbrev pub capacities : List ℕ → ℕ → List ℕ
capacities sizes first = map (λ w. w - first) sizes

-- what a sharing asks of its numbers: products and shares fit the machine's, the rest fits the capacities, and the divisor is their
-- sum, or 1 where that is 0
pub record Sharing (sizes : List ℕ) (first rest pool : ℕ) : Type 0 where
  pub sizes_fit : (j : ℕ) → size_at sizes j ≤ most_points
  pub first_fits : first ≤ 1
  pub rest_fits : rest ≤ most_points
  pub within : rest ≤ total (capacities sizes first)
  pub divisor : pool ≡ max 1 (total (capacities sizes first))

-- how many remainders of `rest` seats shared by these capacities are above t, and a cut of them for `left` seats
abbrev pub remainders_above : List ℕ → ℕ → ℕ → ℕ
remainders_above caps rest t = above (length caps) (remainder_at caps rest) t

abbrev pub RemaindersCut : List ℕ → ℕ → ℕ → ℕ → Type 0
RemaindersCut caps rest left t = CutBy (length caps) (remainder_at caps rest) left t

-- leaf i's quota: its first seats, and its seats of the rest
abbrev pub quota_at : List ℕ → ℕ → ℕ → ℕ → ℕ
quota_at sizes first rest i = min first (size_at sizes i) + seats_at (capacities sizes first) rest i

abbrev pub quotas_by : List ℕ → ℕ → ℕ → List ℕ
quotas_by sizes first rest = map (quota_at sizes first rest) (from 0 (length sizes))
