-- What a fair list of quotas is. Definitions only: `proofs/Fairness.antt` shows that the quotas are fair.
use Rattle.std.specs.Prelude.{ℕ, ◌+◌, ◌-◌, ◌*◌, ◌/◌, ◌%◌, ◌≤◌, ◌<◌, ◌≡◌, ◌⊎◌, List, length, get_or}
use Rattle.lists.specs.Lists.{total}
use Rattle.definition.specs.Quotas.{size_at, nonempty}

-- q is the whole part of the exact share k + x / p, or one more where that share is not whole
abbrev pub WholeOrNext : ℕ → ℕ → ℕ → ℕ → Type 0
WholeOrNext q k x p = (q ≡ k + x / p) ⊎ ((q ≡ k + x / p + 1) × (0 < x % p))

-- s seats for leaves of these sizes
pub record Fair (sizes : List ℕ) (s : ℕ) (quotas : List ℕ) : Type 0 where
  pub entries : length quotas ≡ length sizes
  pub sum : total quotas ≡ s
  -- no leaf gets more than its size, and an empty one gets none
  pub within : (i : ℕ) → get_or quotas i 0 ≤ size_at sizes i
  pub empty : (i : ℕ) → size_at sizes i ≡ 0 → get_or quotas i 0 ≡ 0
  -- where the seats reach the number of nonempty leaves, each of these gets at least one
  pub one_each : nonempty sizes ≤ s → (i : ℕ) → 0 < size_at sizes i → 1 ≤ get_or quotas i 0
  -- The exact share of a nonempty leaf of w rows, of a rows in all and d nonempty leaves: 1 + (s - d)(w - 1) / (a - d) where s
  -- reaches d, and s w / a otherwise.
  pub share_each : nonempty sizes ≤ s → (i : ℕ) → 0 < size_at sizes i
      → WholeOrNext (get_or quotas i 0) 1 ((s - nonempty sizes) * (size_at sizes i - 1)) (total sizes - nonempty sizes)
  pub share_none : s < nonempty sizes → (i : ℕ) → 0 < size_at sizes i → WholeOrNext (get_or quotas i 0) 0 (s * size_at sizes i) (total sizes)
