-- The rows that leaves send up to the next level, and their covers. Definitions only.
use Rattle.std.specs.Prelude.{ℕ, ◌+◌, ◌*◌, ◌≤◌, ◌<◌, ◌≡◌, length, get_or, Float}
use mathlib.Core.List.{List, map, zip_with}
use Rattle.lists.specs.Lists.{total, from, joined}
use Rattle.lists.specs.Ascends.{Ascends}
use Rattle.definition.specs.Quotas.{quotas}
use Rattle.definition.specs.Sampling.{sent_by, leaf_cover}
use Rattle.definition.specs.Tree.{next_active}
use Rattle.rows.specs.Rows.{GoodRows}
use Rattle.definition.specs.Packed.{row_numbers}
use Rattle.packed.specs.Reading.{own_start, own_count, own_at}
use Rattle.overlap_owners.specs.Own.{Leaves}

-- the active rows that the leaves with these own rows send up, `size` in all
unfoldable pub sent_rows : ℕ → List Float → List ℕ → List (List ℕ) → ℕ → List ℕ
sent_rows d cs active own size = next_active active (zip_with (sent_by d cs) own (quotas (map length own) size))

-- the cover of each of these leaves
unfoldable pub sent_covers : ℕ → List Float → List (List ℕ) → ℕ → List Float
sent_covers d cs own size = zip_with (leaf_cover d cs) own (zip_with (sent_by d cs) own (quotas (map length own) size))

-- ---- leaves that the domain rows from `first` on name

-- how many rows each of m leaves has
abbrev pub counts_at : List ℕ → ℕ → ℕ → List ℕ
counts_at D first m = map (λ l. own_count D (first + l)) (from 0 m)

-- the rows that the first m leaves send up at these quotas, leaf after leaf
abbrev pub sent_at : ℕ → List Float → List ℕ → List ℕ → ℕ → List ℕ → ℕ → List ℕ
sent_at d cs I D first shares m = joined (map (λ l. sent_by d cs (own_at I D (first + l)) (get_or shares l 0)) (from 0 m))

-- the covers of what they send
abbrev pub covers_at : ℕ → List Float → List ℕ → List ℕ → ℕ → List ℕ → ℕ → List Float
covers_at d cs I D first shares m = map (λ l. leaf_cover d cs (own_at I D (first + l)) (sent_by d cs (own_at I D (first + l)) (get_or shares l 0))) (from 0 m)

-- active rows, and m leaves that share them out, each with its own rows in their order
pub record SendsUp (d : ℕ) (cs : List Float) (active I D : List ℕ) (first m : ℕ) : Type 0 where
  pub axes : d ≤ 3
  pub rows : GoodRows d cs active
  pub leaves : Leaves active I D first m
  pub ascend : (l : ℕ) → l < m → Ascends (own_at I D (first + l))

-- what the sampling of the leaf at the domain row r asks: k floats of working room
pub record LeafFits (d : ℕ) (cs : List Float) (I D : List ℕ) (r quota k : ℕ) : Type 0 where
  pub axes : d ≤ 3
  pub row : row_numbers * (r + 1) ≤ length D
  pub stretch : own_start D r + own_count D r ≤ length I
  pub rows : GoodRows d cs (own_at I D r)
  pub floats : own_count D r ≤ k
  pub within : quota ≤ own_count D r

-- the same of m leaves with these quotas, which add up to n
pub record LeavesFit (d : ℕ) (cs : List Float) (I D : List ℕ) (first m : ℕ) (shares : List ℕ) (n k : ℕ) : Type 0 where
  pub each : (l : ℕ) → l < m → LeafFits d cs I D (first + l) (get_or shares l 0) k
  pub listed : length shares ≡ m
  pub fits : total (map (λ l. get_or shares l 0) (from 0 m)) ≡ n
