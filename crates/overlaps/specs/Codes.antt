-- Leaves and positions as numbers, without repeats and leaf by leaf. Definitions only.
use Rattle.std.specs.Prelude.{ℕ, suc, ◌≤◌, ◌<◌, ◌%◌, ◌≡◌, length, get_or}
use mathlib.Core.List.{List, [], ◌∷◌, ◌++◌, map, Memᴰ}
use Rattle.lists.specs.Ascends.{All, Ascends}
use Rattle.rows.specs.Rows.{most_leaves}
use Rattle.overlap_pairs.specs.Pairs.{code}

-- the numbers of the positions that each leaf has, from the leaf l on
unfoldable pub codes_from : ℕ → List (List ℕ) → List ℕ
codes_from l [] = []
codes_from l (ps ∷ pss) = map (code l) ps ++ codes_from (suc l) pss

-- the row of each number
unfoldable pub coded_rows : List ℕ → List ℕ → List ℕ
coded_rows active codes = map (λ c. get_or active (c % most_leaves) 0) codes

-- `new` is `old` in order and without its repeats
pub record Distinct (old new : List ℕ) : Type 0 where
  pub ascends : Ascends new
  pub more : (z : ℕ) → Memᴰ z old → Memᴰ z new
  pub less : (z : ℕ) → Memᴰ z new → Memᴰ z old
  pub short : length new ≤ length old

-- `end` is the first index from `from` on whose number is at least `limit`, or the list's end
pub record Reached (l : List ℕ) (from limit end : ℕ) : Type 0 where
  pub start : from ≤ end
  pub inside : end ≤ length l
  pub under : (k : ℕ) → from ≤ k → k < end → get_or l k 0 < limit
  pub stop : end < length l → limit ≤ get_or l end 0

-- ascending positions below n, a list for each of m leaves
pub record Positions (m n : ℕ) (ls : List (List ℕ)) : Type 0 where
  pub number : length ls ≡ m
  pub ascend : All Ascends ls
  pub below : All (λ l. All (λ q. q < n) l) ls

-- the list holds their numbers, in any order and with repeats
pub record Encoded (m n : ℕ) (codes : List ℕ) (ls : List (List ℕ)) : Type 0 where
  pub lists : Positions m n ls
  pub more : (z : ℕ) → Memᴰ z codes → Memᴰ z (codes_from 0 ls)
  pub less : (z : ℕ) → Memᴰ z (codes_from 0 ls) → Memᴰ z codes
