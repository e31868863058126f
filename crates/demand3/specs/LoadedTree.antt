-- The rules of a tree that was loaded, over n rows on d axes: what demand 3 says of the lists and counts alone, whatever settings and
-- points the tree was built from. Its fields have the demand's names where they say the same. Definitions only.
use Rattle.std.specs.Prelude.{ℕ, ◌-◌, ◌≤◌, ◌≡◌}
use Rattle.lists.specs.Lists.{from}
use Rattle.definition.specs.Packed.{most_levels}
use Rattle.demand3.specs.Handed.{Handed, level_count, rows_on_lem, leaves_on, HasNext, listed}
use Rattle.demand3.specs.Demand3.{Rows, NextRows, Counted, SingleDomain}

pub record LoadedTree (d n : ℕ) (h : Handed) : Type 0 where
  -- on the first level all rows are active
  pub first_lists_all : listed h 0 ≡ from 0 n
  -- every level that has a next one: own and borrowed rows of its leaves, and the rows of the next level
  pub each_rows : (l : ℕ) → HasNext h l → Rows h l
  pub each_next : (l : ℕ) → HasNext h l → NextRows h l
  -- at least one level and at most four, the last with a single domain
  pub some_level : 1 ≤ level_count h
  pub few_levels : level_count h ≤ most_levels
  pub last_single : SingleDomain d h (level_count h - 1)
  -- the reported counts are those of the lists, and 0 beyond the last level
  pub counted : (l : ℕ) → Counted h l
  pub none_beyond : (l : ℕ) → level_count h ≤ l → (rows_on_lem h l ≡ 0) × (leaves_on h l ≡ 0)
