-- What the laws of the level sizes and of the quotas say. Definitions only: `proofs/LevelLaws.antt` has their proof.
use Rattle.std.specs.Prelude.{ℕ, zero, suc, ◌*◌, ◌^◌, ◌≤◌, ◌<◌, ◌≡◌, cond, List, leb}
use Rattle.definition.specs.Levels.{reductions, level_size_lem}
use Rattle.definition.specs.Quotas.{held_seats, quotas}
use Rattle.definition.specs.Fair.{Fair}

-- how many rows are active after the reductions r, r - 1, .., 1 of a rows, each made only while the active rows outnumber c
unfoldable pub active_after : ℕ → ℕ → ℕ → ℕ
active_after c zero a = a
active_after c (suc r) a = let fewer = active_after c r (level_size_lem a c (suc r)) in cond (leb a c) a fewer

-- the size of the next level, of a active rows at the threshold c, with r reductions left
pub record Sized (a c r : ℕ) : Type 0 where
  pub some : 1 ≤ level_size_lem a c r
  pub fewer : level_size_lem a c r < a
  pub enough : c ≤ level_size_lem a c r
  pub last : r ≡ 1 → level_size_lem a c r ≡ c

-- the levels over n rows: at most three reductions, and then at most c rows are active
pub record Ends (n c f : ℕ) : Type 0 where
  pub few : reductions n c f ≤ 3
  pub small : active_after c (reductions n c f) n ≤ c

-- both, as one record
pub record LevelLaws : Type 0 where
  -- a level size is at least 1 and at least c, below the active count a, and c itself where one reduction is left
  pub sized : (a c r : ℕ) → 1 ≤ c → c < a → 1 ≤ r → Sized a c r
  -- where c * f^3 reaches n, there are at most three reductions, and at most c rows are active after them
  pub ends : (n c f : ℕ) → 1 ≤ c → n ≤ c * f ^ 3 → Ends n c f
  -- the quotas are fair for S seats, held to the total
  pub fair : (sizes : List ℕ) (s : ℕ) → Fair sizes (held_seats sizes s) (quotas sizes s)
