-- Rows that can be marked one after the other. Definitions only.
use Rattle.std.specs.Prelude.{◌≡◌, ℕ, ◌*◌, ◌<◌, List, length}
use Rattle.lists.specs.Ascends.{All, Ascends}
use Rattle.marks.specs.Bits.{bit_at}

-- they ascend, the words have a bit for each, and none of them is marked yet
pub record Markable (rows ws : List ℕ) : Type 0 where
  pub ascends : Ascends rows
  pub within : All (λ i. i < 64 * length ws) rows
  pub clear : All (λ i. bit_at ws i ≡ 0) rows
