-- A set of rows as bits, 64 to a word. A set is a test of a row. Definitions only.
use Rattle.std.specs.Prelude.{◌≡◌, ℕ, ◌+◌, ◌-◌, ◌*◌, ◌/◌, ◌%◌, ◌^◌, ◌≤◌, ◌<◌, Bool, false, List, length, get_or, set}
use Rattle.lists.specs.Lists.{one_if}

-- the bit of row i: 0 or 1
unfoldable pub bit_at : List ℕ → ℕ → ℕ
bit_at ws i = get_or ws (i / 64) 0 / 2 ^ (i % 64) % 2

-- the words with row i marked, and with its mark taken away
unfoldable pub marking : List ℕ → ℕ → List ℕ
marking ws i = set ws (i / 64) (get_or ws (i / 64) 0 + 2 ^ (i % 64))

unfoldable pub unmarking : List ℕ → ℕ → List ℕ
unmarking ws i = set ws (i / 64) (get_or ws (i / 64) 0 - 2 ^ (i % 64))

-- bit i is 1 exactly where row i is in the set; past the words no row is
pub record Marked (ws : List ℕ) (p : ℕ → Bool) : Type 0 where
  pub bit : (i : ℕ) → i < 64 * length ws → bit_at ws i ≡ one_if (p i)
  pub beyond : (i : ℕ) → 64 * length ws ≤ i → p i ≡ false
