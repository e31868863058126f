-- What two sets of rows keep, those left and those listed, and what the test of a domain's rows says. Definitions only.
use Rattle.std.specs.Prelude.{◌≡◌, ℕ, Bool, true, ◌&&◌, List, length}
use Rattle.tree_tests.specs.InTurn.{without, in_order_lem}
use Rattle.marks.specs.Bits.{bit_at, Marked}

-- the words of two sets are as many, and the first set lies inside the second
pub record LeftIsListed (left listed : List ℕ) : Type 0 where
  pub same_length : length left ≡ length listed
  pub among : (i : ℕ) → bit_at left i ≡ 1 → bit_at listed i ≡ 1

-- The rows of a domain, tested against what is left, p, and what is listed, q; where they pass, the own rows are out of p, and q is as it was.
pub record RowsPassed (own borrowed : List ℕ) (p q : ℕ → Bool) (left listed : List ℕ) (r : Bool) : Type 0 where
  pub tests : r ≡ in_order_lem 0 p own && in_order_lem 0 (without own q) borrowed
  pub left_set : r ≡ true → Marked left (without own p)
  pub listed_set : r ≡ true → Marked listed q
