-- What the test of one more leaf says, and what it leaves of the two sets of rows. Definitions only.
use Rattle.std.specs.Prelude.{◌≡◌, ℕ, ◌-◌, Bool, true, ◌&&◌, List, length, Option, is_some, IfSome}
use Rattle.tree_tests.specs.InTurn.{without, in_order_lem, depth_passes_lem}
use Rattle.marks.specs.Bits.{Marked}
use Rattle.leaf_tests.specs.declared.LeavesPassed.{LeavesPassed}

-- Its rows are tested against what is left, p, and what is listed, q, and its depth against that of the leaf before, in a level of so many rows.
-- Where it passes, its own rows are out of p, and q is as it was.
pub record LeafPassed (coarse : Bool) (rows : ℕ) (own borrowed : List ℕ) (depth : ℕ) (before : LeavesPassed) (p q : ℕ → Bool) (left listed : List ℕ) (r : Option LeavesPassed) : Type 0 where
  pub tests : is_some r ≡ (in_order_lem 0 p own && in_order_lem 0 (without own q) borrowed) && depth_passes_lem coarse rows before.least (length own) depth
  pub remaining : IfSome r (λ x. x.remaining ≡ before.remaining - length own)
  pub depth_last : IfSome r (λ x. x.least ≡ depth)
  pub left_set : is_some r ≡ true → Marked left (without own p)
  pub listed_set : is_some r ≡ true → Marked listed q
