-- The coarse threshold (module 3), the number of reductions and the size of the next level (module 4): whole numbers only.
-- Definitions only.
use Rattle.std.specs.Prelude.{ℕ, zero, suc, ◌+◌, ◌-◌, ◌*◌, ◌/◌, ◌^◌, min, max, leb}
use Rattle.lists.specs.Lists.{least}

-- the policy of the coarse threshold
pub data Policy : Type 0 where
  auto : Policy
  fixed : ℕ → Policy

-- the policy that stands for a number, with its threshold: 0 is auto, any other number a fixed threshold of c
abbrev pub policy_from : ℕ → ℕ → Policy
policy_from zero c = auto
policy_from (suc p) c = fixed c

-- c: as it is set, or the ceiling of n / 32, held between 512 and 4,096
unfoldable pub threshold : Policy → ℕ → ℕ
threshold auto n = max 512 (min 4096 ((n + 31) / 32))
threshold (fixed c) n = c

-- k: the least count with c * f ^ k at least n. A call that is accepted has at most 3; 4 stands for more.
unfoldable pub reductions : ℕ → ℕ → ℕ → ℕ
reductions n c f = least (λ k. leb n (c * f ^ k)) 4

-- the least m with m ^ r at least c * a ^ (r - 1); no m above a is asked for, since c is at most a
unfoldable pub exact_size_lem : ℕ → ℕ → ℕ → ℕ
exact_size_lem a c r = least (λ m. leb (c * a ^ (r - 1)) (m ^ r)) a

-- S: that number, held between 1 and a - 1
unfoldable pub level_size_lem : ℕ → ℕ → ℕ → ℕ
level_size_lem a c r = max 1 (min (a - 1) (exact_size_lem a c r))
