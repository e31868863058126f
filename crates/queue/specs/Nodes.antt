-- How many nodes of the cut record are under a domain, itself too: that goes by its size and the leaf threshold alone. Definitions only.
use Rattle.std.specs.Prelude.{ℕ, zero, suc, ◌+◌, ◌-◌, ◌*◌, ◌/◌, cond, leb}

-- Where the size is at least 2 times the leaf threshold, one node and those under both halves; otherwise three, as the halves are leaves.
-- `fuel` bounds the depth.
unfoldable pub nodes_to : ℕ → ℕ → ℕ → ℕ
nodes_to leaf zero size = 3
nodes_to leaf (suc fuel) size =
    let l = nodes_to leaf fuel (size / 2) in
    let r = nodes_to leaf fuel (size - size / 2) in
    cond (leb (2 * leaf) size) (suc (l + r)) 3

unfoldable pub nodes_under_lem : ℕ → ℕ → ℕ
nodes_under_lem size leaf = nodes_to leaf size size
