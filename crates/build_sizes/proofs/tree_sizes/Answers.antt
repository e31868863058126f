-- `build_sizes::tree_sizes` meets its contract: no product is too large for its type. Assumes nothing.
use Prim.Native.Nat.{ℕ, ◌*◌, ◌≤◌}
use native.Mathlib.Nat.{mul-le-mul}
use native.Mathlib.Omega.{arith}
use Rattle.definition.specs.Packed.{row_floats_lem, most_rows, tree_stated}
use Rattle.definition.specs.Refusals.{most_points}
use borrow.Author.Rules.{rules}
use Rattle.build_sizes.proofs.tree_sizes.Goals as goal

-- a product of bounded numbers
product : (x y a b : ℕ) → x ≤ a → y ≤ b → x * y ≤ a * b
product x y a b h k = mul-le-mul h k

pub floats_before-requires : goal.floats_before-requires
floats_before-requires c = let a = c.args in
    (search rules, rw c.most_domains-rows.ensures (omega (arith, product (row_floats_lem a.dimensions) (most_rows a.n) (row_floats_lem 3) (most_rows most_points) (omega arith) (omega arith))))

pub returns : goal.returns
unfolding tree_stated
returns c = rw (c.floats_before.ensures, c.most_domains-rows.ensures, c.most_borrowed.ensures)
