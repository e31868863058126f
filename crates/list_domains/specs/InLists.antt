-- The tests of leaves that stand in packed lists, one domain row after the other. Inner contracts cite them; `domains-held` and `held-domains`
-- say that they come to the tests of the leaves in turn and to the domain rows that packing gives them. Definitions only.
use Rattle.std.specs.Prelude.{ℕ, zero, suc, ◌+◌, ◌-◌, Bool, ◌&&◌, List, leb, eqb}
use Rattle.definition.specs.Packed.{DomainRow}
use Rattle.packed.specs.Reading.{Packed, own_count, borrowed_count, depth_at, row_at, read_leaf}
use Rattle.tree_tests.specs.InTurn.{without, fitted, leaf_passes}

-- A domain row: its own rows start at a and are at most the k rows left, and its borrowed rows start at b and end by `most`.
unfoldable pub stretches_fit_lem : DomainRow → ℕ → ℕ → ℕ → ℕ → Bool
stretches_fit_lem r most a b k =
    eqb r.own_start a && eqb r.borrowed_start b && leb r.own_count k && leb r.borrowed_count (most - b)

-- the domain row number j, and its leaf, in a level of so many rows, where the leaf before is at depth `least`
unfoldable pub domain_passes : Bool → Packed → ℕ → ℕ → (ℕ → Bool) → (ℕ → Bool) → ℕ → ℕ → ℕ → ℕ → ℕ → Bool
domain_passes coarse p most rows listed left j a b k least =
    stretches_fit_lem (row_at p.domains j) most a b k && leaf_passes (fitted p.dimension coarse rows least) listed left k (read_leaf p j)

-- m domain rows from the row number j on, each stretch starting where the last one of its list ended, and no row left after them
unfoldable pub domains_pass : Bool → Packed → ℕ → ℕ → (ℕ → Bool) → (ℕ → Bool) → ℕ → ℕ → ℕ → ℕ → ℕ → ℕ → Bool
domains_pass coarse p most rows listed left j a b k least zero = eqb k 0
domains_pass coarse p most rows listed left j a b k least (suc m) =
    domain_passes coarse p most rows listed left j a b k least
    && domains_pass coarse p most rows listed (without (read_leaf p j).own left) (suc j) (a + own_count p.domains j)
    (b + borrowed_count p.domains j) (k - own_count p.domains j) (depth_at p.domains j) m

-- where their borrowed rows end
unfoldable pub borrowed_end : List ℕ → ℕ → ℕ → ℕ → ℕ
borrowed_end domains j b zero = b
borrowed_end domains j b (suc m) = borrowed_end domains (suc j) (b + borrowed_count domains j) m
