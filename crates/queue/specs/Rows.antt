-- The numbers that the queue and the domain rows hold of a stretch of rows: its start, its count and its domain's depth; the queue also holds
-- the place of the domain's node in the record. Definitions only.
use Rattle.std.specs.Prelude.{ℕ, ◌+◌, ◌-◌, ◌/◌, List, [], ◌∷◌, length}
use Rattle.definition.specs.Cut.{Domain}
use Rattle.packed.specs.Rows.{put_own_lem}

-- how many whole numbers the queue has of a domain that waits
abbrev pub waiting_width : ℕ
waiting_width = 4

-- start, count, depth and place of the two halves, at this depth, of a stretch whose node stands at `place`: its first half, rounded down,
-- with its node behind that one, and the rest, with its node behind the `below` nodes that are under the first half
abbrev pub two_halves : ℕ → ℕ → ℕ → ℕ → ℕ → List ℕ
two_halves start count depth place below =
    start ∷ (count / 2) ∷ depth ∷ (place + 1) ∷ (start + count / 2) ∷ (count - count / 2) ∷ depth ∷ (place + 1 + below) ∷ []

-- the own rows of a leaf, and its depth
pub record Own : Type 0 where
  pub rows : List ℕ
  pub depth : ℕ

abbrev pub domain_own : Domain → Own
domain_own q = record { rows = q.rows; depth = q.depth }

-- A list of domain rows after the rows of leaves that borrow nothing yet were written to it from its k-th row on: the own rows of the
-- first leaf start at `at`, and those of each other one where the last ones ended.
unfoldable pub with_own : ℕ → List Own → ℕ → List ℕ → List ℕ
with_own at [] k list = list
with_own at (l ∷ ls) k list = with_own (at + length l.rows) ls (k + 1) (put_own_lem list k at (length l.rows) l.depth)

-- the same for two leaves, at this depth, that are the halves of `count` rows from `at` on
abbrev pub two_own : List ℕ → ℕ → ℕ → ℕ → ℕ → List ℕ
two_own list k at count depth =
    put_own_lem (put_own_lem list k at (count / 2) depth) (k + 1) (at + count / 2) (count - count / 2) depth
