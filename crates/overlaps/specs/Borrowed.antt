-- What each leaf of a level borrows, the columns of the domain rows that say where, and that the same lists come back. Definitions only.
use Rattle.std.specs.Prelude.{ℕ, ◌+◌, ◌≤◌, ◌≡◌, List, [], ◌∷◌, map, length, Float}
use Rattle.definition.specs.Overlaps.{borrowed_by}
use Rattle.definition.specs.Refusals.{most_neighbours}
use Rattle.rows.specs.Rows.{most_leaves, GoodRows}
use Rattle.packed.specs.Rows.{put_borrowed_lem}
use Rattle.cut_index.specs.Level.{LevelRecord}
use Rattle.overlap_owners.specs.Own.{Leaves}
use Rattle.overlaps.specs.declared.Borrowing.{Borrowing}

-- what the leaves with these own rows borrow
unfoldable pub borrowed_lists : ℕ → List Float → ℕ → List ℕ → List (List ℕ) → List (List ℕ)
borrowed_lists d cs neighbours active own = map (borrowed_by d cs neighbours active) own

-- the domain rows after start and count of borrowed lists, packed from `at` on, were written to them from the k-th on
unfoldable pub with_borrowed : ℕ → List (List ℕ) → ℕ → List ℕ → List ℕ
with_borrowed at [] k D = D
with_borrowed at (l ∷ ls) k D = with_borrowed (at + length l) ls (k + 1) (put_borrowed_lem D k at (length l))

-- what the stage asks: active rows, their leaves and the record of their cuts, as many as fit a number, and room
pub record Stage (d : ℕ) (cs : List Float) (leaf neighbours : ℕ) (active cuts : List ℕ) (planes : List Float) (I D : List ℕ) (first m from : ℕ) : Type 0 where
  pub rows : GoodRows d cs active
  pub leaves : Leaves active I D first m
  pub level : LevelRecord d cs leaf active cuts planes I D first m from
  pub near : neighbours ≤ most_neighbours
  pub few : length active ≤ most_leaves
  pub leaf_few : m ≤ most_leaves

-- both hold the same lists, each as long as it was
pub record SameBorrowing (l m : Borrowing) : Type 0 where
  pub domains : m.domains.ghost_name ≡ l.domains.ghost_name
  pub domains_len : length m.domains.now ≡ length l.domains.now
  pub borrowed : m.borrowed.ghost_name ≡ l.borrowed.ghost_name
  pub borrowed_len : length m.borrowed.now ≡ length l.borrowed.now
