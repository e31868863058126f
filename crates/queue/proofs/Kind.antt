-- A kind of domain that the queue cuts, and the leaves of the domains that wait. Assumes nothing.
-- Holds: MayWait, Kind, size_of, halves_of, leaf_rows_lem, kind_own, leaf_own
use mathlib.Core.Path.{◌≡◌}
use Prim.Native.Nat.{ℕ, suc, ◌-◌, ◌*◌, ◌/◌, ◌≤◌, ◌<◌}
use mathlib.Core.List.{List, [], ◌∷◌, ◌++◌, map}
use lib.ListN.{length}
use Rattle.lists.specs.Ascends.{All}
use Rattle.queue.specs.Rows.{Own}

-- the domains that may wait: good ones that have rows
abbrev pub MayWait : {D : Type 0} → (D → List ℕ) → (D → Type 0) → List D → Type 0
MayWait rows_of Good ds = All (λ d. (1 ≤ length (rows_of d)) × Good d) ds

-- A kind of domain, for a leaf threshold: its rows, its depth and its halves, which are one deeper. The cut of a good domain halves its
-- size, rounded down on the left, and its halves are good. `leaves` are the leaves of the domains that wait: where the first is large its halves wait at
-- the end, and otherwise they are the next two leaves.
pub record Kind (D : Type 0) (leaf : ℕ) : Type 1 where
  pub rows_of : D → List ℕ
  pub depth_of : D → ℕ
  pub left : D → D
  pub right : D → D
  pub Good : D → Type 0
  pub left-size : (d : D) → Good d → length (rows_of (left d)) ≡ length (rows_of d) / 2
  pub right-size : (d : D) → Good d → length (rows_of (right d)) ≡ length (rows_of d) - length (rows_of d) / 2
  pub left-depth : (d : D) → depth_of (left d) ≡ suc (depth_of d)
  pub right-depth : (d : D) → depth_of (right d) ≡ suc (depth_of d)
  pub left-good : (d : D) → Good d → Good (left d)
  pub right-good : (d : D) → Good d → Good (right d)
  pub leaves : List D → List D
  pub leaves_none : leaves [] ≡ []
  pub leaves-wait : (d : D) (ds : List D) → MayWait rows_of Good (d ∷ ds) → 2 * leaf ≤ length (rows_of d) → leaves (d ∷ ds) ≡ leaves (ds ++ left d ∷ right d ∷ [])
  pub leaves-done : (d : D) (ds : List D) → MayWait rows_of Good (d ∷ ds) → length (rows_of d) < 2 * leaf → leaves (d ∷ ds) ≡ left d ∷ right d ∷ leaves ds

-- how many rows a domain has; its halves; the rows of the leaves of the domains that wait; and the same with their depths
abbrev pub size_of : {D : Type 0} {leaf : ℕ} → Kind D leaf → D → ℕ
size_of K d = length (K.rows_of d)

abbrev pub halves_of : {D : Type 0} {leaf : ℕ} → Kind D leaf → D → List D
halves_of K d = K.left d ∷ K.right d ∷ []

abbrev pub leaf_rows_lem : {D : Type 0} {leaf : ℕ} → Kind D leaf → List D → List (List ℕ)
leaf_rows_lem K ds = map K.rows_of (K.leaves ds)

abbrev pub kind_own : {D : Type 0} {leaf : ℕ} → Kind D leaf → D → Own
kind_own K d = record { rows = K.rows_of d; depth = K.depth_of d }

abbrev pub leaf_own : {D : Type 0} {leaf : ℕ} → Kind D leaf → List D → List Own
leaf_own K ds = map (kind_own K) (K.leaves ds)
