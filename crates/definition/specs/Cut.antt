-- The cut of a domain, its box, and the first-in, first-out queue that gives a level's leaves (module 7). Definitions only.
use Rattle.std.specs.Prelude.{ℕ, zero, suc, ◌+◌, ◌*◌, ◌/◌, ◌-◌, cond, List, [], ◌∷◌, ◌++◌, length, set, leb, Float}
use Rattle.std.specs.Float.Ieee.{lt}
use Rattle.lists.specs.Lists.{best, from}
use Rattle.definition.specs.Number.{plus_zero}
use Rattle.definition.specs.Points.{coordinate, extents, extent}
use Rattle.definition.specs.Keys.{Key, keyed, first_rows_lem, other_rows, key_at}

-- a domain: its own rows, ascending, its box (lower bounds by axis, then upper bounds), and its depth, which says how often it was cut
pub record Domain : Type 0 where
  pub rows : List ℕ
  pub box : List Float
  pub depth : ℕ

-- the root: all active rows with their extents, at depth 0
unfoldable pub root_domain : ℕ → List Float → List ℕ → Domain
root_domain d cs active = record { rows = active; box = extents d cs active; depth = 0 }

-- ---- cut

-- the first axis with the longest extent of the domain's own points
unfoldable pub longest_axis_lem : ℕ → List Float → List ℕ → ℕ
longest_axis_lem d cs rows = best (λ a b. lt (extent d cs rows b) (extent d cs rows a)) 0 (from 1 (d - 1))

-- the rows with their coordinates on the axis that is cut
unfoldable pub cut_keys : ℕ → List Float → List ℕ → List Key
cut_keys d cs rows =
    let a = longest_axis_lem d cs rows in
    keyed (λ i. coordinate d cs i a) rows

-- the plane: the coordinate of the right row that came first in the cut's order
unfoldable pub plane_of : List Key → Float
plane_of [] = plus_zero
plane_of (p ∷ ps) = p.value

unfoldable pub plane : ℕ → List Float → List ℕ → Float
plane d cs rows = plane_of (key_at (length rows / 2) (cut_keys d cs rows))

-- left: the first half of the rows, rounded down; the parent's box with the plane as upper bound on the axis; one deeper than the parent
unfoldable pub left_of : ℕ → List Float → Domain → Domain
left_of d cs q =
    record {
      rows = first_rows_lem (length q.rows / 2) (cut_keys d cs q.rows);
      box = set q.box (d + longest_axis_lem d cs q.rows) (plane d cs q.rows);
      depth = suc q.depth;
    }

-- right: the other rows; the parent's box with the plane as lower bound on the axis; one deeper than the parent
unfoldable pub right_of : ℕ → List Float → Domain → Domain
right_of d cs q =
    record {
      rows = other_rows (length q.rows / 2) (cut_keys d cs q.rows);
      box = set q.box (longest_axis_lem d cs q.rows) (plane d cs q.rows);
      depth = suc q.depth;
    }

-- ---- queue

-- The leaves of the waiting domains, in their order. The first domain is cut. Where its size is at least 2 times the
-- leaf threshold its children join the end of the queue, left before right; otherwise they are the next two leaves.
-- `fuel` bounds the number of cuts.
unfoldable pub queue_leaves : ℕ → List Float → ℕ → ℕ → List Domain → List Domain
queue_leaves d cs leaf zero qs = []
queue_leaves d cs leaf (suc fuel) [] = []
queue_leaves d cs leaf (suc fuel) (q ∷ qs) =
    let l = left_of d cs q in
    let r = right_of d cs q in
    let wait = queue_leaves d cs leaf fuel (qs ++ l ∷ r ∷ []) in
    let done = l ∷ r ∷ queue_leaves d cs leaf fuel qs in
    cond (leb (2 * leaf) (length q.rows)) wait done

-- the leaves of a level: fewer than 2 times as many cuts as active rows are made
unfoldable pub leaves_of : ℕ → List Float → ℕ → List ℕ → List Domain
leaves_of d cs leaf active = queue_leaves d cs leaf (2 * length active) (root_domain d cs active ∷ [])
