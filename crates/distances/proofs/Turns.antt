-- One turn of the loop over the axes, and its end; the squared distance of rows by their coordinates. Assumes nothing.
-- Holds: distance-more, distance-all, distance-same, at-part, rows-square
use mathlib.Core.Path.{◌≡◌, refl, ap, ◌∙◌}
use Prim.Native.Nat.{ℕ, zero, suc, ◌+◌, ◌*◌, ◌≤◌, ◌<◌}
use native.Mathlib.Nat.{le_antisymm, zero-add}
use native.Mathlib.Numerals.{add-one}
use native.Mathlib.Omega.{arith}
use mathlib.Core.List.{List}
use lib.ListN.{length, get_or}
use lib.Ieee.{Float, nan}
use Rattle.lists.specs.Lists.{part}
use Rattle.lists.proofs.Put.{get_d_part}
use Rattle.definition.specs.Number.{plus, minus, product}
use Rattle.definition.specs.Points.{point_at, distance_sq_lem, rows_sq}

-- one axis more of a squared distance
pub distance-more : (p q : List Float) (k : ℕ) (s : Float) → s ≡ distance_sq_lem k (point_at p 0) (point_at q 0)
    → plus s (product (minus (get_or p k nan) (get_or q k nan)) (minus (get_or p k nan) (get_or q k nan))) ≡ distance_sq_lem (k + 1) (point_at p 0) (point_at q 0)
unfolding distance_sq_lem
distance-more p q k s e = rw (add-one, zero-add, e)

-- no axis is left
pub distance-all : (p q : ℕ → Float) (k d : ℕ) (s : Float) → k ≤ d → d ≤ k → s ≡ distance_sq_lem k p q → s ≡ distance_sq_lem d p q
distance-all p q k d s a b e = e ∙ ap (λ (n : ℕ). distance_sq_lem n p q) (le_antisymm a b)

-- of points that agree on the axes in use
pub distance-same : (d : ℕ) (p p' q q' : ℕ → Float) → ((a : ℕ) → a < d → p a ≡ p' a) → ((a : ℕ) → a < d → q a ≡ q' a)
    → distance_sq_lem d p q ≡ distance_sq_lem d p' q'
unfolding distance_sq_lem
distance-same zero p p' q q' h g = refl
distance-same (suc d) p p' q q' h g = rw (distance-same d p p' q q' (λ a b. h a (omega arith)) (λ a b. g a (omega arith)), h d (omega arith), g d (omega arith))

-- the coordinates of a point, as a list of their own and in the list of all
pub at-part : (cs p : List Float) (at d : ℕ) → p ≡ part cs at d → (a : ℕ) → a < d → point_at p 0 a ≡ point_at cs at a
at-part cs p at d e a h = ap (λ (k : ℕ). get_or p k nan) (zero-add a) ∙ ap (λ (l : List Float). get_or l a nan) e ∙ get_d_part cs at d a nan h

-- of two rows, by the lists of their coordinates
pub rows-square : (d : ℕ) (cs : List Float) (i j : ℕ) (p q : List Float) → p ≡ part cs (i * d) d → length p ≡ d → q ≡ part cs (j * d) d
    → distance_sq_lem (length p) (point_at p 0) (point_at q 0) ≡ rows_sq d cs i j
unfolding rows_sq
rows-square d cs i j p q e n f = rw n (distance-same d _ _ _ _ (at-part cs p (i * d) d e) (at-part cs q (j * d) d f))
