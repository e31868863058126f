-- The rounded gap to a box is never above the rounded squared distance to a point in it. Assumes nothing.
use mathlib.Core.Path.{◌≡◌}
use mathlib.Core.Bool.{Bool, true, false, cond}
use mathlib.Core.List.{List, Memᴰ}
use Prim.Native.Nat.{ℕ, zero, suc, ◌+◌, ◌<◌}
use native.Mathlib.Omega.{arith}
use lib.Dec.{T}
use lib.Ieee.{Float, lt, le}
use lib.Ieee.Scale.{finite}
use Rattle.lists.proofs.All.{all-mem}
use Rattle.definition.specs.Number.{plus_zero, minus}
use Rattle.definition.specs.Points.{coordinate, distance_sq_lem, rows_sq}
use Rattle.definition.specs.Gap.{lower_at, upper_at, clamped, gap_sq, row_gap}
use Rattle.root_laws.proofs.Operations.{square-good, sub_number, finite_number, zero-good}
use Rattle.root_laws.proofs.Order.{view, not-lt→le, lt_irrefl}
use Rattle.rows.specs.Rows.{FiniteRow}
use Rattle.definition_laws.proofs.Finite.{finite-sq-good}
use Rattle.gap_laws.specs.Boxed.{InBox, Holds}
use Rattle.gap_laws.proofs.Monotone.{plus-mono}
use Rattle.gap_laws.proofs.Axis.{square, axis-nearer}

clamped-finite : (lo hi x : Float) → finite lo ≡ true → finite hi ≡ true → finite x ≡ true → finite (clamped lo hi x) ≡ true
unfolding clamped
clamped-finite lo hi x a b c = go (lt x lo) (lt hi x)
  where
    go : (p q : Bool) → finite (cond p lo (cond q hi x)) ≡ true
    go true q = a
    go false true = b
    go false false = c

-- THE GAP LAW. For finite coordinates and bounds: the gap of q to a box is at most the squared distance of q to each point in the box, each
-- by its rounded steps. (`le` on values that are not NaN; +infinity is at most +infinity.)
pub gap-law :
    (d : ℕ) (box : List Float) (q p : ℕ → Float)
    → ((a : ℕ) → a < d → finite (lower_at box a) ≡ true) → ((a : ℕ) → a < d → finite (upper_at d box a) ≡ true)
    → ((a : ℕ) → a < d → finite (q a) ≡ true) → ((a : ℕ) → a < d → finite (p a) ≡ true)
    → ((a : ℕ) → a < d → lt (p a) (lower_at box a) ≡ false) → ((a : ℕ) → a < d → lt (upper_at d box a) (p a) ≡ false)
    → T (le (gap_sq d box q) (distance_sq_lem d q p))
unfolding gap_sq distance_sq_lem
gap-law d box q p fl fh fq fp b c = go d (λ a h. h)
  where
    near : ℕ → Float
    near a = clamped (lower_at box a) (upper_at d box a) (q a)

    near-finite : (a : ℕ) → a < d → finite (near a) ≡ true
    near-finite a h = clamped-finite (lower_at box a) (upper_at d box a) (q a) (fl a h) (fh a h) (fq a h)

    go : (k : ℕ) → ((a : ℕ) → a < k → a < d) → T (le (distance_sq_lem k q near) (distance_sq_lem k q p))
    go zero i = not-lt→le (view plus_zero zero-good) (view plus_zero zero-good) (lt_irrefl plus_zero zero-good)
    go (suc k) i =
        let j : (a : ℕ) → a < k → a < d = λ a h. i a (omega (arith, h)) in
        let l : k < d = i k (omega arith) in
        plus-mono (distance_sq_lem k q near) (distance_sq_lem k q p) (square (q k) (near k)) (square (q k) (p k))
        (finite-sq-good k q near (λ a h. fq a (j a h)) (λ a h. near-finite a (j a h)))
        (finite-sq-good k q p (λ a h. fq a (j a h)) (λ a h. fp a (j a h)))
        (square-good (minus (q k) (near k)) (sub_number (q k) (near k) (finite_number (q k) (fq k l)) (near-finite k l)))
        (square-good (minus (q k) (p k)) (sub_number (q k) (p k) (finite_number (q k) (fq k l)) (fp k l)))
        (go k j)
        (axis-nearer (q k) (lower_at box k) (upper_at d box k) (p k) (fq k l) (fl k l) (fh k l) (fp k l) (b k l) (c k l))

-- Of rows: the gap of row i to a box is at most its squared distance to each row that the box holds.
pub row-gap-law : (d : ℕ) (cs box : List Float) (rows : List ℕ) (i j : ℕ) → Holds d cs box rows → FiniteRow d cs i → FiniteRow d cs j → Memᴰ j rows
    → T (le (row_gap d cs box i) (rows_sq d cs i j))
unfolding row_gap rows_sq
row-gap-law d cs box rows i j h f g m =
    let at : InBox d cs box j = all-mem (InBox d cs box) rows h.inside j m in
    gap-law d box (coordinate d cs i) (coordinate d cs j)
    (λ a l. h.bounds a (omega (arith, l))) (λ a l. h.bounds (d + a) (omega (arith, l)))
    f g (λ a l. (at a l).0) (λ a l. (at a l).1)
