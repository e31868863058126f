-- Rows renamed with their coordinates: distances and extents stay. Assumes nothing.
-- Holds: part_in, distance-same, sq-kept, apart-kept, column-kept, extents-kept, extent-kept, axis-kept
use mathlib.Core.Path.{◌≡◌, refl, ap, ap₂, ◌∙◌}
use mathlib.Core.List.{List, ◌++◌, map, map-map}
use Prim.Native.Nat.{ℕ, zero, suc, ◌-◌, ◌≤◌, ◌<◌}
use native.Mathlib.Omega.{arith}
use lib.Ieee.{Float, lt}
use Rattle.lists.specs.Lists.{from}
use Rattle.lists.specs.Ascends.{All}
use Rattle.lists.specs.Times.{times}
use Rattle.lists.proofs.All.{all-mem}
use Rattle.lists.proofs.From.{from-mem, all_from}
use Rattle.lists.proofs.Map.{map_same}
use Rattle.lists.proofs.Times.{from-times, to-times}
use Rattle.definition.specs.Number.{plus, minus, product, square_root_lem}
use Rattle.definition.specs.Points.{coordinate, distance_sq_lem, distance, rows_sq, rows_apart, least_of, greatest_of, column, lower_bound_lem, upper_bound_lem, extents, extent}
use Rattle.definition.specs.Cut.{longest_axis_lem}
use Rattle.renaming_laws.specs.Renaming.{Renames}
use Rattle.renaming_laws.proofs.RenamedLists.{best-same}
use Rattle.renaming_laws.proofs.RenamedKeys.{In}

-- some of the rows that are renamed are renamed
pub part_in : (all rows part : List ℕ) → All (In all) rows → ((r : ℕ) → times r part ≤ times r rows) → All (In all) part
part_in all rows part h le = from-times (In all) part (λ r m. to-times (In all) rows h r (omega (arith, le r)))

-- the squared distance looks at its axes only
pub distance-same : (k : ℕ) (p p' q q' : ℕ → Float) → ((a : ℕ) → a < k → p' a ≡ p a) → ((a : ℕ) → a < k → q' a ≡ q a) → distance_sq_lem k p' q' ≡ distance_sq_lem k p q
unfolding distance_sq_lem
distance-same zero p p' q q' h g = refl
distance-same (suc a) p p' q q' h g =
    ap₂ (λ (s t : Float). plus s (product t t)) (distance-same a p p' q q' (λ b l. h b (omega arith)) (λ b l. g b (omega arith)))
    (ap₂ minus (h a (omega arith)) (g a (omega arith)))

module _ (d : ℕ) (cs cs' : List Float) (all : List ℕ) (f : ℕ → ℕ) (r : Renames d cs cs' all f) where
  -- ---- distances
  pub sq-kept : (i j : ℕ) → In all i → In all j → rows_sq d cs' (f i) (f j) ≡ rows_sq d cs i j
  unfolding rows_sq
  sq-kept i j p q = distance-same d (coordinate d cs i) (coordinate d cs' (f i)) (coordinate d cs j) (coordinate d cs' (f j)) (λ a l. r.points i a p l) (λ a l. r.points j a q l)

  pub apart-kept : (i j : ℕ) → In all i → In all j → rows_apart d cs' (f i) (f j) ≡ rows_apart d cs i j
  unfolding rows_apart distance
  apart-kept i j p q =
      ap square_root_lem (distance-same d (coordinate d cs i) (coordinate d cs' (f i)) (coordinate d cs j) (coordinate d cs' (f j)) (λ a l. r.points i a p l) (λ a l. r.points j a q l))

  -- ---- extents
  module _ (rows : List ℕ) (h : All (In all) rows) where
    pub column-kept : (a : ℕ) → a < d → column d cs' (map f rows) a ≡ column d cs rows a
    column-kept a l =
        map-map (λ (i : ℕ). coordinate d cs' i a) f rows
        ∙ map_same (λ i. coordinate d cs' (f i) a) (λ i. coordinate d cs i a) rows (λ i m. r.points i a (all-mem (In all) rows h i m) l)

    lower-kept : (a : ℕ) → a < d → lower_bound_lem d cs' (map f rows) a ≡ lower_bound_lem d cs rows a
    lower-kept a l = ap least_of (column-kept a l)

    upper-kept : (a : ℕ) → a < d → upper_bound_lem d cs' (map f rows) a ≡ upper_bound_lem d cs rows a
    upper-kept a l = ap greatest_of (column-kept a l)

    pub extents-kept : extents d cs' (map f rows) ≡ extents d cs rows
    unfolding extents
    extents-kept =
        ap₂ (λ (x y : List Float). x ++ y)
        (map_same (lower_bound_lem d cs' (map f rows)) (lower_bound_lem d cs rows) (from 0 d) (λ a m. lower-kept a (omega (arith, from-mem 0 d m))))
        (map_same (upper_bound_lem d cs' (map f rows)) (upper_bound_lem d cs rows) (from 0 d) (λ a m. upper-kept a (omega (arith, from-mem 0 d m))))

    pub extent-kept : (a : ℕ) → a < d → extent d cs' (map f rows) a ≡ extent d cs rows a
    unfolding extent
    extent-kept a l = ap₂ minus (upper-kept a l) (lower-kept a l)

    -- the axis that is cut
    pub axis-kept : 0 < d → longest_axis_lem d cs' (map f rows) ≡ longest_axis_lem d cs rows
    unfolding longest_axis_lem
    axis-kept pos =
        best-same (λ a. a < d) (λ a b. lt (extent d cs rows b) (extent d cs rows a)) (λ a b. lt (extent d cs' (map f rows) b) (extent d cs' (map f rows) a))
        (λ a b l m. ap₂ (λ (x y : Float). lt x y) (extent-kept b m) (extent-kept a l))
        0 (from 1 (d - 1)) pos (all_from (λ a. a < d) 1 (d - 1) (λ i l k. omega arith))
