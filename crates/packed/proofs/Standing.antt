-- The level number t of levels that stand in the lists: its rows and its domain rows are inside. In the code's terms: a and j are the
-- sums of the counts before it. Assumes nothing.
use mathlib.Core.Path.{◌≡◌}
use Prim.Native.Nat.{ℕ, zero, suc, ◌+◌, ◌≤◌, ◌<◌}
use native.Mathlib.Omega.{arith}
use mathlib.Core.List.{List}
use lib.ListN.{length, get_or}
use Rattle.lists.proofs.Sums.{total-below}
use Rattle.packed.specs.Reading.{Packed, up_to, RowFits, Stands}

module _ (p : Packed) (level_points rows counts : List ℕ) (t a j : ℕ) (ea : a ≡ up_to rows t) (ej : j ≡ up_to counts t) (n : ℕ)
    (s : Stands p level_points rows counts n) (h : t < n) where
  pub rows_inside : a + get_or rows t 0 ≤ length level_points
  rows_inside = omega (arith, total-below rows t n h, s.within)

  pub row_fits : (i : ℕ) → i < get_or counts t 0 → RowFits p (j + i)
  row_fits i g = s.fits (j + i) (omega (arith, total-below counts t n h))

  pub domains-inside : j + get_or counts t 0 ≤ length p.domains
  domains-inside = below (j + get_or counts t 0) (omega (arith, total-below counts t n h))
    where
      below : (k : ℕ) → k ≤ up_to counts n → k ≤ length p.domains
      below zero g = omega arith
      below (suc k) g = omega (arith, (s.fits k (omega arith)).row)
