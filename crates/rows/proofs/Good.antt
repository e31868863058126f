-- What good rows have, and that parts of them are good rows. Assumes nothing.
-- Holds: row_fits, good-at, good-mem, good-inside, good-finite, good-place, good-small, good-once, good-good, good-keep,
--   good-first, good-other
use mathlib.Core.Bool.{Bool}
use mathlib.Core.List.{List, Memᴰ}
use Prim.Native.Nat.{ℕ, ◌+◌, ◌*◌, ◌<◌}
use native.Mathlib.Omega.{arith}
use lib.ListN.{length, get_or}
use lib.Ieee.{Float}
use Rattle.lists.specs.Lists.{keep}
use Rattle.lists.specs.Ascends.{All}
use Rattle.lists.specs.Times.{Once}
use Rattle.lists.proofs.All.{all-at, all_keep, all-imp, all-mem}
use Rattle.lists.proofs.Ascends.{ascends-keep, ascends-once}
use Rattle.lists.proofs.Count.{length_both}
use Rattle.lists.proofs.Times.{to-times}
use Rattle.definition.specs.Keys.{keyed, first_rows_lem, other_rows}
use Rattle.definition.proofs.Halves.{first_rows, other-rows}
use Rattle.definition.proofs.Cuts.{Good}
use Rattle.rows.specs.Rows.{row_limit, Inside, FiniteAt, FiniteOn, GoodRow, GoodRows}

-- a row of rows that stand in the list stands in it
pub row_fits : (d : ℕ) (cs : List Float) (rows : List ℕ) → All (Inside d cs) rows → (i : ℕ) → i < length rows → Inside d cs (get_or rows i 0)
row_fits d cs rows inside i b = all-at (Inside d cs) rows i 0 inside b

module _ {d : ℕ} {cs : List Float} (l : List ℕ) (g : GoodRows d cs l) where
  -- ---- each row
  pub good-at : (i : ℕ) → i < length l → GoodRow d cs (get_or l i 0)
  good-at i h = all-at (GoodRow d cs) l i 0 g.each h

  pub good-mem : (i : ℕ) → Memᴰ i l → GoodRow d cs i
  good-mem i m = all-mem (GoodRow d cs) l g.each i m

  -- ---- all rows: inside the list, finite on an axis, below the limit, no row twice
  pub good-inside : All (Inside d cs) l
  good-inside = all-imp (GoodRow d cs) (Inside d cs) l (λ i r. r.inside) g.each

  pub good-finite : (axis : ℕ) → axis < d → FiniteOn d cs axis l
  good-finite axis h = all-imp (GoodRow d cs) (FiniteAt d cs axis) l (λ i r. r.finite_row axis h) g.each

  -- the place of a coordinate is inside the list
  pub good-place : (axis : ℕ) → axis < d → (i : ℕ) → Memᴰ i l → i * d + axis < length cs
  good-place axis h i m = let e = (good-mem i m).inside in omega arith

  pub good-small : All (λ i. i < row_limit) l
  good-small = all-imp (GoodRow d cs) (λ i. i < row_limit) l (λ i r. r.small) g.each

  pub good-once : Once l
  good-once = ascends-once l g.ascends

  -- the definition's laws hold of them
  pub good-good : Good d cs l
  good-good = record { once = good-once; finite-at = λ r m. (to-times (GoodRow d cs) l g.each r m).finite_row }

  -- ---- what is kept
  pub good-keep : (p : ℕ → Bool) → GoodRows d cs (keep p l)
  good-keep p =
      record {
        ascends = ascends-keep p l g.ascends;
        each = all_keep (GoodRow d cs) p l g.each;
        few = omega (arith, g.few, length_both p l);
      }

  -- ---- the halves by any value
  pub good-first : (v : ℕ → Float) (m : ℕ) → GoodRows d cs (first_rows_lem m (keyed v l))
  good-first v m = rw (first_rows v m l) (good-keep _)

  pub good-other : (v : ℕ → Float) (m : ℕ) → GoodRows d cs (other_rows m (keyed v l))
  good-other v m = rw (other-rows v m l) (good-keep _)
