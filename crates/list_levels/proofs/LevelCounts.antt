-- The test of a level's row count, case by case. Assumes nothing.
use mathlib.Core.Path.{◌≡◌, refl}
use mathlib.Core.Bool.{false}
use Prim.Native.Nat.{ℕ, zero, suc}
use native.Mathlib.Omega.{arith}
use borrow.Author.Tests.{lt-ltb}
use lib.Dec.{ltb, eqb}
use Rattle.list_levels.specs.InLists.{count_fits_lem}

pub first_count : (t n above rows : ℕ) → t ≡ 0 → eqb rows n ≡ count_fits_lem t n above rows
unfolding count_fits_lem
first_count t n above rows e = rw e

pub no_rows : (t n above rows : ℕ) → (t ≡ 0 → ⊥) → rows ≡ 0 → false ≡ count_fits_lem t n above rows
unfolding count_fits_lem
no_rows zero n above rows h e = absurd (h refl)
no_rows (suc t) n above rows h e = rw e

pub some-rows : (t n above rows : ℕ) → (t ≡ 0 → ⊥) → (rows ≡ 0 → ⊥) → ltb rows above ≡ count_fits_lem t n above rows
unfolding count_fits_lem
some-rows zero n above rows h g = absurd (h refl)
some-rows (suc t) n above zero h g = absurd (g refl)
some-rows (suc t) n above (suc rows) h g = rw (lt-ltb 0 (suc rows) (omega arith))
