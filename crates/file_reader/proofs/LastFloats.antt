-- The floats of a domain's record: how many, where its depth stands behind them, the bytes up to its end, and the leaf's box and cover in
-- them. Assumes nothing.
-- Holds: depth-place, leaf-size, fine-floats, coarse-floats
use mathlib.Core.Path.{◌≡◌, refl, sym, ap}
use mathlib.Core.Bool.{Bool, true, false}
use mathlib.Core.List.{List, ◌++◌}
use Prim.Native.Nat.{ℕ, ◌+◌, ◌*◌}
use native.Mathlib.Omega.{arith}
use lib.ListN.{replicate}
use Rattle.lists.specs.Lists.{from}
use Rattle.lists.proofs.From.{map-below-suc}
use Rattle.definition.specs.Number.{plus_zero}
use Rattle.definition.specs.Points.{box_width_lem}
use Rattle.definition.specs.Packed.{row_floats_lem, leaf_floats}
use Rattle.formats.specs.Bytes.{number_size, float_size, float_at, floats_at}
use Rattle.stored.specs.Stored.{bounds_place, depth_place, leaf_in, leaf_size}
use Rattle.file_reader.specs.Fetch.{record_floats_lem}

pub depth-place : (d : ℕ) (coarse : Bool) (bs : List ℕ) → depth_place d coarse bs ≡ bounds_place bs + float_size * record_floats_lem d coarse
depth-place d true bs = omega arith
depth-place d false bs = omega arith

pub leaf-size : (d : ℕ) (coarse : Bool) (bs : List ℕ) → leaf_size d coarse bs ≡ bounds_place bs + float_size * record_floats_lem d coarse + number_size
unfolding leaf_size
leaf-size d coarse bs = ap (λ (k : ℕ). k + number_size) (depth-place d coarse bs)

module _ (d : ℕ) (bs : List ℕ) where
  -- a fine domain's are its row's
  pub fine-floats : leaf_floats (leaf_in d false bs) ≡ floats_at (row_floats_lem d) (bounds_place bs) bs
  unfolding leaf_in floats_at
  fine-floats = sym (map-below-suc (λ i. float_at (bounds_place bs + float_size * i) bs) (box_width_lem d))

  -- the coarse one's is its cover, which stands behind zeros in its row
  pub coarse-floats : leaf_floats (leaf_in d true bs) ≡ replicate (box_width_lem d) plus_zero ++ floats_at 1 (bounds_place bs) bs
  unfolding leaf_in floats_at from
  coarse-floats = refl
