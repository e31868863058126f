-- The cut of a domain's rows, step by step, as the definition has it. Assumes nothing.
use mathlib.Core.Path.{◌≡◌}
use mathlib.Core.List.{List}
use Prim.Native.Nat.{ℕ, ◌+◌, ◌*◌, ◌<◌}
use lib.ListN.{length}
use lib.Ieee.{Float}
use Rattle.definition.specs.Points.{coordinate}
use Rattle.definition.specs.Cut.{longest_axis_lem, plane_of, plane, cut_keys}
use Rattle.definition.proofs.Cuts.{axis-below}
use Rattle.rows.specs.Rows.{GoodRows}
use Rattle.middle_row.specs.Middle.{MiddleRow}
use Rattle.rows.proofs.Good.{good-place}

-- the plane is the coordinate of the middle row
plane-is : (d : ℕ) (cs : List Float) (rows : List ℕ) (m : ℕ) → MiddleRow d cs (longest_axis_lem d cs rows) rows m → coordinate d cs m (longest_axis_lem d cs rows) ≡ plane d cs rows
unfolding plane plane_of cut_keys
plane-is d cs rows m h = rw h.first

module _ {d : ℕ} {cs : List Float} {rows : List ℕ} (pos : 0 < d) (good : GoodRows d cs rows) {x : ℕ} (e : x ≡ longest_axis_lem d cs rows) where
  pub axis_in : x < d
  axis_in = rw e (axis-below d cs rows pos)

  module _ {m : ℕ} (h : MiddleRow d cs x rows m) where
    pub value_in : m * d + x < length cs
    value_in = good-place rows good x axis_in m h.inside

    pub plane-value : coordinate d cs m x ≡ plane d cs rows
    plane-value = rw e (plane-is d cs rows m (rw e at h))
