-- The boxes of two halves, one behind the other. Assumes nothing.
use mathlib.Core.Path.{◌≡◌, ap, ap₂, ◌∙◌}
use Prim.Native.Nat.{ℕ, ◌-◌, ◌*◌, ◌≤◌}
use native.Mathlib.Omega.{arith}
use mathlib.Core.List.{List, ◌++◌}
use lib.ListN.{length, set, take, drop, length-append, length-set}
use lib.Seq.{length-take-le}
use lib.Ieee.{Float}
use borrow.Rule.Slice.PartMut.{put_mid}
use Rattle.definition.specs.Points.{box_width_lem}
use Rattle.boxes.specs.declared.Extents.{Extents}
use Rattle.boxes.specs.Boxes.{floats_of}
use Rattle.boxes.proofs.Boxed.{both-back}

-- two bounds on each axis
pub length-floats : (b : Extents) → length b.lower ≡ 3 → length b.upper ≡ 3 → b.dimensions ≤ 3 → length (floats_of b) ≡ box_width_lem b.dimensions
unfolding floats_of
length-floats b l u h =
    length-append (take b.dimensions b.lower) (take b.dimensions b.upper)
    ∙ omega (arith, length-take-le b.dimensions b.lower (omega arith), length-take-le b.dimensions b.upper (omega arith))

-- the boxes l and r of the halves are those of a box b with one bound changed, and stand one behind the other
pub two-boxes : (s l r b : List Float) (d n i j : ℕ) (p : Float) → n ≡ box_width_lem d → length b ≡ box_width_lem d → length s ≡ 2 * box_width_lem d → l ≡ set b i p → r ≡ set b j p
    → put_mid n (length (l ++ drop n s) - n) (l ++ drop n s) r ≡ set b i p ++ set b j p
two-boxes s l r b d n i j p en w e el er =
    both-back s l r n (ap length el ∙ length-set b i p ∙ omega arith) (omega (arith, e, ap length er ∙ length-set b j p ∙ w))
    ∙ ap₂ (λ (x y : List Float). x ++ y) el er
