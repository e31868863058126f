-- A leaf, from its domain row and its stretches as the code lends them. Assumes nothing.
use mathlib.Core.Path.{◌≡◌, sym, ap, ◌∙◌}
use mathlib.Core.List.{List, map-id}
use Prim.Native.Nat.{ℕ, ◌+◌, ◌-◌, ◌*◌, ◌<◌}
use native.Mathlib.Nat.{mul-add}
use native.Mathlib.Omega.{arith}
use lib.ListN.{length, get_or, take, drop}
use lib.Ieee.{Float, nan}
use Rattle.lists.proofs.Map.{get_d-map-in}
use Rattle.lists.proofs.Put.{part-lent}
use Rattle.definition.specs.Number.{plus_zero}
use Rattle.definition.specs.Points.{box_width_lem}
use Rattle.definition.specs.Tree.{Leaf}
use Rattle.definition.specs.Packed.{row_floats_lem}
use Rattle.packed.specs.declared.DomainRow.{DomainRow}
use Rattle.packed.specs.Reading.{Packed, own_start, own_count, borrowed_start, borrowed_count, cover_at, read_leaf, RowFits}
use Rattle.packed.specs.Rows.{IsRow}

-- the cover is within the list, so what a reader takes past its end does not matter
cover-read : (p : Packed) (j : ℕ) → RowFits p j
    → cover_at p.dimension p.boxes j ≡ get_or p.boxes (row_floats_lem p.dimension * j + box_width_lem p.dimension) nan
cover-read p j fits =
    let at = row_floats_lem p.dimension * j + box_width_lem p.dimension in
    let inside : at < length p.boxes = omega (arith, fits.floats, mul-add (row_floats_lem p.dimension) j 1) in
    ap (λ (l : List Float). get_or l at plus_zero) (sym (map-id p.boxes)) ∙ get_d-map-in (λ (x : Float). x) p.boxes at nan plus_zero inside

-- the row r read, the box found at x, with w bounds, and the cover behind it
module _ (p : Packed) (j : ℕ) (r : DomainRow) (e : IsRow r p.domains j) (x w : ℕ) (ex : x ≡ row_floats_lem p.dimension * j)
    (ew : w ≡ box_width_lem p.dimension) (fits : RowFits p j) where
  abbrev pub leaf_lent : Leaf
  leaf_lent =
      let o = r.internal_start in
      let b = r.borrowed_start in
      record {
        own = take (o + r.internal_count - o) (drop o p.internals);
        borrowed = take (b + r.borrowed_count - b) (drop b p.borrowed);
        box = take (x + w - x) (drop x p.boxes);
        cover = get_or p.boxes (x + w) nan;
        depth = r.depth;
      }

  pub leaf-lent : leaf_lent ≡ read_leaf p j
  unfolding read_leaf
  leaf-lent =
      rw (
        e.own_start,
        e.own_count,
        e.borrowed_start,
        e.borrowed_count,
        e.depth,
        ex,
        ew,
        ← part-lent p.internals (own_start p.domains j) (own_count p.domains j),
        ← part-lent p.borrowed (borrowed_start p.domains j) (borrowed_count p.domains j),
        ← part-lent p.boxes (row_floats_lem p.dimension * j) (box_width_lem p.dimension),
        ← cover-read p j fits,
      )
