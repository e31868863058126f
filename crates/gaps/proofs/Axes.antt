-- The gap of a row, axis by axis: the loop's invariant, with its start, its turn and its end. Assumes nothing.
-- Holds: gap_on, gap-first, gap-more, gap-all
use mathlib.Core.Path.{◌≡◌, refl, sym, ap, ◌∙◌}
use mathlib.Core.List.{List}
use Prim.Native.Nat.{ℕ, ◌+◌, ◌≤◌, ◌<◌}
use native.Mathlib.Nat.{le_antisymm}
use native.Mathlib.Numerals.{add-one}
use native.Mathlib.Omega.{arith}
use lib.ListN.{length, get_or, take, get_or-append}
use lib.Seq.{length-take-le, get_or-take}
use lib.Ieee.{Float, nan}
use Rattle.std.proofs.lemmas.List.{get_or-append-add}
use Rattle.definition.specs.Number.{plus_zero, plus, minus, product}
use Rattle.definition.specs.Points.{coordinate, distance_sq_lem}
use Rattle.definition.specs.Gap.{lower_at, upper_at, clamped, row_gap, gap_sq}
use Rattle.boxes.specs.declared.Extents.{Extents}
use Rattle.boxes.specs.Boxes.{floats_of}

module _ (b : Extents) (a : ℕ) (h : a < b.dimensions) where
  lower-is : b.dimensions ≤ length b.lower → get_or b.lower a nan ≡ lower_at (floats_of b) a
  unfolding floats_of
  lower-is l =
      let n = length-take-le b.dimensions b.lower l in
      sym (get_or-append (take b.dimensions b.lower) (take b.dimensions b.upper) nan a (omega arith) ∙ get_or-take b.dimensions b.lower a nan h)

  upper-is : b.dimensions ≤ length b.lower → get_or b.upper a nan ≡ upper_at b.dimensions (floats_of b) a
  unfolding floats_of
  upper-is l =
      let n = length-take-le b.dimensions b.lower l in
      sym (ap (λ (k : ℕ). get_or (floats_of b) (k + a) nan) (sym n)
      ∙ get_or-append-add (take b.dimensions b.lower) (take b.dimensions b.upper) a nan ∙ get_or-take b.dimensions b.upper a nan h)

-- the gap of row i to a box, on its first k axes
abbrev pub gap_on : ℕ → ℕ → List Float → List Float → ℕ → Float
gap_on k d cs box i = distance_sq_lem k (coordinate d cs i) (λ a. clamped (lower_at box a) (upper_at d box a) (coordinate d cs i a))

module _ (d : ℕ) (cs : List Float) (b : Extents) (i : ℕ) where
  pub gap-first : plus_zero ≡ gap_on 0 d cs (floats_of b) i
  unfolding distance_sq_lem
  gap-first = refl

  -- one axis more
  pub gap-more : b.dimensions ≡ d → length b.lower ≡ 3 → d ≤ 3 → (k : ℕ) (s x y : Float) → k < d → s ≡ gap_on k d cs (floats_of b) i
      → x ≡ coordinate d cs i k → y ≡ clamped (get_or b.lower k nan) (get_or b.upper k nan) x
      → plus s (product (minus x y) (minus x y)) ≡ gap_on (k + 1) d cs (floats_of b) i
  unfolding distance_sq_lem
  gap-more e l few k s x y h es ex ey =
      let p = lower-is b k (omega arith) (omega arith) in
      let q : get_or b.upper k nan ≡ upper_at d (floats_of b) k = upper-is b k (omega arith) (omega arith) ∙ ap (λ (n : ℕ). upper_at n (floats_of b) k) e in
      rw (add-one, es, ey, p, q, ex)

  -- no axis is left
  pub gap-all : (k : ℕ) (s : Float) → k ≤ d → d ≤ k → s ≡ gap_on k d cs (floats_of b) i → s ≡ row_gap d cs (floats_of b) i
  unfolding row_gap gap_sq
  gap-all k s h g es = es ∙ ap (λ (n : ℕ). gap_on n d cs (floats_of b) i) (le_antisymm h g)
