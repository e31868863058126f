-- The sizes and depths of a level's leaves, from the number of active rows and the leaf threshold alone. Definitions only.
use Rattle.std.specs.Prelude.{ℕ, zero, suc, ◌*◌, ◌/◌, ◌-◌, cond, List, [], ◌∷◌, ◌++◌, leb}

-- how many rows a domain has, and how deep it is
pub record Sized : Type 0 where
  pub size : ℕ
  pub depth : ℕ

-- its halves, one deeper: the left one has half its rows, rounded down, and the right one the rest
abbrev pub left_sized : Sized → Sized
left_sized z = record { size = z.size / 2; depth = suc z.depth }

abbrev pub right_sized : Sized → Sized
right_sized z = record { size = z.size - z.size / 2; depth = suc z.depth }

-- The leaves' sizes and depths for a queue of waiting ones. The first is cut. Where its size is at least 2 times the leaf threshold both
-- halves wait at the end; otherwise they are the next two leaves. `fuel` bounds the number of cuts.
unfoldable pub shape_queue : ℕ → ℕ → List Sized → List Sized
shape_queue leaf zero zs = []
shape_queue leaf (suc fuel) [] = []
shape_queue leaf (suc fuel) (z ∷ zs) =
    let l = left_sized z in
    let r = right_sized z in
    let wait = shape_queue leaf fuel (zs ++ l ∷ r ∷ []) in
    let done = l ∷ r ∷ shape_queue leaf fuel zs in
    cond (leb (2 * leaf) z.size) wait done

-- of a level with n active rows
unfoldable pub shape : ℕ → ℕ → List Sized
shape leaf n = shape_queue leaf (2 * n) (record { size = n; depth = 0 } ∷ [])
