-- A tree, its lists and its refusals with each row renamed, and what a renaming keeps (document 02, request 8). Definitions only.
use Prim.Native.Nat.{ℕ, ◌+◌, ◌*◌, ◌/◌, ◌%◌, ◌<◌}
use mathlib.Core.Path.{◌≡◌}
use mathlib.Core.Bool.{true, cond}
use mathlib.Core.List.{List, ◌++◌, map}
use lib.ListN.{take, drop}
use lib.Dec.{eqb}
use lib.Ieee.{Float}
use Rattle.lists.specs.Lists.{member}
use Rattle.definition.specs.Points.{coordinate}
use Rattle.definition.specs.Tree.{Leaf, Level}
use Rattle.definition.specs.Refusals.{Verdict, accepted, refused}
use Rattle.definition.specs.Outcome.{TreeLists}

-- f keeps the order of these rows; and under its new name each has in cs' the coordinates that it has in cs
pub record Renames (d : ℕ) (cs cs' : List Float) (rows : List ℕ) (f : ℕ → ℕ) : Type 0 where
  pub order : (i j : ℕ) → member i rows ≡ true → member j rows ≡ true → i < j → f i < f j
  pub points : (i a : ℕ) → member i rows ≡ true → a < d → coordinate d cs' (f i) a ≡ coordinate d cs i a

-- ---- a tree: a leaf, and a level, with each row renamed; box, cover and depth stay

abbrev pub renamed_leaf : (ℕ → ℕ) → Leaf → Leaf
renamed_leaf f l =
    record {
      own = map f l.own;
      borrowed = map f l.borrowed;
      box = l.box;
      cover = l.cover;
      depth = l.depth;
    }

abbrev pub renamed_level : (ℕ → ℕ) → Level → Level
renamed_level f l = record { points = map f l.points; leaves = map (renamed_leaf f) l.leaves }

-- ---- the lists of a tree

-- the first k entries renamed, and the rest as it stands
abbrev pub renamed_front : (ℕ → ℕ) → ℕ → List ℕ → List ℕ
renamed_front f k l = map f (take k l) ++ drop k l

-- Of two trees' lists: level points, internals and borrowed rows are renamed, so many of each, and the rest of these lists is the same;
-- domain rows (with the depths) and boxes (with the covers) are the same.
pub record ListsRenamed (f : ℕ → ℕ) (points internals borrowed : ℕ) (old new : TreeLists) : Type 0 where
  pub level_points : new.level_points ≡ renamed_front f points old.level_points
  pub internals_are : new.internals ≡ renamed_front f internals old.internals
  pub domains : new.domains ≡ old.domains
  pub boxes : new.boxes ≡ old.boxes
  pub borrowed_are : new.borrowed ≡ renamed_front f borrowed old.borrowed

-- ---- refusals: 10 names the position of the renamed row's coordinate, on the same axis; every other refusal stays

abbrev pub renamed_place : ℕ → (ℕ → ℕ) → ℕ → ℕ
renamed_place d f p = f (p / d) * d + p % d

abbrev pub renamed_verdict : ℕ → (ℕ → ℕ) → Verdict → Verdict
renamed_verdict d f accepted = accepted
renamed_verdict d f (refused r) = refused (record { number = r.number; place = cond (eqb r.number 10) (renamed_place d f r.place) r.place })
