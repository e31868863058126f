-- Lists of the stated sizes can hold a tree in a file that is no larger than the sizes. Assumes nothing.
-- Holds: boxes-many, Few, fits-few, can-hold
use mathlib.Core.Path.{◌≡◌}
use mathlib.Core.Bool.{true, ◌&&◌}
use mathlib.Core.List.{List}
use Prim.Native.Nat.{ℕ, ◌*◌, ◌≤◌}
use native.Mathlib.Omega.{arith}
use native.Mathlib.Nat.{mul-le-mul_left, le_trans}
use borrow.Author.Tests.{leb-true}
use lib.Dec.{leb}
use lib.ListN.{length, drop}
use Rattle.lists.proofs.Tests.{and-fst, and-snd}
use Rattle.definition.specs.Tree.{Level}
use Rattle.definition.specs.Packed.{row_floats_lem, most_levels, most_rows, leaves_in_lem, packed_level_points, packed_internals, packed_domains, packed_boxes, packed_borrowed, tree_stated}
use Rattle.definition_laws.proofs.Fit.{length-domains}
use Rattle.packed.specs.Reading.{Packed}
use Rattle.stored.specs.Sound.{fits}
use Rattle.load_lists.specs.Places.{tree_from, CanHold}
use Rattle.load_lists.proofs.Ahead.{levels-wide}

-- each domain has a box of all its bounds, and a cover
pub boxes-many : (d at : ℕ) (file : List ℕ) → length (packed_boxes (tree_from d at file)) ≡ row_floats_lem d * length (leaves_in_lem (tree_from d at file))
unfolding packed_boxes
boxes-many d at file = levels-wide d most_levels (drop at file)

-- the four tests
pub record Few (d n neighbours : ℕ) (ls : List Level) : Type 0 where
  pub points : length (packed_level_points ls) ≤ (tree_stated d n neighbours).level_points
  pub internals : length (packed_internals ls) ≤ (tree_stated d n neighbours).internals
  pub domains : length (packed_domains ls) ≤ (tree_stated d n neighbours).domains
  pub borrowed : length (packed_borrowed ls) ≤ (tree_stated d n neighbours).borrowed

pub fits-few : (d n neighbours : ℕ) (ls : List Level) → fits d n neighbours ls ≡ true → Few d n neighbours ls
unfolding fits
fits-few d n neighbours ls h =
    let stated = tree_stated d n neighbours in
    let a = leb (length (packed_level_points ls)) stated.level_points in
    let b = leb (length (packed_internals ls)) stated.internals in
    let c = leb (length (packed_domains ls)) stated.domains in
    let e = leb (length (packed_borrowed ls)) stated.borrowed in
    let three = and-fst (a && b && c) e h in
    let two = and-fst (a && b) c three in
    record {
      points = leb-true (length (packed_level_points ls)) stated.level_points (and-fst a b two);
      internals = leb-true (length (packed_internals ls)) stated.internals (and-snd a b two);
      domains = leb-true (length (packed_domains ls)) stated.domains (and-snd (a && b) c three);
      borrowed = leb-true (length (packed_borrowed ls)) stated.borrowed (and-snd (a && b && c) e h);
    }

pub can-hold : (d n neighbours at : ℕ) (file P : List ℕ) (p : Packed) → fits d n neighbours (tree_from d at file) ≡ true
    → (tree_stated d n neighbours).level_points ≤ length P → (tree_stated d n neighbours).internals ≤ length p.internals
    → (tree_stated d n neighbours).domains ≤ length p.domains → (tree_stated d n neighbours).boxes ≤ length p.boxes
    → (tree_stated d n neighbours).borrowed ≤ length p.borrowed → CanHold (tree_from d at file) P p
unfolding tree_stated
can-hold d n neighbours at file P p h lP lI lD lB lL =
    let f = fits-few d n neighbours (tree_from d at file) h in
    let rows : length (leaves_in_lem (tree_from d at file)) ≤ most_rows n = omega (arith, f.domains, length-domains (tree_from d at file)) in
    record {
      points = le_trans f.points lP;
      internals = le_trans f.internals lI;
      domains = le_trans f.domains lD;
      boxes = omega (arith, boxes-many d at file, mul-le-mul_left (row_floats_lem d) rows, lB);
      borrowed = le_trans f.borrowed lL;
    }
