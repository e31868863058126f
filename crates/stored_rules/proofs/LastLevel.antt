-- A level with one leaf that passes its tests: the leaf holds the level's rows and borrows none, and its box is +0. Assumes nothing.
-- Holds: no-box-width, last-holds-all, last-borrows-none, last-no-box
use mathlib.Core.Path.{◌≡◌, refl, sym, ap, ◌∙◌}
use mathlib.Core.Bool.{true}
use mathlib.Core.List.{List, [], ◌∷◌, map}
use Prim.Native.Nat.{ℕ, ◌<◌}
use native.Mathlib.Omega.{arith}
use lib.ListN.{length, get_or, replicate, length-map, length-replicate}
use lib.Ieee.{binary64, to_bits}
use Rattle.lists.specs.Lists.{joined}
use Rattle.lists.specs.Ascends.{All}
use Rattle.lists.specs.Times.{times}
use Rattle.lists.proofs.Tests.{both-pass}
use Rattle.lists.proofs.All.{all-at}
use Rattle.lists.proofs.Ascends.{ascends-unique-count}
use Rattle.lists.proofs.Joined.{joined-one}
use Rattle.lists.proofs.Times.{times-one}
use Rattle.definition.specs.Number.{plus_zero}
use Rattle.definition.specs.Points.{box_width_lem}
use Rattle.definition.specs.Tree.{Leaf, Level}
use Rattle.definition.specs.Packed.{leaf_floats}
use Rattle.packed.proofs.Unpacked.{no_leaf}
use Rattle.stored.specs.Sound.{no_box}
use Rattle.tree_tests.proofs.AllRows.{same-is}
use Rattle.stored_laws.specs.Writable.{FloatFits, BoxesFit}
use Rattle.stored_laws.proofs.Stowed.{coarse-boxed}
use Rattle.stored_rules.proofs.LevelRows.{LeafRows, LevelRows}

-- a list in which no number stands
none-stands : (xs : List ℕ) → ((r : ℕ) → 0 < times r xs → ⊥) → xs ≡ []
none-stands [] h = refl
none-stands (x ∷ xs) h = absurd (h x (omega (arith, times-one x xs)))

-- ---- the bits of no box

no-box-bits : (d : ℕ) (f : Leaf) → no_box d f ≡ true → map (to_bits binary64) f.box ≡ map (to_bits binary64) (replicate (box_width_lem d) plus_zero)
unfolding no_box
no-box-bits d f h = same-is (map (to_bits binary64) f.box) (map (to_bits binary64) (replicate (box_width_lem d) plus_zero)) (both-pass h).0

-- as many as a box has
pub no-box-width : (d : ℕ) (f : Leaf) → no_box d f ≡ true → length f.box ≡ box_width_lem d
no-box-width d f h =
    sym (length-map f.box (to_bits binary64)) ∙ ap length (no-box-bits d f h) ∙ length-map (replicate (box_width_lem d) plus_zero) (to_bits binary64)
    ∙ length-replicate (box_width_lem d) plus_zero

-- ---- the level
module _ (l : Level) (rows : LevelRows l) (one : length l.leaves ≡ 1) where
  abbrev leaf : Leaf
  leaf = get_or l.leaves 0 no_leaf

  own-one : (fs : List Leaf) → length fs ≡ 1 → joined (map (λ f. f.own) fs) ≡ (get_or fs 0 no_leaf).own
  own-one [] e = absurd (omega arith)
  own-one (f ∷ []) e = joined-one f.own
  own-one (f ∷ g ∷ fs) e = absurd (omega arith)

  leaf-has : LeafRows l.points (get_or l.leaves 0 no_leaf)
  leaf-has = all-at (LeafRows l.points) l.leaves 0 no_leaf rows.leaves-have (omega arith)

  shares-one : (r : ℕ) → times r leaf.own ≡ times r l.points
  shares-one r = ap (times r) (sym (own-one l.leaves one)) ∙ rows.shares r

  -- THE LAWS
  pub last-holds-all : (get_or l.leaves 0 no_leaf).own ≡ l.points
  last-holds-all = ascends-unique-count leaf.own l.points leaf-has.own-ascends rows.ascends shares-one

  pub last-borrows-none : (get_or l.leaves 0 no_leaf).borrowed ≡ []
  last-borrows-none =
      none-stands leaf.borrowed (λ r m. omega (arith, leaf-has.borrows-listed r m, leaf-has.borrows-foreign r m, shares-one r))

  pub last-no-box : (d : ℕ) → All (λ f. no_box d f ≡ true) l.leaves → BoxesFit l
      → (get_or l.leaves 0 no_leaf).box ≡ replicate (box_width_lem d) plus_zero
  last-no-box d h fit =
      (coarse-boxed d leaf
      (all-at (λ f. All FloatFits (leaf_floats f)) l.leaves 0 no_leaf fit (omega arith))
      (all-at (λ f. no_box d f ≡ true) l.leaves 0 no_leaf h (omega arith))).0
