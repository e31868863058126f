-- The lines of the printout as the parts that the code writes one after the other. Assumes nothing.
-- Holds: domain-parts, domain-long, leaf-line, level-parts, level-long, box-fine, box-coarse, tree-parts, tree-long
use mathlib.Core.Path.{◌≡◌}
use Prim.Native.Nat.{ℕ, ◌+◌}
use mathlib.Core.Bool.{Bool, true, false}
use mathlib.Core.List.{List, [], ◌∷◌, ◌++◌, append_assoc}
use lib.Ieee.{Float}
use lib.ListN.{length, length-append}
use Rattle.definition.specs.Tree.{Leaf, Level}
use Rattle.packed.specs.Reading.{Packed, read_leaf}
use Rattle.formats.specs.Printout.{ascii, decimal, rows_text, floats_text, domain_line, level_line, levels_text, tree_text}
use Rattle.print_tree.specs.Unpack.{box_part, points_line, leaf_line}

module _ (i : ℕ) (f : Leaf) (box : List ℕ) where
  pub domain-parts : domain_line i f box ≡ (ascii "domain " ++ decimal i) ++ (ascii " internal" ++ rows_text f.own) ++ (ascii " overlap" ++ rows_text f.borrowed) ++ ascii " box" ++ box
      ++ (ascii " cover" ++ floats_text (f.cover ∷ [])) ++ (ascii " depth " ++ decimal f.depth) ++ ascii "\n"
  unfolding domain_line
  domain-parts = simp append_assoc

  pub domain-long : length (domain_line i f box) ≡ length (ascii "domain " ++ decimal i) + length (ascii " internal" ++ rows_text f.own) + length (ascii " overlap" ++ rows_text f.borrowed)
      + length (ascii " box") + length box + length (ascii " cover" ++ floats_text (f.cover ∷ [])) + length (ascii " depth " ++ decimal f.depth) + length (ascii "\n")
  domain-long = rw domain-parts (simp length-append)

-- by the leaf that the code read
pub leaf-line : (fine : Bool) (i : ℕ) (p : Packed) (j : ℕ) (f : Leaf) → f ≡ read_leaf p j → leaf_line fine i p j ≡ domain_line i f (box_part fine f.box)
unfolding leaf_line
leaf-line fine i p j f e = rw e

module _ (t : ℕ) (rows : List ℕ) where
  pub level-parts : points_line t rows ≡ (ascii "level " ++ decimal t) ++ (ascii " points" ++ rows_text rows) ++ ascii "\n"
  unfolding level_line
  level-parts = simp append_assoc

  pub level-long : length (points_line t rows) ≡ length (ascii "level " ++ decimal t) + length (ascii " points" ++ rows_text rows) + length (ascii "\n")
  level-long = rw level-parts (simp length-append)

-- the box's text
pub box-fine : (b : Bool) (box : List Float) → b ≡ true → box_part b box ≡ floats_text box
unfolding box_part
box-fine b box e = rw e

pub box-coarse : (b : Bool) (box : List Float) → b ≡ false → box_part b box ≡ 32 ∷ 45 ∷ []
unfolding box_part ascii
box-coarse b box e = rw e

module _ (n : ℕ) (ls : List Level) (e : length ls ≡ n) where
  pub tree-parts : tree_text ls ≡ (ascii "levels " ++ decimal n) ++ ascii "\n" ++ levels_text 0 ls
  unfolding tree_text
  tree-parts = rw e (simp append_assoc)

  pub tree-long : length (tree_text ls) ≡ length (ascii "levels " ++ decimal n) + length (ascii "\n") + length (levels_text 0 ls)
  tree-long = rw tree-parts (simp length-append)
