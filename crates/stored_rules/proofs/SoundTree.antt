-- What the levels of a tree have that passes its tests, by their numbers. Assumes nothing.
-- Holds: PartOf, IsLast, SoundTree, sound-tree
use mathlib.Core.Path.{◌≡◌, sym}
use mathlib.Core.Bool.{true, true≢false}
use mathlib.Core.List.{List, [], ◌∷◌, map}
use Prim.Native.Nat.{ℕ, zero, suc, ◌≤◌, ◌<◌}
use native.Mathlib.Omega.{arith}
use borrow.Author.Tests.{leb-true, eqb-true}
use lib.Dec.{leb}
use lib.ListN.{length, get_or}
use Rattle.lists.specs.Lists.{from}
use Rattle.lists.specs.Ascends.{All}
use Rattle.lists.specs.Times.{times}
use Rattle.lists.proofs.All.{all_map, all-joined, all-of}
use Rattle.lists.proofs.Times.{member-times, times-mem}
use Rattle.lists.proofs.Tests.{both-pass, four-pass}
use Rattle.lists.proofs.Members.{mem-at}
use Rattle.definition.specs.Points.{box_width_lem}
use Rattle.definition.specs.Tree.{Settings, Leaf, Level}
use Rattle.definition.specs.Packed.{most_levels, leaves_in_lem}
use Rattle.definition_laws.proofs.Depths.{LevelHolds}
use Rattle.packed.proofs.Counts.{no_level}
use Rattle.stored.specs.Sound.{sound_box, no_box, sound_levels, first_all, fits, sound}
use Rattle.tree_tests.proofs.AllRows.{same-is}
use Rattle.tree_tests.proofs.Depths.{passed-depths}
use Rattle.tree_tests.proofs.SoundLevels.{FineLevel, coarse-level, fine-level, sound-rows-each, sound-depths-each}
use Rattle.stored_rules.proofs.LevelRows.{LevelRows, level-rows}
use Rattle.stored_rules.proofs.LastLevel.{no-box-width}

-- ---- the rows of a level against those of the level above
pub record PartOf (rows above : List ℕ) : Type 0 where
  pub fewer : length rows < length above
  pub from-above : (r : ℕ) → 0 < times r rows → 0 < times r above

part_of : (d : ℕ) (l m : Level) (ls : List Level) → FineLevel d l m ls → PartOf m.points l.points
part_of d l m ls g =
    record {
      fewer = g.fewer-rows;
      from-above = λ r k. member-times r l.points (g.inside r (times-mem m.points r k));
    }

-- ---- boxes of two bounds on each axis
abbrev Boxed : ℕ → Level → Type 0
Boxed d l = All (λ (f : Leaf). length f.box ≡ box_width_lem d) l.leaves

box-width : (d : ℕ) (f : Leaf) → sound_box d f ≡ true → length f.box ≡ box_width_lem d
unfolding sound_box
box-width d f h = eqb-true (length f.box) (box_width_lem d) (both-pass h).0

-- ---- the levels
module _ (d : ℕ) where
  -- the last: one leaf, no box, and depth 0
  pub record IsLast (l : Level) : Type 0 where
    pub one-leaf : length l.leaves ≡ 1
    pub no-boxes : All (λ f. no_box d f ≡ true) l.leaves
    pub at-root : All (λ f. f.depth ≡ 0) l.leaves

  levels-some : (ls : List Level) → sound_levels d ls ≡ true → 1 ≤ length ls
  unfolding sound_levels
  levels-some [] h = absurd (true≢false (sym h))
  levels-some (l ∷ ls) h = omega arith

  levels-boxed : (ls : List Level) → sound_levels d ls ≡ true → All (Boxed d) ls
  unfolding All
  levels-boxed [] h = tt
  levels-boxed (l ∷ []) h =
      (all-of (λ f. length f.box ≡ box_width_lem d) l.leaves (λ f m. no-box-width d f ((coarse-level d l h).boxes f m)), tt)
  levels-boxed (l ∷ m ∷ ls) h =
      let g = fine-level d l m ls h in (
        all-of (λ f. length f.box ≡ box_width_lem d) l.leaves (λ f k. box-width d f (g.boxes f k)),
        levels-boxed (m ∷ ls) g.later,
      )

  levels-next : (ls : List Level) → sound_levels d ls ≡ true → (l : ℕ) → suc l < length ls → PartOf (get_or ls (suc l) no_level).points (get_or ls l no_level).points
  levels-next [] h l k = absurd (omega arith)
  levels-next (l ∷ []) h i k = absurd (omega arith)
  levels-next (l ∷ m ∷ ls) h zero k = part_of d l m ls (fine-level d l m ls h)
  levels-next (l ∷ m ∷ ls) h (suc i) k = levels-next (m ∷ ls) (fine-level d l m ls h).later i (omega arith)

  levels-last : (ls : List Level) → sound_levels d ls ≡ true → (l : ℕ) → suc l ≡ length ls → IsLast (get_or ls l no_level)
  levels-last [] h l e = absurd (omega arith)
  levels-last (l ∷ []) h zero e =
      let g = coarse-level d l h in
      record {
        one-leaf = g.one;
        no-boxes = all-of (λ f. no_box d f ≡ true) l.leaves g.boxes;
        at-root = all-of (λ f. f.depth ≡ 0) l.leaves g.root;
      }
  levels-last (l ∷ []) h (suc i) e = absurd (omega arith)
  levels-last (l ∷ m ∷ ls) h zero e = absurd (omega arith)
  levels-last (l ∷ m ∷ ls) h (suc i) e = levels-last (m ∷ ls) (fine-level d l m ls h).later i (omega arith)

-- ---- the tree
pub record SoundTree (d n : ℕ) (ls : List Level) : Type 0 where
  pub first-all : (get_or ls 0 no_level).points ≡ from 0 n
  pub some : 1 ≤ length ls
  pub few : length ls ≤ most_levels
  pub rows : (l : ℕ) → l < length ls → LevelRows (get_or ls l no_level)
  pub next : (l : ℕ) → suc l < length ls → PartOf (get_or ls (suc l) no_level).points (get_or ls l no_level).points
  pub last : (l : ℕ) → suc l ≡ length ls → IsLast d (get_or ls l no_level)
  pub boxed : All (λ (f : Leaf). length f.box ≡ box_width_lem d) (leaves_in_lem ls)
  pub depths : All LevelHolds ls

first-is : (n : ℕ) (ls : List Level) → first_all n ls ≡ true → (get_or ls 0 no_level).points ≡ from 0 n
unfolding first_all
first-is n [] h = absurd (true≢false (sym h))
first-is n (l ∷ ls) h = same-is l.points (from 0 n) h

-- THE LAW
pub sound-tree : (s : Settings) (n : ℕ) (ls : List Level) → sound s n ls ≡ true → SoundTree s.dimension n ls
unfolding sound leaves_in_lem
sound-tree s n ls h =
    let d = s.dimension in
    let g = four-pass (leb (length ls) most_levels) (first_all n ls) (sound_levels d ls) (fits d n s.neighbours ls) h in
    record {
      first-all = first-is n ls g.1;
      some = levels-some d ls g.2;
      few = leb-true (length ls) most_levels g.0;
      rows = λ l m. level-rows (get_or ls l no_level) (sound-rows-each d ls g.2 (get_or ls l no_level) (mem-at ls l no_level m));
      next = levels-next d ls g.2;
      last = levels-last d ls g.2;
      boxed =
          all-joined (λ (f : Leaf). length f.box ≡ box_width_lem d) (map (λ l. l.leaves) ls)
          (all_map (λ fs. All (λ (f : Leaf). length f.box ≡ box_width_lem d) fs) (λ (l : Level). l.leaves) ls (levels-boxed d ls g.2));
      depths = all-of LevelHolds ls (λ l m. passed-depths l (sound-depths-each d ls g.2 l m));
    }
