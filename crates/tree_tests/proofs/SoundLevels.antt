-- What holds of a level that is sound, and of those behind it. Assumes nothing.
-- Holds: CoarseLevel, FineLevel, coarse-level, fine-level, sound-rows-first, sound-rows-ascend, sound-rows-each,
--   sound-depths-each, rows-most
use mathlib.Core.Path.{◌≡◌}
use Prim.Native.Nat.{ℕ, ◌≤◌, ◌<◌}
use native.Mathlib.Nat.{le_refl}
use native.Mathlib.Omega.{arith}
use mathlib.Core.Bool.{true, false, not, ◌&&◌}
use mathlib.Core.List.Memᴰ
use mathlib.Core.List.{List, [], ◌∷◌, Memᴰ}
use lib.ListN.{length}
use lib.Dec.{ltb, eqb}
use borrow.Author.Tests.{not-true, ltb-true, eqb-true}
use Rattle.lists.specs.Lists.{member}
use Rattle.lists.specs.Ascends.{Ascends}
use Rattle.lists.proofs.Tests.{and-fst, and-snd, three-pass, five-pass}
use Rattle.definition.specs.Tree.{Leaf, Level}
use Rattle.stored.specs.Sound.{all_of, ascending, partitioned, sound_leaf, sound_box, no_box, sound_rows, sound_depths, at_root, proper_part, sound_levels}
use Rattle.tree_tests.proofs.AllPass.{all-pass-each, ascending-ascends}

-- the coarse one
pub record CoarseLevel (d : ℕ) (l : Level) : Type 0 where
  pub rows : sound_rows l ≡ true
  pub depths : sound_depths l ≡ true
  pub one : length l.leaves ≡ 1
  pub boxes : (f : Leaf) → Memᴰ f l.leaves → no_box d f ≡ true
  pub root : (f : Leaf) → Memᴰ f l.leaves → f.depth ≡ 0

-- a fine one and those behind it
pub record FineLevel (d : ℕ) (l m : Level) (ls : List Level) : Type 0 where
  pub rows : sound_rows l ≡ true
  pub depths : sound_depths l ≡ true
  pub more : eqb (length l.leaves) 1 ≡ false
  pub boxes : (f : Leaf) → Memᴰ f l.leaves → sound_box d f ≡ true
  pub some : 0 < length m.points
  pub fewer-rows : length m.points < length l.points
  pub inside : (i : ℕ) → Memᴰ i m.points → member i l.points ≡ true
  pub later : sound_levels d (m ∷ ls) ≡ true

pub coarse-level : (d : ℕ) (l : Level) → sound_levels d (l ∷ []) ≡ true → CoarseLevel d l
unfolding sound_levels
coarse-level d l h =
    let g = five-pass (sound_rows l) (sound_depths l) (eqb (length l.leaves) 1) (all_of (no_box d) l.leaves) (all_of at_root l.leaves) h in
    record {
      rows = g.0;
      depths = g.1;
      one = eqb-true (length l.leaves) 1 g.2;
      boxes = all-pass-each (no_box d) l.leaves g.3;
      root = λ f m. eqb-true f.depth 0 (all-pass-each at_root l.leaves g.4 f m);
    }

pub fine-level : (d : ℕ) (l m : Level) (ls : List Level) → sound_levels d (l ∷ m ∷ ls) ≡ true → FineLevel d l m ls
unfolding sound_levels proper_part
fine-level d l m ls h =
    let a = length l.points in
    let b = length m.points in
    let g = five-pass (sound_rows l && sound_depths l) (not (eqb (length l.leaves) 1)) (all_of (sound_box d) l.leaves) (proper_part m.points l.points) (sound_levels d (m ∷ ls)) h in
    let p = three-pass (ltb 0 b) (ltb b a) (all_of (λ i. member i l.points) m.points) g.3 in
    record {
      rows = and-fst (sound_rows l) (sound_depths l) g.0;
      depths = and-snd (sound_rows l) (sound_depths l) g.0;
      more = not-true (eqb (length l.leaves) 1) g.1;
      boxes = all-pass-each (sound_box d) l.leaves g.2;
      some = ltb-true 0 b p.0;
      fewer-rows = ltb-true b a p.1;
      inside = all-pass-each (λ i. member i l.points) m.points p.2;
      later = g.4;
    }

pub sound-rows-first : (d : ℕ) (l : Level) (ls : List Level) → sound_levels d (l ∷ ls) ≡ true → sound_rows l ≡ true
sound-rows-first d l [] h = (coarse-level d l h).rows
sound-rows-first d l (m ∷ ls) h = (fine-level d l m ls h).rows

pub sound-rows-ascend : (l : Level) → sound_rows l ≡ true → Ascends l.points
unfolding sound_rows
sound-rows-ascend l h =
    ascending-ascends l.points (three-pass (ascending l.points) (partitioned l) (all_of (sound_leaf l.points) l.leaves) h).0

-- ---- each level of a tree
pub sound-rows-each : (d : ℕ) (ls : List Level) → sound_levels d ls ≡ true → (m : Level) → Memᴰ m ls → sound_rows m ≡ true
sound-rows-each d [] h m x'' = elim x'' [ ]
sound-rows-each d (l ∷ ls) h m (Memᴰ.head e) = rw e (sound-rows-first d l ls h)
sound-rows-each d (l ∷ []) h m (Memᴰ.tail k) = absurd (Memᴰ.not-nil k)
sound-rows-each d (l ∷ t ∷ ls) h m (Memᴰ.tail k) = sound-rows-each d (t ∷ ls) (fine-level d l t ls h).later m k

pub sound-depths-each : (d : ℕ) (ls : List Level) → sound_levels d ls ≡ true → (m : Level) → Memᴰ m ls → sound_depths m ≡ true
sound-depths-each d [] h m x'' = elim x'' [ ]
sound-depths-each d (l ∷ []) h m (Memᴰ.head e) = rw e (coarse-level d l h).depths
sound-depths-each d (l ∷ t ∷ ls) h m (Memᴰ.head e) = rw e (fine-level d l t ls h).depths
sound-depths-each d (l ∷ []) h m (Memᴰ.tail k) = absurd (Memᴰ.not-nil k)
sound-depths-each d (l ∷ t ∷ ls) h m (Memᴰ.tail k) = sound-depths-each d (t ∷ ls) (fine-level d l t ls h).later m k

-- has no more rows than the first
rows-most-of : (d : ℕ) (m l : Level) (ls : List Level) → sound_levels d (l ∷ ls) ≡ true → Memᴰ m (l ∷ ls) → length m.points ≤ length l.points
rows-most-of d m l ls h (Memᴰ.head e) = rw e (le_refl (length l.points))
rows-most-of d m l [] h (Memᴰ.tail k) = absurd (Memᴰ.not-nil k)
rows-most-of d m l (t ∷ ls) h (Memᴰ.tail k) =
    let g = fine-level d l t ls h in
    omega (arith, g.fewer-rows, rows-most-of d m t ls g.later k)

pub rows-most : (d : ℕ) (l : Level) (ls : List Level) → sound_levels d (l ∷ ls) ≡ true → (m : Level) → Memᴰ m (l ∷ ls) → length m.points ≤ length l.points
rows-most d l ls h m k = rows-most-of d m l ls h k
