-- The tests in turn come to `sound`. Assumes nothing.
use mathlib.Core.Path.{◌≡◌, refl, sym, ap, ◌∙◌}
use Prim.Native.Nat.{ℕ}
use mathlib.Core.Bool.{Bool, true, false, ◌&&◌, and_assoc, and-false}
use mathlib.Core.List.{List, [], ◌∷◌}
use lib.ListN.{length}
use lib.Dec.{leb, ltb, eqb}
use Rattle.lists.specs.Lists.{from}
use Rattle.definition.specs.Tree.{Settings, Level}
use Rattle.definition.specs.Packed.{most_levels}
use Rattle.stored.specs.Sound.{all_of, same, sound_levels, first_all, fits, sound}
use Rattle.tree_tests.specs.InTurn.{levels_pass}
use Rattle.tree_tests.proofs.AllRows.{all_rows}
use Rattle.tree_tests.proofs.Levels.{levels-pass-is}
use Rattle.tree_tests.proofs.SoundLevels.{sound-rows-first, sound-rows-ascend}

-- the first level has all rows
first-level : (n d : ℕ) (ls : List Level) → first_all n ls && sound_levels d ls ≡ levels_pass d (λ k. eqb k n) (λ i. ltb i n) ls
unfolding first_all levels_pass
first-level n d [] = refl
first-level n d (l ∷ ls) =
    go (sound_levels d (l ∷ ls)) refl ∙ sym (levels-pass-is d (λ k. eqb k n) (λ i. ltb i n) l ls)
  where
    go : (b : Bool) → sound_levels d (l ∷ ls) ≡ b → same l.points (from 0 n) && b ≡ eqb (length l.points) n && all_of (λ i. ltb i n) l.points && b
    go true e = rw (all_rows n l.points (sound-rows-ascend l (sound-rows-first d l ls e)))
    go false e = and-false (same l.points (from 0 n)) ∙ sym (and-false (eqb (length l.points) n && all_of (λ i. ltb i n) l.points))

-- THE TREE: at most four levels, each tested in turn, and no more than fits
pub sound-in-turn : (s : Settings) (n : ℕ) (ls : List Level)
    → sound s n ls ≡ leb (length ls) most_levels && levels_pass s.dimension (λ k. eqb k n) (λ i. ltb i n) ls && fits s.dimension n s.neighbours ls
unfolding sound
sound-in-turn s n ls =
    rw (← first-level n s.dimension ls) (ap (λ (b : Bool). b && fits s.dimension n s.neighbours ls) (and_assoc (leb (length ls) most_levels) (first_all n ls) (sound_levels s.dimension ls)))
