-- A tree that passes its tests in turn fits the lists of a build where its leaves and its borrowed rows do. Assumes nothing.
use mathlib.Core.Path.{◌≡◌, refl, ◌∙◌}
use Prim.Native.Nat.{ℕ, ◌+◌, ◌*◌, ◌≤◌}
use native.Mathlib.Nat.{mul-le-mul_right, le_trans}
use native.Mathlib.Omega.{arith}
use mathlib.Core.Bool.{Bool, true, false, ◌&&◌}
use mathlib.Core.List.{List}
use lib.ListN.{length}
use lib.Dec.{leb, ltb, eqb}
use borrow.Author.Tests.{leb-true, le-leb}
use Rattle.lists.proofs.Tests.{same_test}
use Rattle.definition.specs.Tree.{Settings, Level}
use Rattle.definition.specs.Packed.{most_levels, row_numbers, most_rows, tree_stated, leaves_in_lem, packed_level_points, packed_internals, packed_borrowed}
use Rattle.definition_laws.proofs.Fit.{length-domains}
use Rattle.stored.specs.Sound.{fits, sound}
use Rattle.tree_tests.specs.InTurn.{levels_pass}
use Rattle.tree_tests.proofs.SoundInTurn.{sound-in-turn}
use Rattle.tree_tests.proofs.Passed.{passed_is, internals-length, points-most}

scaled : (a b : ℕ) → leb (row_numbers * a) (row_numbers * b) ≡ leb a b
scaled a b =
    same_test (leb (row_numbers * a) (row_numbers * b)) (leb a b) (λ h. le-leb a b (omega (arith, leb-true (row_numbers * a) (row_numbers * b) h)))
    (λ h. le-leb (row_numbers * a) (row_numbers * b) (omega (arith, leb-true a b h)))

-- THE LIMITS: of the leaves and of the borrowed rows
pub fits-in-turn : (d n k : ℕ) (ls : List Level) → length ls ≤ most_levels → levels_pass d (λ a. eqb a n) (λ i. ltb i n) ls ≡ true
    → fits d n k ls ≡ leb (length (leaves_in_lem ls)) (most_rows n) && leb (length (packed_borrowed ls)) (6 * n * (k + 1))
unfolding fits tree_stated
fits-in-turn d n k ls h e =
    let p = passed_is d n ls e in
    let a : length (packed_level_points ls) ≤ 4 * n = le_trans (points-most d n ls p) (mul-le-mul_right n h) in
    let b : length (packed_internals ls) ≤ 4 * n = omega (arith, internals-length d n ls p) in
    rw (le-leb (length (packed_level_points ls)) (4 * n) a, le-leb (length (packed_internals ls)) (4 * n) b, length-domains ls, scaled (length (leaves_in_lem ls)) (most_rows n))

-- so the tests of a tree are these
pub sound-counted : (s : Settings) (n : ℕ) (ls : List Level)
    → sound s n ls
    ≡ leb (length ls) most_levels && levels_pass s.dimension (λ a. eqb a n) (λ i. ltb i n) ls
    && (leb (length (leaves_in_lem ls)) (most_rows n) && leb (length (packed_borrowed ls)) (6 * n * (s.neighbours + 1)))
sound-counted s n ls = sound-in-turn s n ls ∙ go (leb (length ls) most_levels) refl (levels_pass s.dimension (λ a. eqb a n) (λ i. ltb i n) ls) refl
  where
    go : (a : Bool) → leb (length ls) most_levels ≡ a → (b : Bool) → levels_pass s.dimension (λ a. eqb a n) (λ i. ltb i n) ls ≡ b
        → a && b && fits s.dimension n s.neighbours ls ≡ a && b && (leb (length (leaves_in_lem ls)) (most_rows n) && leb (length (packed_borrowed ls)) (6 * n * (s.neighbours + 1)))
    go false h b e = refl
    go true h false e = refl
    go true h true e = fits-in-turn s.dimension n s.neighbours ls (leb-true (length ls) most_levels h) e
