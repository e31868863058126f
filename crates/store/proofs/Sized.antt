-- A call whose own tests passed, and a sound tree in its lists: the counts keep to their limits, and give the length of the file. Assumes nothing.
-- Holds: own-passed, tree-bad, tree-good, tree-packs, tree-sound, tree-room, tree-limited, tree-size
use Rattle.std.specs.Prelude.{Some, None}
use mathlib.Core.Path.{◌≡◌, sym, ap, ◌∙◌}
use mathlib.Core.Bool.{Bool, true, false, ◌&&◌}
use mathlib.Core.List.{List}
use Prim.Native.Nat.{ℕ, ◌+◌, ◌*◌, ◌≤◌}
use native.Mathlib.Nat.{le_trans, mul-le-mul_left, mul-le-mul_right}
use native.Mathlib.Omega.{arith}
use borrow.Author.Tests.{leb-true}
use lib.Dec.{leb, ltb, eqb}
use lib.ListN.{length}
use lib.Ieee.{Float}
use Rattle.lists.proofs.Tests.{and-fst, and-snd}
use Rattle.definition.specs.Tree.{Settings, Level, point_count}
use Rattle.definition.specs.Packed.{Counts, most_levels, most_rows, tree_stated, leaves_in_lem, packed_borrowed}
use Rattle.definition.specs.Refusals.{accepted, verdict, most_neighbours, coordinates_missing, not_finite_lem}
use Rattle.definition.specs.Outcome.{TreeLists}
use Rattle.definition_laws.proofs.Accepted.{Passed, passed}
use Rattle.stored.specs.File.{file_bytes}
use Rattle.stored.specs.Sound.{sound}
use Rattle.stored.specs.Outcome.{lists_short_lem, own_tests, tree_held, packs}
use Rattle.tree_tests.specs.InTurn.{levels_pass}
use Rattle.tree_tests.specs.Size.{file_size_lem}
use Rattle.tree_tests.proofs.Several.{three-pass}
use Rattle.tree_tests.proofs.Passed.{passed_is, points-most}
use Rattle.tree_tests.proofs.Limits.{sound-counted}
use Rattle.tree_tests.proofs.FileLength.{file-length}
use Rattle.stored_laws.proofs.Verdicts.{own-boxes}
use Rattle.list_levels.specs.Passed.{TreePassed}
use Rattle.list_domains.specs.declared.ListsPassed.{ListsPassed}
use Rattle.store.specs.Limits.{Limited}
use Rattle.store.proofs.Held.{held-levels, held-some}

-- ---- the build's own tests
pub own-passed : (s : Settings) (cs : List Float) (l : TreeLists) → verdict (own_tests s cs l) ≡ accepted
    → Passed s (point_count s.dimension cs) (coordinates_missing s.dimension cs)
    (lists_short_lem l (tree_stated s.dimension (point_count s.dimension cs) s.neighbours)) (not_finite_lem cs)
unfolding own_tests
own-passed s cs l own =
    passed s (point_count s.dimension cs) (coordinates_missing s.dimension cs)
    (lists_short_lem l (tree_stated s.dimension (point_count s.dimension cs) s.neighbours)) (not_finite_lem cs) own

-- ---- a tree in the lists that is not sound
pub tree-bad : (s : Settings) (n : ℕ) (c : Counts) (l : TreeLists) → TreePassed s n c l None → packs c l (tree_held s.dimension c l) && sound s n (tree_held s.dimension c l) ≡ false
tree-bad s n c l tested = sym tested.passed

-- ---- a sound one
module _ (s : Settings) (cs : List Float) (c : Counts) (l : TreeLists) (own : verdict (own_tests s cs l) ≡ accepted) (r : ListsPassed)
    (tested : TreePassed s (point_count s.dimension cs) c l (Some r)) where
  abbrev d : ℕ
  d = s.dimension

  abbrev n : ℕ
  n = point_count s.dimension cs

  abbrev ls : List Level
  ls = tree_held d c l

  pub tree-good : packs c l (tree_held s.dimension c l) && sound s (point_count s.dimension cs) (tree_held s.dimension c l) ≡ true
  tree-good = sym tested.passed

  pub tree-packs : packs c l (tree_held s.dimension c l) ≡ true
  tree-packs = and-fst (packs c l ls) (sound s n ls) tree-good

  pub tree-sound : sound s (point_count s.dimension cs) (tree_held s.dimension c l) ≡ true
  tree-sound = and-snd (packs c l ls) (sound s n ls) tree-good

  -- the box list has room for its boxes
  pub tree-room : (tree_stated s.dimension (point_count s.dimension cs) s.neighbours).boxes ≤ length l.boxes
  tree-room = own-boxes s cs l own

  abbrev few-leaves : Bool
  few-leaves = leb (length (leaves_in_lem ls)) (most_rows n)

  abbrev few-borrowed : Bool
  few-borrowed = leb (length (packed_borrowed ls)) (6 * n * (s.neighbours + 1))

  passes : (leb (length ls) most_levels ≡ true) × (levels_pass d (λ a. eqb a n) (λ i. ltb i n) ls ≡ true) × (few-leaves && few-borrowed ≡ true)
  passes = three-pass (leb (length ls) most_levels) (levels_pass d (λ a. eqb a n) (λ i. ltb i n) ls) (few-leaves && few-borrowed) (sym (sound-counted s n ls) ∙ tree-sound)

  levels-are : c.levels ≡ length ls
  levels-are = held-levels s n c l tree-packs tree-sound tree-room

  -- THE LAWS: the counts keep to their limits
  pub tree-limited : Limited s.dimension (point_count s.dimension cs) c.levels r.rows r.domains r.borrowed
  tree-limited =
      let p = own-passed s cs l own in
      let few = leb-true (length ls) most_levels passes.0 in
      let rows = le_trans (points-most d n ls (passed_is d n ls passes.1)) (mul-le-mul_right n few) in
      let near : s.neighbours + 1 ≤ most_neighbours + 1 = omega (arith, p.neighbours_few) in
      let borrowed = le_trans (leb-true (length (packed_borrowed ls)) (6 * n * (s.neighbours + 1)) (and-snd few-leaves few-borrowed passes.2)) (mul-le-mul_left (6 * n) near) in
      record {
        axes = p.axes_few;
        points = p.rows_few;
        few = omega (arith, levels-are, few);
        rows_few = omega (arith, tested.rows, rows);
        some = omega (arith, tested.domains, held-some s n c l tree-packs tree-sound tree-room);
        domains_few = omega (arith, tested.domains, leb-true (length (leaves_in_lem ls)) (most_rows n) (and-fst few-leaves few-borrowed passes.2));
        borrowed_few = omega (arith, tested.borrowed, borrowed);
      }

  -- and give the length of the file
  pub tree-size : (size : ℕ) → size ≡ file_size_lem s.dimension (point_count s.dimension cs) c.levels r.rows r.domains r.borrowed
      → size ≡ length (file_bytes s cs (tree_held s.dimension c l))
  tree-size size e =
      e ∙ ap (λ (k : ℕ). file_size_lem d n k r.rows r.domains r.borrowed) levels-are
      ∙ rw (tested.rows, tested.domains, tested.borrowed) (sym (file-length s cs n ls passes.1))
