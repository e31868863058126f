-- The levels of a tree tested, and its limits: what they come to. Assumes nothing.
use Rattle.std.specs.Prelude.{Option, Some, None, is_some}
use mathlib.Core.Path.{◌≡◌, sym, ap, ◌∙◌}
use mathlib.Core.Bool.{Bool, true, false, ◌&&◌, cond, and_assoc}
use Prim.Native.Nat.{ℕ, zero, suc, ◌+◌, ◌*◌, ◌≤◌, ◌<◌}
use native.Mathlib.Omega.{arith}
use mathlib.Core.List.{List, [], ◌∷◌}
use lib.Dec.{leb, ltb, eqb}
use lib.ListN.{length, drop}
use borrow.Author.Tests.{le-leb, lt-leb}
use Rattle.definition.specs.Tree.{Settings, Level}
use Rattle.definition.specs.Packed.{most_levels, most_rows, leaves_in_lem, packed_borrowed}
use Rattle.stored.specs.Sound.{sound}
use Rattle.stored.specs.Stored.{one_domain, level_in, after_level, levels_at}
use Rattle.tree_tests.specs.InTurn.{levels_pass}
use Rattle.tree_tests.specs.Whole.{levels_whole}
use Rattle.tree_tests.proofs.Limits.{sound-counted}
use Rattle.file_levels.specs.declared.TreePassed.{TreePassed}
use Rattle.file_levels.specs.Levels.{TreeHere, TreePassedIs}

-- no more levels are read than may be
levels-few : (d f : ℕ) (bs : List ℕ) → length (levels_at d f bs) ≤ f
unfolding levels_at
levels-few d zero bs = omega arith
levels-few d (suc f) bs = go (one_domain bs) (levels-few d f (after_level d bs))
  where
    go : (o : Bool) → length (levels_at d f (after_level d bs)) ≤ f → length (level_in d bs ∷ cond o [] (levels_at d f (after_level d bs))) ≤ suc f
    go true h = omega arith
    go false h = omega arith

module _ (file : List ℕ) (at d n : ℕ) (o : Option TreePassed) (told : TreePassedIs file at d n o) (s : Settings) (sd : s.dimension ≡ d) (neighbours : ℕ) (sn : s.neighbours ≡ neighbours) where
  abbrev here : List ℕ
  here = drop at file

  abbrev ls : List Level
  ls = levels_at d most_levels here

  abbrev few : Bool
  few = leb (length (leaves_in_lem ls)) (most_rows n)

  abbrev short : Bool
  short = leb (length (packed_borrowed ls)) (6 * n * (neighbours + 1))

  tests-are : levels_whole d most_levels here && sound s n ls ≡ is_some o && (few && short)
  tests-are =
      let pass = levels_pass d (λ k. eqb k n) (λ i. ltb i n) ls in
      let e : leb (length ls) most_levels ≡ true = le-leb (length ls) most_levels (levels-few d most_levels here) in
      let c : sound s n ls ≡ pass && (few && short) = sound-counted s n ls ∙ rw (e, sd, sn) in
      ap (λ (b : Bool). levels_whole d most_levels here && b) c ∙ sym (and_assoc (levels_whole d most_levels here) pass (few && short)) ∙ ap (λ (b : Bool). b && (few && short)) (sym told.tests)

  -- the levels do not pass
  pub levels-fail : o ≡ None → false ≡ levels_whole d most_levels here && sound s n ls
  levels-fail g = sym (tests-are ∙ ap (λ (b : Bool). b && (few && short)) (ap is_some g))

  module _ (t : TreePassed) (g : o ≡ Some t) where
    now-limits : levels_whole d most_levels here && sound s n ls ≡ few && short
    now-limits = tests-are ∙ ap (λ (b : Bool). b && (few && short)) (ap is_some g)

    abbrev it : TreeHere file at d t
    it = (rw g at told).passed

    -- they have too many domains
    pub domains-fail : most_rows n < t.domains → false ≡ levels_whole d most_levels here && sound s n ls
    domains-fail h = sym (now-limits ∙ ap (λ (b : Bool). b && short) (lt-leb (length (leaves_in_lem ls)) (most_rows n) (omega (arith, it.domains))))

    -- they have not, and the borrowed rows decide
    pub borrowed-decide : t.domains ≤ most_rows n → leb t.borrowed (6 * n * (neighbours + 1)) ≡ levels_whole d most_levels here && sound s n ls
    borrowed-decide h =
        ap (λ (k : ℕ). leb k (6 * n * (neighbours + 1))) it.borrowed
        ∙ sym (now-limits ∙ ap (λ (b : Bool). b && short) (le-leb (length (leaves_in_lem ls)) (most_rows n) (omega (arith, it.domains))))
