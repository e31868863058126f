-- The counts of a tree that is read from lists by counts: they are its counts where each level has as many as its entry says, and no entry
-- stands beyond the last level. Assumes nothing.
-- Holds: beyond-zero, zero-beyond, entry_in, entry_past, per-level-is
use mathlib.Core.Path.{◌≡◌, sym, ap, ◌∙◌}
use mathlib.Core.Bool.{true}
use mathlib.Core.Logic.{⊎_elim}
use mathlib.Core.List.{List, map}
use Prim.Native.Nat.{ℕ, ◌+◌, ◌-◌, ◌≤◌, ◌<◌}
use native.Mathlib.Omega.{arith}
use borrow.Author.Tests.{eqb-true, eq-eqb}
use lib.Dec.{eqb}
use lib.ListN.{length, get_or, drop, length-drop, get_or-eq_default}
use lib.Seq.{ext_get_or, get_or-drop}
use Rattle.lists.specs.Lists.{from}
use Rattle.lists.proofs.Tests.{le-or-lt}
use Rattle.lists.proofs.All.{mem-by-index}
use Rattle.lists.proofs.Members.{mem-at}
use Rattle.lists.proofs.From.{length-map-from, get_d-map-below}
use Rattle.definition.specs.Tree.{Level}
use Rattle.definition.specs.Packed.{most_levels, per_level}
use Rattle.packed.proofs.Counts.{no_level, counts-length, level-count}
use Rattle.tree_tests.proofs.AllPass.{all-pass-each, each-all-pass}
use Rattle.list_levels.specs.InLists.{none_beyond_lem}

-- ---- no entry beyond the last level
module _ (levels : ℕ) (counts : List ℕ) where
  pub beyond-zero : none_beyond_lem levels counts ≡ true → (i : ℕ) → levels ≤ i → get_or counts i 0 ≡ 0
  beyond-zero h i le =
      ⊎_elim (λ (out : length counts ≤ i). get_or-eq_default counts 0 out)
      (λ (in_List : i < length counts).
      let at : levels + (i - levels) ≡ i = omega arith in
      let e : get_or (drop levels counts) (i - levels) 0 ≡ get_or counts i 0 = get_or-drop levels counts (i - levels) 0 ∙ ap (λ (k : ℕ). get_or counts k 0) at in
      sym e ∙ eqb-true (get_or (drop levels counts) (i - levels) 0) 0
      (all-pass-each (λ x. eqb x 0) (drop levels counts) h (get_or (drop levels counts) (i - levels) 0)
      (mem-at (drop levels counts) (i - levels) 0 (omega (arith, length-drop levels counts)))))
      (le-or-lt (length counts) i)

  pub zero-beyond : ((i : ℕ) → levels ≤ i → get_or counts i 0 ≡ 0) → none_beyond_lem levels counts ≡ true
  zero-beyond h =
      each-all-pass (λ x. eqb x 0) (drop levels counts)
      (mem-by-index (λ x. eqb x 0 ≡ true) (drop levels counts) 0 (λ i l. eq-eqb (get_or (drop levels counts) i 0) 0 (get_or-drop levels counts i 0 ∙ h (levels + i) (omega arith))))

-- ---- the entries of levels read one by one
module _ (f : Level → ℕ) (read : ℕ → Level) (levels : ℕ) (few : levels ≤ most_levels) (none : f no_level ≡ 0) where
  abbrev ls : List Level
  ls = map read (from 0 levels)

  ls-length : length ls ≡ levels
  ls-length = length-map-from read 0 levels

  entry : (i : ℕ) → get_or (per_level f ls) i 0 ≡ f (get_or ls i no_level)
  entry i = level-count f ls (omega (arith, ls-length)) none i

  pub entry_in : (i : ℕ) → i < levels → get_or (per_level f (map read (from 0 levels))) i 0 ≡ f (read i)
  entry_in i h = entry i ∙ ap f (get_d-map-below read levels i no_level h)

  pub entry_past : (i : ℕ) → levels ≤ i → get_or (per_level f (map read (from 0 levels))) i 0 ≡ 0
  entry_past i h = entry i ∙ ap f (get_or-eq_default ls no_level (omega (arith, ls-length))) ∙ none

  pub per-level-is : (counts : List ℕ) → length counts ≡ most_levels → ((i : ℕ) → i < levels → f (read i) ≡ get_or counts i 0) → none_beyond_lem levels counts ≡ true
      → counts ≡ per_level f (map read (from 0 levels))
  per-level-is counts four each past =
      ext_get_or 0 counts (per_level f ls) (four ∙ sym (counts-length f ls))
      (λ i h. ⊎_elim (λ (le : levels ≤ i). beyond-zero levels counts past i le ∙ sym (entry_past i le)) (λ (lt : i < levels). sym (each i lt) ∙ sym (entry_in i lt)) (le-or-lt levels i))
