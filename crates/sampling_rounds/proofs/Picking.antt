-- The row that the definition picks, by what it is: farther than the unchosen rows before it, and none is farther. Assumes
-- nothing.
use mathlib.Core.Path.{◌≡◌, ap, ◌∙◌}
use mathlib.Core.Bool.{Bool, true, false, not}
use mathlib.Core.List.{List, ◌∷◌, ◌++◌}
use Prim.Native.Nat.{ℕ, suc, ◌<◌}
use borrow.Author.Tests.{not-true}
use lib.ListN.{length, get_or, take, drop}
use lib.Ieee.{Float, lt}
use Rattle.lists.specs.Lists.{keep, member}
use Rattle.lists.proofs.All.{all-of}
use Rattle.lists.proofs.Count.{keep_append}
use Rattle.lists.proofs.Members.{keep-mem, split_at, each-before, each-behind}
use Rattle.definition.specs.Keys.{keyed, farthest_row}
use Rattle.definition.specs.Sampling.{gap, pick}
use Rattle.definition_laws.proofs.Choice.{farthest-is}

module _ (d : ℕ) (cs : List Float) (rows chosen : List ℕ) (b : ℕ) (h : b < length rows) where
  free : ℕ → Bool
  free i = not (member i chosen)

  kept-split : free (get_or rows b 0) ≡ true → keep free rows ≡ keep free (take b rows) ++ get_or rows b 0 ∷ keep free (drop (suc b) rows)
  unfolding keep
  kept-split e =
      ap (keep free) (split_at rows b 0 h)
      ∙ keep_append free (take b rows) (get_or rows b 0 ∷ drop (suc b) rows)
      ∙ rw e

  pub pick_is : member (get_or rows b 0) chosen ≡ false
      → ((j : ℕ) → j < b → member (get_or rows j 0) chosen ≡ false → lt (gap d cs chosen (get_or rows j 0)) (gap d cs chosen (get_or rows b 0)) ≡ true)
      → ((j : ℕ) → j < length rows → member (get_or rows j 0) chosen ≡ false → lt (gap d cs chosen (get_or rows b 0)) (gap d cs chosen (get_or rows j 0)) ≡ false)
      → pick d cs rows chosen ≡ get_or rows b 0
  unfolding pick free
  pick_is e f g =
      ap (λ (l : List ℕ). farthest_row (keyed (gap d cs chosen) l)) (kept-split (ap not e))
      ∙ farthest-is (gap d cs chosen) (keep free (take b rows)) (get_or rows b 0) (keep free (drop (suc b) rows))
      (all-of _ (keep free (take b rows)) (λ x m.
      let k = keep-mem free (take b rows) m in
      each-before rows b 0 h (λ y. member y chosen ≡ false → lt (gap d cs chosen y) (gap d cs chosen (get_or rows b 0)) ≡ true) f x k.0 (not-true (member x chosen) k.1)))
      (all-of _ (keep free (drop (suc b) rows)) (λ x m.
      let k = keep-mem free (drop (suc b) rows) m in
      each-behind rows b 0 h (λ y. member y chosen ≡ false → lt (gap d cs chosen (get_or rows b 0)) (gap d cs chosen y) ≡ false) (λ j l n. g j n) x k.0 (not-true (member x chosen) k.1)))
