-- A list that is as found from some entry on: further on it is too, and a store before that entry keeps it. Assumes nothing.
use mathlib.Core.Path.{◌≡◌, ap, ◌∙◌}
use Prim.Native.Nat.{ℕ, ◌+◌, ◌-◌, ◌≤◌}
use native.Mathlib.Omega.{arith}
use mathlib.Core.List.{List}
use lib.ListN.{length, drop}
use lib.Seq.{drop-drop}
use Rattle.lists.specs.Lists.{put}
use Rattle.lists.proofs.Put.{drop-put-past}
use Rattle.lists.specs.Found.{AsFoundFrom}

module _ {A : Type 0} where
  pub found-on : (k j : ℕ) (l m : List A) → AsFoundFrom k l m → k ≤ j → AsFoundFrom j l m
  found-on k j l m e h =
      let i = j - k in
      let f : j ≡ k + i = omega arith in
      rw (f, ← drop-drop i k m, ← drop-drop i k l) (ap (drop i) e)

  pub found-put : (k : ℕ) (l m : List A) (at : ℕ) (xs : List A) → AsFoundFrom k l m → at ≤ length m → at + length xs ≤ k → AsFoundFrom k l (put m at xs)
  found-put k l m at xs e h g = drop-put-past m at xs k h g ∙ e
