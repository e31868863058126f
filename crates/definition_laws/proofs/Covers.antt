-- A cover is +0, a positive number or +infinity: never a NaN, never -0. Assumes nothing.
use mathlib.Core.Path.{◌≡◌, refl}
use mathlib.Core.Bool.{Bool, true, not}
use mathlib.Core.List.{List, [], ◌∷◌, map}
use Prim.Native.Nat.{ℕ}
use lib.Ieee.{Float, lt, fits}
use Rattle.lists.specs.Lists.{keep, member}
use Rattle.lists.specs.Ascends.{All}
use Rattle.lists.proofs.All.{all_map, all-imp, all_keep}
use Rattle.lists.proofs.Best.{best-in}
use Rattle.definition.specs.Number.{plus_infinity}
use Rattle.definition.specs.Points.{rows_apart, least_of, greatest_of}
use Rattle.definition.specs.Sampling.{gap, cover_of, leaf_cover}
use Rattle.root_laws.specs.Sorts.{good}
use Rattle.root_laws.proofs.Operations.{zero-good}
use Rattle.rows.specs.Rows.{FiniteRow}
use Rattle.definition_laws.proofs.Finite.{rows-apart-good}

least-good : (xs : List Float) → All (λ x. good x ≡ true) xs → good (least_of xs) ≡ true
unfolding least_of All
least-good [] h = zero-good
least-good (x ∷ xs) h = best-in lt (λ x. good x ≡ true) x xs h.0 h.1

greatest-good : (xs : List Float) → All (λ x. good x ≡ true) xs → good (greatest_of xs) ≡ true
unfolding greatest_of All
greatest-good [] h = zero-good
greatest-good (x ∷ xs) h = best-in (λ y z. lt z y) (λ x. good x ≡ true) x xs h.0 h.1

infinity-good : good plus_infinity ≡ true
unfolding fits
infinity-good = refl

module _ (d : ℕ) (cs : List Float) where
  -- row i's least distance to the chosen rows
  pub gap-good : (chosen : List ℕ) → All (FiniteRow d cs) chosen → (i : ℕ) → FiniteRow d cs i → good (gap d cs chosen i) ≡ true
  unfolding gap
  gap-good chosen h i f =
      least-good (map (λ c. rows_apart d cs c i) chosen)
      (all_map (λ x. good x ≡ true) (λ c. rows_apart d cs c i) chosen
      (all-imp (FiniteRow d cs) (λ c. good (rows_apart d cs c i) ≡ true) chosen (λ c g. rows-apart-good d cs c i g f) h))

  pub cover-good : (rows chosen : List ℕ) → All (FiniteRow d cs) rows → All (FiniteRow d cs) chosen → good (cover_of d cs rows chosen) ≡ true
  unfolding cover_of
  cover-good rows chosen h g =
      let p : ℕ → Bool = λ i. not (member i chosen) in
      greatest-good (map (gap d cs chosen) (keep p rows))
      (all_map (λ x. good x ≡ true) (gap d cs chosen) (keep p rows)
      (all-imp (FiniteRow d cs) (λ i. good (gap d cs chosen i) ≡ true) (keep p rows) (gap-good chosen g) (all_keep (FiniteRow d cs) p rows h)))

  -- that of a leaf too
  pub leaf-cover-good : (rows sent : List ℕ) → All (FiniteRow d cs) rows → All (FiniteRow d cs) sent → good (leaf_cover d cs rows sent) ≡ true
  unfolding leaf_cover
  leaf-cover-good [] sent h g = zero-good
  leaf-cover-good (i ∷ rows) [] h g = infinity-good
  leaf-cover-good (i ∷ rows) (j ∷ sent) h g = cover-good (i ∷ rows) (j ∷ sent) h g
