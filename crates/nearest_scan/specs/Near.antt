-- The nearest rows of a row, by their positions in the ascending list of active rows. Definitions only.
use Rattle.std.specs.Prelude.{ℕ, ◌+◌, ◌<◌, ◌≤◌, ◌≡◌, Bool, true, false, List, [], ◌∷◌, map, length, get_or, Float}
use Rattle.std.specs.Float.{nan}
use Rattle.std.specs.Float.Ieee.{lt}
use Rattle.lists.specs.Lists.{count}
use Rattle.lists.specs.Ascends.{All}
use Rattle.definition.specs.Points.{rows_sq}
use Rattle.definition.specs.Keys.{Key, before}
use Rattle.definition.specs.Overlaps.{nearest}

-- `spot` is where the value goes among the first n, which do not descend: behind it all are greater
pub record Spot (values : List Float) (n : ℕ) (value : Float) (spot : ℕ) : Type 0 where
  pub inside : spot ≤ n
  pub after : (j : ℕ) → spot ≤ j → j < n → lt value (get_or values j nan) ≡ true
  pub stop : (j : ℕ) → j + 1 ≡ spot → lt value (get_or values j nan) ≡ false

-- each element comes before the later ones
unfoldable pub Ordered : (ℕ → ℕ → Bool) → List ℕ → Type 0
Ordered bef [] = Unit
Ordered bef (x ∷ xs) = All (λ y. bef x y ≡ true) xs × Ordered bef xs

module _ (d : ℕ) (cs : List Float) (active : List ℕ) (row : ℕ) where
  -- the squared distance of `row` to the active row at the position q
  abbrev pub apart : ℕ → Float
  apart q = rows_sq d cs row (get_or active q 0)

  -- that row, ordered by its distance
  abbrev pub position_key : ℕ → Key
  position_key q = record { value = apart q; row = get_or active q 0 }

  -- the row at p comes before the one at q
  unfoldable pub sooner : ℕ → ℕ → Bool
  sooner p q = before (position_key p) (position_key q)

  -- positions in order, whose rows with `row` itself are those that the definition takes, each once; with their squared distances
  pub record Found (neighbours : ℕ) (near : List ℕ) (far : List Float) : Type 0 where
    pub within : All (λ q. q < length active) near
    pub ordered : Ordered sooner near
    pub taken : (p : ℕ → Bool) → count p (row ∷ map (λ q. get_or active q 0) near) ≡ count p (nearest d cs neighbours active row)
    pub values : far ≡ map apart near
