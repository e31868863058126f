-- What holds of each element of a list, lists that ascend without repeats, and lists that never fall. Definitions only.
use Rattle.std.specs.Prelude.{ℕ, ◌≤◌, ◌<◌, List, [], ◌∷◌}

-- each element has the property
unfoldable pub All : {A : Type 0} → (A → Type 0) → List A → Type 0
All P [] = Unit
All P (x ∷ xs) = P x × All P xs

-- strictly ascending
unfoldable pub Ascends : List ℕ → Type 0
Ascends [] = Unit
Ascends (x ∷ xs) = All (λ y. x < y) xs × Ascends xs

-- x and then the list never fall: each is at least the one before it
unfoldable pub NeverFalls : ℕ → List ℕ → Type 0
NeverFalls x [] = Unit
NeverFalls x (y ∷ ys) = (x ≤ y) × NeverFalls y ys
