-- Columns of w entries each, one after the other in a list. Definitions only.
use Rattle.std.specs.Prelude.{ℕ, zero, suc, ◌*◌, List, [], ◌∷◌}
use Rattle.lists.specs.Lists.{part}

-- the n columns of w entries each from the h-th on
unfoldable pub columns : {A : Type 0} → ℕ → List A → ℕ → ℕ → List (List A)
columns w l h zero = []
columns w l h (suc n) = part l (w * h) w ∷ columns w l (suc h) n
