-- The best of some values, by a comparison. Definitions only.
use Rattle.std.specs.Prelude.{◌≡◌, Bool, List, [], ◌∷◌, Float}
use Rattle.std.specs.Fn.{Shared}
use Rattle.lists.specs.Lists.{best}
use Rattle.definition.specs.Number.{plus_zero}

-- each call of f at two values answers what b says of them
abbrev pub Decides : {F : Type 0} → Shared F (Float × (Float × Unit {0})) Bool → F → (Float → Float → Bool) → Type 0
Decides g f b = (v w : Float) (r : Bool) → g.post f (v, (w, tt)) r → r ≡ b v w

-- the first of the values that no other is better than
abbrev pub best_of : (Float → Float → Bool) → List Float → Float
best_of b [] = plus_zero
best_of b (x ∷ xs) = best b x xs
