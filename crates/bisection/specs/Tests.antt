-- What is said of a test that is passed as a closure. Definitions only.
use Rattle.std.specs.Prelude.{ℕ, ◌≤◌, ◌<◌, ◌≡◌, Bool, true}
use Rattle.std.specs.Fn.{Shared}

-- each call of f at a number below n answers what t says of it
abbrev pub TellsBelow : {F : Type 0} → Shared F (ℕ × Unit {0}) Bool → ℕ → F → (ℕ → Bool) → Type 0
TellsBelow g n f t = (i : ℕ) (r : Bool) → i < n → g.post f (i, tt) r → r ≡ t i

-- of the numbers below n, all above one that passes pass too
abbrev pub Stays : ℕ → (ℕ → Bool) → Type 0
Stays n t = (i j : ℕ) → i ≤ j → j < n → t i ≡ true → t j ≡ true
