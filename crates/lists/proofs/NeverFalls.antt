-- Lists that never fall: from a lower number on, with two equal numbers behind them, and by index. Assumes nothing.
use Prim.Native.Nat.{ℕ, zero, suc, ◌≤◌, ◌<◌}
use native.Mathlib.Omega.{arith}
use mathlib.Core.List.{List, [], ◌∷◌, ◌++◌}
use lib.ListN.{length, get_or}
use Rattle.lists.specs.Ascends.{All, NeverFalls}

pub falls-lower : (x y : ℕ) (l : List ℕ) → x ≤ y → NeverFalls y l → NeverFalls x l
unfolding NeverFalls
falls-lower x y [] h g = tt
falls-lower x y (z ∷ l) h g = (omega (arith, g.0), g.1)

-- k twice behind a list in which nothing is above k
pub falls-two : (x k : ℕ) (l : List ℕ) → x ≤ k → All (λ y. y ≤ k) l → NeverFalls x l → NeverFalls x (l ++ k ∷ k ∷ [])
unfolding NeverFalls All
falls-two x k [] h a g = (h, (omega arith, tt))
falls-two x k (y ∷ l) h a g = (g.0, falls-two y k l a.0 a.1 g.1)

pub falls_at : (x : ℕ) (l : List ℕ) → NeverFalls x l → (i : ℕ) → suc i < length l → get_or l i 0 ≤ get_or l (suc i) 0
unfolding NeverFalls
falls_at x [] g i h = absurd (omega arith)
falls_at x (y ∷ []) g i h = absurd (omega arith)
falls_at x (y ∷ z ∷ l) g zero h = g.1.0
falls_at x (y ∷ z ∷ l) g (suc i) h = falls_at y (z ∷ l) g.1 i (omega arith)
