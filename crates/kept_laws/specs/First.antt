-- The first of a list by an order, and what a search keeps of the positions visited. Definitions only.
use Rattle.std.specs.Prelude.{ℕ, ◌+◌, ◌<◌, ◌≤◌, ◌≡◌, Bool, true, false, List, map, length, get_or, take, ltb, Float}
use Rattle.std.specs.Float.{nan}
use Rattle.lists.specs.Lists.{keep, count}
use Rattle.definition.specs.Keys.{Key, before}
use Rattle.nearest_scan.specs.Near.{Ordered}

-- the elements with fewer than m before them, in the list's order
unfoldable pub first_of : {A : Type 0} → (A → A → Bool) → ℕ → List A → List A
first_of bef m xs = keep (λ p. ltb (count (λ q. bef q p) xs) m) xs

-- what is kept of the positions visited: the first m of them, each once, in order
pub record Kept (bef : ℕ → ℕ → Bool) (m : ℕ) (visited near : List ℕ) : Type 0 where
  pub ordered : Ordered bef near
  pub taken : (p : ℕ → Bool) → count p near ≡ count p (first_of bef m visited)

-- a position with its value
abbrev pub place_key : Float → ℕ → Key
place_key x q = record { value = x; row = q }

-- the k-th of the positions kept, with its value
abbrev pub kept_key : List ℕ → List Float → ℕ → Key
kept_key near far k = place_key (get_or far k nan) (get_or near k 0)

-- `spot` is where the position goes by (value, position) among the first n: behind it all come after it
pub record Slot (near : List ℕ) (far : List Float) (n : ℕ) (value : Float) (position spot : ℕ) : Type 0 where
  pub inside : spot ≤ n
  pub after : (j : ℕ) → spot ≤ j → j < n → before (place_key value position) (kept_key near far j) ≡ true
  pub stop : (j : ℕ) → j + 1 ≡ spot → before (place_key value position) (kept_key near far j) ≡ false

-- the two lists of a search that keeps the first m of the positions visited: the first `count` entries of each count; v is the value of
-- a position
pub record Held (v : ℕ → Float) (bef : ℕ → ℕ → Bool) (m : ℕ) (visited near : List ℕ) (far : List Float) (count : ℕ) : Type 0 where
  pub most : count ≤ m
  pub long : m ≤ length near
  pub long2 : m ≤ length far
  pub kept : Kept bef m visited (take count near)
  pub vals : take count far ≡ map v (take count near)
