-- Leaves that share out the active rows, and the leaf of each active row. Definitions only.
use Rattle.std.specs.Prelude.{ℕ, ◌+◌, ◌*◌, ◌≤◌, ◌<◌, ◌≡◌, Bool, cond, List, [], length, get_or, eqb}
use Rattle.lists.specs.Lists.{count, member, joined}
use Rattle.lists.specs.Ascends.{Ascends}
use Rattle.definition.specs.Packed.{row_numbers}
use Rattle.packed.specs.Reading.{own_start, own_count, read_own}

-- the leaves hold each active row once
abbrev pub SharedOut : List ℕ → List (List ℕ) → Type 0
SharedOut active own = (p : ℕ → Bool) → count p (joined own) ≡ count p active

-- m domain rows whose own rows share out the active rows, which ascend
pub record Leaves (active I D : List ℕ) (first m : ℕ) : Type 0 where
  pub ascends : Ascends active
  pub rows : row_numbers * (first + m) ≤ length D
  pub inside : (l : ℕ) → l < m → own_start D (first + l) + own_count D (first + l) ≤ length I
  pub shared : SharedOut active (read_own I D first m)

-- the leaf stands at the positions of these rows, and each other position has what it had
abbrev pub Written : List ℕ → List ℕ → ℕ → List ℕ → List ℕ → Type 0
Written active rows leaf old new = (p : ℕ) → p < length active → get_or new p 0 ≡ cond (member (get_or active p 0) rows) leaf (get_or old p 0)

-- at each position the leaf that owns the row
pub record Owned (active : List ℕ) (own : List (List ℕ)) (owner : List ℕ) : Type 0 where
  pub leaf : (p : ℕ) → p < length active → get_or owner p 0 < length own
  pub mine : (p l : ℕ) → p < length active → l < length own → member (get_or active p 0) (get_or own l []) ≡ eqb (get_or owner p 0) l
