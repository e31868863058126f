-- What holds of the least squared distances in a round of sampling. Definitions only.
use Rattle.std.specs.Prelude.{◌≡◌, ◌⊎◌, true, false, cond, List, ℕ, ◌≤◌, ◌<◌, length, get_or, Float}
use Rattle.std.specs.Float.{nan, binary64}
use Rattle.std.specs.Float.Ieee.{lt, neg, of_bits}
use Rattle.definition.specs.Number.{square_root_lem}
use Rattle.definition.specs.Points.{rows_sq}
use Rattle.root_laws.specs.Sorts.{good}
use Rattle.rows.specs.Rows.{GoodRows}
use Rattle.sampling_rounds.specs.declared.Sampled.{Sampled}

-- the lesser of two values; y where neither is less
abbrev pub lesser : Float → Float → Float
lesser x y = cond (lt x y) x y

-- -1, which stands for the square of a chosen row
abbrev pub minus_one : Float
minus_one = neg (of_bits binary64 0x3ff0_0000_0000_0000)

-- what is kept for a row: -1 where it is chosen, and otherwise its square (+0, a positive number or +infinity)
abbrev pub KeptSquare : Float → Type 0
KeptSquare x = (x ≡ minus_one) ⊎ (good x ≡ true)

-- the least squares l, with the squared distance to the row at the place `last` taken in, by place
unfoldable pub lessened : ℕ → List Float → List ℕ → ℕ → List Float → ℕ → Float
lessened d cs rows last l i = lesser (rows_sq d cs (get_or rows last 0) (get_or rows i 0)) (get_or l i nan)

-- no value before `place` is greater than `second`
pub record Held (v : ℕ → Float) (place : ℕ) (second : Float) : Type 0 where
  pub kept : KeptSquare second
  pub bound : (j : ℕ) → j < place → lt second (v j) ≡ false

-- of the n values none is greater than `most`, which is the one at `place`
pub record Peaked (v : ℕ → Float) (n place : ℕ) (most second : Float) : Type 0 where
  pub inside : place < n
  pub here : most ≡ v place
  pub greatest : (j : ℕ) → j < n → lt most (v j) ≡ false
  pub earlier : Held v place second

-- place r, up to `best`, is the first of a row that is not chosen with a root as great as that at `best`
pub record Earliest (v : ℕ → Float) (best r : ℕ) : Type 0 where
  pub within : r ≤ best
  pub free : good (v r) ≡ true
  pub same : lt (square_root_lem (v r)) (square_root_lem (v best)) ≡ false
  pub earlier : (j : ℕ) → j < r → good (v j) ≡ true → lt (square_root_lem (v j)) (square_root_lem (v best)) ≡ true

-- place r is the first of the n with the greatest root among the rows that are not chosen; in the list l the row at r is
-- chosen, and the other values are as they were
pub record Chosen (v : ℕ → Float) (n r : ℕ) (l : List Float) : Type 0 where
  pub inside : r < n
  pub free : good (v r) ≡ true
  pub farthest : (j : ℕ) → j < n → good (v j) ≡ true → lt (square_root_lem (v r)) (square_root_lem (v j)) ≡ false
  pub first : (j : ℕ) → j < r → good (v j) ≡ true → lt (square_root_lem (v j)) (square_root_lem (v r)) ≡ true
  pub marked : get_or l r nan ≡ minus_one
  pub others : (i : ℕ) → i < n → (i ≡ r → ⊥) → get_or l i nan ≡ v i

-- x is the greatest root of the n squares, among the rows that are not chosen
pub record Worst (v : ℕ → Float) (n : ℕ) (x : Float) : Type 0 where
  pub place : ℕ
  pub inside : place < n
  pub free : good (v place) ≡ true
  pub here : x ≡ square_root_lem (v place)
  pub greatest : (j : ℕ) → j < n → good (v j) ≡ true → lt x (square_root_lem (v j)) ≡ false

-- the squares that a round makes of those kept, once the squared distance to the row at the place `last` is taken in, by place
abbrev pub brought : Sampled → ℕ → ℕ → Float
brought s last = lessened s.points.dimensions s.points.coordinates.now s.rows.now last s.squares.now

-- a round can be made: the rows are good, the row at `last` is one of them, and each has a square that is kept
pub record Ready (s : Sampled) (last : ℕ) : Type 0 where
  pub rows : GoodRows s.points.dimensions s.points.coordinates.now s.rows.now
  pub here : last < length s.rows.now
  pub room : length s.rows.now ≤ length s.squares.now
  pub kept : (i : ℕ) → i < length s.rows.now → KeptSquare (get_or s.squares.now i nan)

-- a row that is not chosen
abbrev pub Unchosen : Sampled → Type 0
Unchosen s = (i : ℕ) × ((i < length s.rows.now) × (good (get_or s.squares.now i nan) ≡ true))

-- both are of the same rows, and hold the same list of squares, as long as it was
pub record SameSampled (s t : Sampled) : Type 0 where
  pub points : t.points ≡ s.points
  pub rows : t.rows ≡ s.rows
  pub squares : t.squares.ghost_name ≡ s.squares.ghost_name
  pub squares_len : length t.squares.now ≡ length s.squares.now
