-- The pairs of rows that two leaves lend each other. A row is named by its position in the active list, and the leaf that borrows
-- it and that position are one number. Definitions only.
use Rattle.std.specs.Prelude.{ℕ, ◌+◌, ◌-◌, ◌*◌, ◌≤◌, ◌<◌, ◌≡◌, ◌⊎◌, cond, length, get_or, eqb, Float}
use mathlib.Core.List.{List, [], ◌∷◌, map, Memᴰ}
use Rattle.lists.specs.Lists.{from, joined, put, part}
use Rattle.lists.specs.Same.{Same}
use Rattle.definition.specs.Overlaps.{nearest}
use Rattle.rows.specs.Rows.{most_leaves}
use Rattle.nearest_scan.specs.Near.{Found}
use Rattle.search.specs.declared.Search.{Search}

-- a leaf, and a position below most_leaves
abbrev pub code : ℕ → ℕ → ℕ
code leaf q = leaf * most_leaves + q

-- the row at p takes the one at q: where two leaves own them, each leaf gets the other's row
unfoldable pub pair_of : (ℕ → ℕ) → ℕ → ℕ → List ℕ
pair_of own p q = cond (eqb (own p) (own q)) [] (code (own p) q ∷ code (own q) p ∷ [])

-- the row at p takes each of these
unfoldable pub pairs_of : (ℕ → ℕ) → ℕ → List ℕ → List ℕ
pairs_of own p qs = joined (map (pair_of own p) qs)

-- each position of a active rows, once
abbrev pub EachOnce : ℕ → List ℕ → Type 0
EachOnce a positions = Same positions (from 0 a)

-- the owners of a active rows at the front of the list: each fits a number
pub record Owners (a : ℕ) (wholes : List ℕ) : Type 0 where
  pub few : a ≤ most_leaves
  pub room : a ≤ length wholes
  pub small : (i : ℕ) → i < a → get_or wholes i 0 < most_leaves

-- positions within the active rows, and room from n on for what they send
pub record PairRoom (near : List ℕ) (a p : ℕ) (wholes : List ℕ) (n : ℕ) : Type 0 where
  pub owners : Owners a wholes
  pub start : a ≤ n
  pub fits : n + 2 * length near ≤ length wholes
  pub here : p < a
  pub within : (k : ℕ) → k < length near → get_or near k 0 < a

module _ (d : ℕ) (cs : List Float) (neighbours : ℕ) (active : List ℕ) where
  -- what the row at p sends stands from n to r, and it takes the definition's rows
  pub record Taken (p : ℕ) (old new : List ℕ) (n r : ℕ) : Type 0 where
    pub near : List ℕ
    pub far : List Float
    pub found : Found d cs active (get_or active p 0) neighbours near far
    pub few : length near ≤ neighbours
    pub end : r ≡ n + length (pairs_of (λ i. get_or old i 0) p near)
    pub list : new ≡ put old n (pairs_of (λ i. get_or old i 0) p near)

  -- z is a number of a pair: a position that was asked, `from`, takes `to`, and two leaves own them
  pub record PairCode (own : ℕ → ℕ) (asked : ℕ → Type 0) (z : ℕ) : Type 0 where
    pub from : ℕ
    pub to : ℕ
    pub below : asked from
    pub within : to < length active
    pub takes : Memᴰ (get_or active to 0) (nearest d cs neighbours active (get_or active from 0))
    pub apart : own from ≡ own to → ⊥
    pub is : (z ≡ code (own from) to) ⊎ (z ≡ code (own to) from)

  -- n positions were asked: behind the owners, up to r, stands all that they send, and nothing else; the owners stay
  pub record Gathered (old : List ℕ) (asked : ℕ → Type 0) (n : ℕ) (new : List ℕ) (r : ℕ) : Type 0 where
    pub start : length active ≤ r
    pub few : r ≤ length active + n * (2 * neighbours)
    pub stay : (i : ℕ) → i < length active → get_or new i 0 ≡ get_or old i 0
    pub only : (z : ℕ) → Memᴰ z (part new (length active) (r - length active)) → PairCode (λ i. get_or old i 0) asked z
    pub all : (z : ℕ) → PairCode (λ i. get_or old i 0) asked z → Memᴰ z (part new (length active) (r - length active))

  -- the same of the first n positions
  abbrev pub Collected : List ℕ → ℕ → List ℕ → ℕ → Type 0
  Collected old n new r = Gathered old (λ i. i < n) n new r

-- what the row at p of a search sends
abbrev pub TakenBy : Search → ℕ → List ℕ → List ℕ → ℕ → ℕ → Type 0
TakenBy s p old new n r = Taken s.points.dimensions s.points.coordinates.now s.neighbours s.active.now p old new n r

-- what the first n positions of a search send
abbrev pub CollectedBy : Search → List ℕ → ℕ → List ℕ → ℕ → Type 0
CollectedBy s old n new r = Collected s.points.dimensions s.points.coordinates.now s.neighbours s.active.now old n new r
