-- What the record of renamed lists shuts out: lists that are wrong in one list, which its field refuses; the right ones have it. Each is
-- computed. Assumes nothing.
-- Holds: right-renamed, not-points-kept, not-internals-kept, not-borrowed-kept, not-tail-renamed, not-retired-name,
--   not-other-rows
use Prim.Native.Nat.{ℕ}
use mathlib.Core.Path.{◌≡◌, refl}
use mathlib.Core.List.{List, [], ◌∷◌}
use native.Mathlib.Omega.{arith}
use lib.ListN.{get_or}
use Rattle.definition.specs.Number.{plus_zero}
use Rattle.definition.specs.Outcome.{TreeLists}
use Rattle.renaming_laws.specs.Renaming.{ListsRenamed}

-- of four slots 1 and 3 are live, and go to 0 and 1
abbrev new : ℕ → ℕ
new i = get_or (4 ∷ 0 ∷ 4 ∷ 1 ∷ []) i 0

abbrev lists : List ℕ → List ℕ → List ℕ → List ℕ → TreeLists
lists points internals domains borrowed =
    record { level_points = points; internals = internals; domains = domains; boxes = plus_zero ∷ []; borrowed = borrowed }

-- a tree over the two, with its list fronts, and 9 past them
abbrev before : TreeLists
before = lists (1 ∷ 3 ∷ 3 ∷ 9 ∷ []) (1 ∷ 3 ∷ 3 ∷ 9 ∷ []) (0 ∷ 1 ∷ 0 ∷ 1 ∷ 1 ∷ []) (3 ∷ 1 ∷ 9 ∷ [])

abbrev Renamed : TreeLists → Type 0
Renamed after = ListsRenamed new 3 3 2 before after

pub right-renamed : Renamed (lists (0 ∷ 1 ∷ 1 ∷ 9 ∷ []) (0 ∷ 1 ∷ 1 ∷ 9 ∷ []) (0 ∷ 1 ∷ 0 ∷ 1 ∷ 1 ∷ []) (1 ∷ 0 ∷ 9 ∷ []))
right-renamed = record { level_points = refl; internals_are = refl; domains = refl; boxes = refl; borrowed_are = refl }

-- entry i of a list is another
differs : (i x y : ℕ) (xs ys : List ℕ) → xs ≡ ys → get_or xs i 0 ≡ x → get_or ys i 0 ≡ y → (x ≡ y → ⊥) → ⊥
differs i x y xs ys e a b n = n (rw (← a, e, b))

-- level points, internals or borrowed rows under their old names
pub not-points-kept : Renamed (lists (1 ∷ 3 ∷ 3 ∷ 9 ∷ []) (0 ∷ 1 ∷ 1 ∷ 9 ∷ []) (0 ∷ 1 ∷ 0 ∷ 1 ∷ 1 ∷ []) (1 ∷ 0 ∷ 9 ∷ [])) → ⊥
not-points-kept h = differs 0 1 0 _ _ h.level_points refl refl (λ e. omega arith)

pub not-internals-kept : Renamed (lists (0 ∷ 1 ∷ 1 ∷ 9 ∷ []) (1 ∷ 3 ∷ 3 ∷ 9 ∷ []) (0 ∷ 1 ∷ 0 ∷ 1 ∷ 1 ∷ []) (1 ∷ 0 ∷ 9 ∷ [])) → ⊥
not-internals-kept h = differs 0 1 0 _ _ h.internals_are refl refl (λ e. omega arith)

pub not-borrowed-kept : Renamed (lists (0 ∷ 1 ∷ 1 ∷ 9 ∷ []) (0 ∷ 1 ∷ 1 ∷ 9 ∷ []) (0 ∷ 1 ∷ 0 ∷ 1 ∷ 1 ∷ []) (3 ∷ 1 ∷ 9 ∷ [])) → ⊥
not-borrowed-kept h = differs 0 3 1 _ _ h.borrowed_are refl refl (λ e. omega arith)

-- what stands past the rows renamed too
pub not-tail-renamed : Renamed (lists (0 ∷ 1 ∷ 1 ∷ 0 ∷ []) (0 ∷ 1 ∷ 1 ∷ 9 ∷ []) (0 ∷ 1 ∷ 0 ∷ 1 ∷ 1 ∷ []) (1 ∷ 0 ∷ 9 ∷ [])) → ⊥
not-tail-renamed h = differs 3 0 9 _ _ h.level_points refl refl (λ e. omega arith)

-- a live slot named as a retired one
pub not-retired-name : Renamed (lists (4 ∷ 1 ∷ 1 ∷ 9 ∷ []) (0 ∷ 1 ∷ 1 ∷ 9 ∷ []) (0 ∷ 1 ∷ 0 ∷ 1 ∷ 1 ∷ []) (1 ∷ 0 ∷ 9 ∷ [])) → ⊥
not-retired-name h = differs 0 4 0 _ _ h.level_points refl refl (λ e. omega arith)

-- another depth in a domain row
pub not-other-rows : Renamed (lists (0 ∷ 1 ∷ 1 ∷ 9 ∷ []) (0 ∷ 1 ∷ 1 ∷ 9 ∷ []) (0 ∷ 1 ∷ 0 ∷ 1 ∷ 2 ∷ []) (1 ∷ 0 ∷ 9 ∷ [])) → ⊥
not-other-rows h = differs 4 2 1 _ _ h.domains refl refl (λ e. omega arith)
