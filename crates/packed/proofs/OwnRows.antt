-- The own rows of leaves one after the other, leaf by leaf. Assumes nothing.
use mathlib.Core.Path.{◌≡◌, ap₂}
use mathlib.Core.List.{List, []}
use Prim.Native.Nat.{ℕ, ◌+◌, ◌<◌}
use lib.ListN.{length, get_or}
use Rattle.lists.specs.Lists.{part}
use Rattle.lists.proofs.From.{length-map-from, get_d-map-below}
use Rattle.packed.specs.Reading.{own_at, read_own}
use Rattle.packed.specs.Rows.{IsRow}
use Rattle.packed.specs.declared.DomainRow.{DomainRow}

module _ (internals domains : List ℕ) (first m : ℕ) where
  pub read_length : length (read_own internals domains first m) ≡ m
  unfolding read_own
  read_length = length-map-from (λ l. own_at internals domains (first + l)) 0 m

  pub read_at : (l : ℕ) → l < m → get_or (read_own internals domains first m) l [] ≡ own_at internals domains (first + l)
  unfolding read_own
  read_at l h = get_d-map-below (λ l. own_at internals domains (first + l)) m l [] h

-- by a row that was read
pub row-own : (internals domains : List ℕ) (j : ℕ) (r : DomainRow) → IsRow r domains j → part internals r.internal_start r.internal_count ≡ own_at internals domains j
row-own internals domains j r e = ap₂ (part internals) e.own_start e.own_count
