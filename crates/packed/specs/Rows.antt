-- A domain row by value, and what becomes of a list of domain rows when a row, or two of its numbers, are written. Definitions only.
use Rattle.std.specs.Prelude.{ℕ, ◌+◌, ◌*◌, List, [], ◌∷◌, ◌≡◌}
use Rattle.lists.specs.Lists.{put}
use Rattle.definition.specs.Packed as definition
use Rattle.definition.specs.Packed.{row_numbers, numbers_of}
use Rattle.packed.specs.Reading.{own_start, own_count, borrowed_start, borrowed_count, depth_at}
use Rattle.packed.specs.declared.DomainRow.{DomainRow}

-- a row by value, as the definition has it
abbrev pub plain_row : DomainRow → definition.DomainRow
plain_row r =
    record {
      own_start = r.internal_start;
      own_count = r.internal_count;
      borrowed_start = r.borrowed_start;
      borrowed_count = r.borrowed_count;
      depth = r.depth;
    }

-- it is the row number k of the list
pub record IsRow (r : DomainRow) (domains : List ℕ) (k : ℕ) : Type 0 where
  pub own_start : r.internal_start ≡ own_start domains k
  pub own_count : r.internal_count ≡ own_count domains k
  pub borrowed_start : r.borrowed_start ≡ borrowed_start domains k
  pub borrowed_count : r.borrowed_count ≡ borrowed_count domains k
  pub depth : r.depth ≡ depth_at domains k

-- the row number k, whole
abbrev pub put_row_lem : List ℕ → ℕ → definition.DomainRow → List ℕ
put_row_lem domains k r = put domains (row_numbers * k) (numbers_of r)

-- the row of a leaf at this depth that borrows nothing yet: start and count of its own rows
abbrev pub own_row : ℕ → ℕ → ℕ → definition.DomainRow
own_row start count depth = record { own_start = start; own_count = count; borrowed_start = 0; borrowed_count = 0; depth = depth }

abbrev pub put_own_lem : List ℕ → ℕ → ℕ → ℕ → ℕ → List ℕ
put_own_lem domains k start count depth = put_row_lem domains k (own_row start count depth)

-- start and count of the rows that its leaf borrows
abbrev pub put_borrowed_lem : List ℕ → ℕ → ℕ → ℕ → List ℕ
put_borrowed_lem domains k start count = put domains (row_numbers * k + 2) (start ∷ count ∷ [])
