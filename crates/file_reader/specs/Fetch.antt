-- The domain record at the front of bytes, of which the first stands at a place of a file. Definitions only.
use Rattle.std.specs.Prelude.{◌≡◌, ℕ, ◌+◌, ◌^◌, ◌<◌, Bool, cond, List, Option, is_some, IfSome}
use Rattle.definition.specs.Packed.{row_floats_lem}
use Rattle.formats.specs.Bytes.{number_size, Mark, whole}
use Rattle.stored.specs.File.{domain_mark}
use Rattle.stored.specs.Stored.{counts_size, first_count_lem, second_count, borrowed_place, bounds_place}
use Rattle.file_reader.specs.declared.Fetched.{Fetched}

-- how many floats a domain's record has: those of its domain row; the coarse domain has no box, and so its cover alone
abbrev pub record_floats_lem : ℕ → Bool → ℕ
record_floats_lem d coarse = cond coarse 1 (row_floats_lem d)

-- the two counts behind a mark at the front of bytes, where they stand there whole
pub record CountsRead (m : Mark) (bs : List ℕ) (r : Option (ℕ × ℕ)) : Type 0 where
  pub stands : is_some r ≡ whole m counts_size bs
  pub counts : IfSome r (λ c. (c.0 ≡ first_count_lem bs) × (c.1 ≡ second_count bs) × (c.0 < 2 ^ 32) × (c.1 < 2 ^ 32))

-- the counts of a domain's record, and the places of its parts and of what comes next
pub record Parts (bs : List ℕ) (at tail : ℕ) (r : Fetched) : Type 0 where
  pub own : r.own ≡ first_count_lem bs
  pub borrowed : r.borrowed ≡ second_count bs
  pub own_at : r.own_at ≡ at + counts_size
  pub borrowed_at : r.borrowed_at ≡ at + borrowed_place bs
  pub bounds_at : r.bounds_at ≡ at + bounds_place bs
  pub depth_at : r.depth_at ≡ at + bounds_place bs + tail
  pub next : r.next ≡ at + bounds_place bs + tail + number_size

-- the record where it stands there whole, with `tail` bytes of floats and then its depth, and nothing where it does not
pub record IsFetched (bs : List ℕ) (at tail : ℕ) (r : Option Fetched) : Type 0 where
  pub stands : is_some r ≡ whole domain_mark (bounds_place bs + tail + number_size) bs
  pub parts : IfSome r (Parts bs at tail)
