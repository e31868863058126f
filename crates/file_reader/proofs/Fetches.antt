-- The domain record at a place of a file: its numbers, and that its parts lie within the file. Assumes nothing.
use Rattle.std.specs.Prelude.{Some}
use mathlib.Core.Path.{◌≡◌, sym, ap}
use Prim.Native.Nat.{ℕ, ◌+◌, ◌*◌, ◌≤◌}
use native.Mathlib.Omega.{arith}
use mathlib.Core.List.{List}
use lib.Dec.{leb}
use lib.ListN.{length, drop, length-drop}
use lib.Seq.{drop-drop}
use borrow.Author.Tests.{leb-true}
use Rattle.lists.proofs.Tests.{and-fst}
use Rattle.formats.specs.Bytes.{little, number_size, number_at, marked_by}
use Rattle.stored.specs.File.{domain_mark}
use Rattle.stored.specs.Stored.{bounds_place}
use Rattle.file_reader.specs.declared.Fetched.{Fetched}
use Rattle.file_reader.specs.Fetch.{IsFetched}

-- a number of a record, read in the file
pub number-here : (at : ℕ) (file : List ℕ) (k : ℕ) → number_at (at + k) file ≡ number_at k (drop at file)
number-here at file k = ap (little number_size) (sym (drop-drop k at file))

-- the record's parts lie one after the other within the file
pub parts_within : (file : List ℕ) (at tail : ℕ) (r : Fetched) → IsFetched (drop at file) at tail (Some r)
    → (r.own_at + number_size * r.own ≡ r.borrowed_at) × (r.borrowed_at + number_size * r.borrowed ≡ r.bounds_at)
    × (r.bounds_at + tail ≡ r.depth_at) × (r.depth_at + number_size ≡ r.next) × (r.next ≤ length file)
parts_within file at tail r f =
    let bs = drop at file in
    let p = f.parts in
    let long = leb-true (bounds_place bs + tail + number_size) (length bs) (and-fst (leb (bounds_place bs + tail + number_size) (length bs)) (marked_by domain_mark bs) (sym f.stands)) in
    (omega arith, omega arith, omega arith, omega arith, omega (arith, length-drop at file))
