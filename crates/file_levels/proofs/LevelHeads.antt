-- The level record at a place of a file: its rows lie within the file. Assumes nothing.
use Rattle.std.specs.Prelude.{Some}
use mathlib.Core.Path.{◌≡◌, sym}
use Prim.Native.Nat.{ℕ, ◌+◌, ◌*◌, ◌≤◌}
use native.Mathlib.Omega.{arith}
use mathlib.Core.List.{List}
use lib.Dec.{leb}
use lib.ListN.{length, drop, length-drop}
use borrow.Author.Tests.{leb-true}
use Rattle.lists.proofs.Tests.{and-fst}
use Rattle.formats.specs.Bytes.{number_size, marked_by}
use Rattle.stored.specs.File.{level_mark}
use Rattle.stored.specs.Stored.{domains_place}
use Rattle.file_levels.specs.declared.LevelHead.{LevelHead}
use Rattle.file_levels.specs.Levels.{IsHead}

-- its rows lie within the file, and its domains begin where they end
pub head-within : (file : List ℕ) (at : ℕ) (r : LevelHead) → IsHead (drop at file) at (Some r)
    → (r.rows_at + number_size * r.rows ≡ r.next) × (r.next ≤ length file)
head-within file at r f =
    let bs = drop at file in
    let p = f.parts in
    let long = leb-true (domains_place bs) (length bs) (and-fst (leb (domains_place bs) (length bs)) (marked_by level_mark bs) (sym f.stands)) in
    (omega arith, omega (arith, length-drop at file))
