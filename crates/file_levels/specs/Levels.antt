-- Level records tested in a file: what is answered of one, and of all of them. Definitions only.
use Rattle.std.specs.Prelude.{◌≡◌, ℕ, ◌+◌, ◌*◌, ◌≤◌, Bool, ◌&&◌, List, leb, ltb, eqb, length, drop, Option, is_some, IfSome}
use Rattle.definition.specs.Packed.{most_levels, leaves_in_lem, packed_borrowed}
use Rattle.formats.specs.Bytes.{number_size, whole}
use Rattle.stored.specs.File.{level_mark}
use Rattle.stored.specs.Stored.{counts_size, first_count_lem, second_count, one_domain, domains_place, level_in, after_level, levels_at}
use Rattle.tree_tests.specs.InTurn.{among, level_passes, levels_pass}
use Rattle.tree_tests.specs.Whole.{level_whole, levels_whole}
use Rattle.marks.specs.Bits.{Marked}
use Rattle.file_domains.specs.Domains.{borrowed_rows}
use Rattle.file_levels.specs.declared.LevelHead.{LevelHead}
use Rattle.file_levels.specs.declared.LevelPassed.{LevelPassed}
use Rattle.file_levels.specs.declared.TreePassed.{TreePassed}

-- ---- a level's own record, at the front of bytes, of which the first stands at a place of a file

-- its counts, and where its rows and its domains begin
pub record HeadHere (bs : List ℕ) (at : ℕ) (r : LevelHead) : Type 0 where
  pub rows : r.rows ≡ first_count_lem bs
  pub domains : r.domains ≡ second_count bs
  pub rows_at : r.rows_at ≡ at + counts_size
  pub next : r.next ≡ at + domains_place bs

pub record IsHead (bs : List ℕ) (at : ℕ) (r : Option LevelHead) : Type 0 where
  pub stands : is_some r ≡ whole level_mark (domains_place bs) bs
  pub parts : IfSome r (HeadHere bs at)

-- ---- a level with its domains

-- the test of the row count
abbrev pub between : ℕ → ℕ → ℕ → Bool
between least below k = leb least k && ltb k below

-- the level at a place, where it passes; each domain takes the bytes of its counts and of its rows
pub record LevelHere (file : List ℕ) (at d : ℕ) (listed : List ℕ) (r : LevelPassed) : Type 0 where
  pub after : drop r.next file ≡ after_level d (drop at file)
  pub within : r.next ≤ length file
  pub past : at + counts_size * r.domains + number_size * r.borrowed ≤ r.next
  pub rows : r.rows ≡ length (level_in d (drop at file)).points
  pub domains : r.domains ≡ length (level_in d (drop at file)).leaves
  pub borrowed : r.borrowed ≡ length (borrowed_rows (level_in d (drop at file)).leaves)
  pub listed_set : Marked listed (among (level_in d (drop at file)).points)

-- Whether it stands whole and passes against the rows of the level above, p.
pub record LevelPassedIs (file : List ℕ) (at d least below : ℕ) (p : ℕ → Bool) (listed : List ℕ) (r : Option LevelPassed) : Type 0 where
  pub tests : is_some r
      ≡ level_whole d (drop at file) && level_passes d (one_domain (drop at file)) (between least below) p (level_in d (drop at file))
  pub passed : IfSome r (LevelHere file at d listed)

-- ---- all levels

-- the levels from a place on, over n rows, where they pass
pub record TreeHere (file : List ℕ) (at d : ℕ) (r : TreePassed) : Type 0 where
  pub domains : r.domains ≡ length (leaves_in_lem (levels_at d most_levels (drop at file)))
  pub borrowed : r.borrowed ≡ length (packed_borrowed (levels_at d most_levels (drop at file)))

-- Whether they stand whole to the end of the file and pass.
pub record TreePassedIs (file : List ℕ) (at d n : ℕ) (r : Option TreePassed) : Type 0 where
  pub tests : is_some r
      ≡ levels_whole d most_levels (drop at file) && levels_pass d (λ k. eqb k n) (λ i. ltb i n) (levels_at d most_levels (drop at file))
  pub passed : IfSome r (TreeHere file at d)
