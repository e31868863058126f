-- What the tests of a level, of the levels and of the whole tree are given and say. Definitions only.
use Rattle.std.specs.Prelude.{◌≡◌, Bool, true, ◌&&◌, List, ℕ, ◌+◌, ◌-◌, ◌*◌, ◌≤◌, leb, ltb, length, Option, is_some, IfSome}
use Rattle.lists.specs.Lists.{part}
use Rattle.definition.specs.Tree.{Settings}
use Rattle.definition.specs.Packed.{Counts, row_numbers, row_floats_lem, most_levels, most_rows, leaves_in_lem, packed_level_points, packed_borrowed}
use Rattle.definition.specs.Refusals.{most_points}
use Rattle.definition.specs.Outcome.{TreeLists}
use Rattle.packed.specs.Reading.{Packed, up_to}
use Rattle.stored.specs.Sound.{sound}
use Rattle.stored.specs.Outcome.{tree_held, packs}
use Rattle.tree_tests.specs.InTurn.{among}
use Rattle.marks.specs.Bits.{Marked}
use Rattle.list_domains.specs.InLists.{borrowed_end}
use Rattle.list_levels.specs.InLists.{count_fits_lem, one_only, held_level_passes, held_levels_pass}
use Rattle.list_domains.specs.declared.ListsPassed.{ListsPassed}

-- ---- before

-- the rows of a level, its domain rows and what they name lie inside the lists
pub record LevelReady (l : Packed) (level_points : List ℕ) (most j m a b rows : ℕ) : Type 0 where
  pub axes : l.dimension ≤ 3
  pub domain_rows : row_numbers * (j + m) ≤ length l.domains
  pub boxes : row_floats_lem l.dimension * (j + m) ≤ length l.boxes
  pub points : a + rows ≤ length level_points
  pub own : a + rows ≤ length l.internals
  pub end : b ≤ most
  pub borrowed : most ≤ length l.borrowed

-- the lists are as long as a tree over n rows may need
pub record Long (l : Packed) (level_points : List ℕ) (n most : ℕ) : Type 0 where
  pub points : 4 * n ≤ length level_points
  pub internals : 4 * n ≤ length l.internals
  pub domains : row_numbers * most_rows n ≤ length l.domains
  pub boxes : row_floats_lem l.dimension * most_rows n ≤ length l.boxes
  pub borrowed : most ≤ length l.borrowed

-- and at most four levels have their counts, with all rows listed above the first
pub record LevelsReady (l : Packed) (level_points : List ℕ) (c : Counts) (n most : ℕ) (listed : List ℕ) : Type 0 where
  pub axes : l.dimension ≤ 3
  pub few : c.levels ≤ most_levels
  pub rows : c.levels ≤ length c.rows
  pub domains : c.levels ≤ length c.domains
  pub many : n ≤ most_points
  pub long : Long l level_points n most
  pub all : Marked listed (λ i. ltb i n)

-- one level more, where those before it have passed
pub record NextReady (l : Packed) (level_points : List ℕ) (n most above : ℕ) (done : ListsPassed) : Type 0 where
  pub axes : l.dimension ≤ 3
  pub many : n ≤ most_points
  pub long : Long l level_points n most
  pub room : done.rows + n ≤ 4 * n
  pub domains : done.domains ≤ most_rows n
  pub borrowed : done.borrowed ≤ most
  pub fewer : above ≤ n

-- ---- after

-- a level under a set of rows; then its own rows are the listed ones
pub record LevelPassed (coarse : Bool) (l : Packed) (level_points : List ℕ) (most j a b rows m : ℕ) (listed₀ listed : List ℕ) (r : Option ℕ) : Type 0 where
  pub passed : (above : ℕ → Bool) → Marked listed₀ above → is_some r ≡ held_level_passes coarse l level_points most above j a b rows m
  pub end : IfSome r (λ x. x ≡ borrowed_end l.domains j b m)
  pub listed_now : is_some r ≡ true → Marked listed (among (part level_points a rows))

-- the level number t with so many rows and m domains, and then the totals with it
pub record NextPassed (coarse : Bool) (l : Packed) (level_points : List ℕ) (n most t above rows m : ℕ) (done : ListsPassed) (listed₀ listed : List ℕ) (r : Option ListsPassed) : Type 0 where
  pub passed : (set : ℕ → Bool) → Marked listed₀ set
      → is_some r ≡ (count_fits_lem t n above rows && (one_only coarse m && leb m (most_rows n - done.domains))
      && held_level_passes coarse l level_points most set done.domains done.rows done.borrowed rows m)
  pub rows_on : IfSome r (λ x. x.rows ≡ done.rows + rows)
  pub domains_on : IfSome r (λ x. x.domains ≡ done.domains + m)
  pub borrowed_on : IfSome r (λ x. x.borrowed ≡ borrowed_end l.domains done.domains done.borrowed m)
  pub listed_now : is_some r ≡ true → Marked listed (among (part level_points done.rows rows))

-- the levels, and then their totals
pub record LevelsPassed (l : Packed) (level_points : List ℕ) (c : Counts) (n most : ℕ) (r : Option ListsPassed) : Type 0 where
  pub passed : is_some r ≡ held_levels_pass l level_points c n most 0 n (λ i. ltb i n) 0 c.levels
  pub rows : IfSome r (λ x. x.rows ≡ up_to c.rows c.levels)
  pub domains : IfSome r (λ x. x.domains ≡ up_to c.domains c.levels)
  pub borrowed : IfSome r (λ x. x.borrowed ≡ borrowed_end l.domains 0 0 (up_to c.domains c.levels))

-- the tree that stands in the lists, and then the rows, domains and borrowed rows of all its levels
pub record TreePassed (s : Settings) (n : ℕ) (c : Counts) (l : TreeLists) (r : Option ListsPassed) : Type 0 where
  pub passed : is_some r ≡ packs c l (tree_held s.dimension c l) && sound s n (tree_held s.dimension c l)
  pub rows : IfSome r (λ x. x.rows ≡ length (packed_level_points (tree_held s.dimension c l)))
  pub domains : IfSome r (λ x. x.domains ≡ length (leaves_in_lem (tree_held s.dimension c l)))
  pub borrowed : IfSome r (λ x. x.borrowed ≡ length (packed_borrowed (tree_held s.dimension c l)))
