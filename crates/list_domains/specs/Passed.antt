-- What the tests of a domain row and of several say, and what they leave of the two sets of rows. Definitions only.
use Rattle.std.specs.Prelude.{◌≡◌, Bool, true, List, ℕ, ◌+◌, ◌-◌, ◌*◌, ◌≤◌, length, Option, is_some, IfSome}
use Rattle.definition.specs.Packed.{row_numbers, row_floats_lem}
use Rattle.packed.specs.Reading.{Packed, own_count, borrowed_count, depth_at, read_leaf}
use Rattle.tree_tests.specs.InTurn.{without}
use Rattle.marks.specs.Bits.{Marked}
use Rattle.list_domains.specs.InLists.{domain_passes, domains_pass, borrowed_end}
use Rattle.list_domains.specs.declared.SoFar.{SoFar}

-- ---- before: m domain rows from the row number j on, with stretches of a + k own rows and of borrowed rows to `most`, lie inside the lists
pub record Ready (l : Packed) (most j m a b k : ℕ) : Type 0 where
  pub axes : l.dimension ≤ 3
  pub rows : row_numbers * (j + m) ≤ length l.domains
  pub boxes : row_floats_lem l.dimension * (j + m) ≤ length l.boxes
  pub own : a + k ≤ length l.internals
  pub end : b ≤ most
  pub borrowed : most ≤ length l.borrowed

-- ---- after

-- the domain row number j
pub record DomainPassed (coarse : Bool) (l : Packed) (most rows j a b k least : ℕ) (left₀ listed₀ left listed : List ℕ) (r : Option SoFar) : Type 0 where
  pub passed : (p q : ℕ → Bool) → Marked left₀ p → Marked listed₀ q → is_some r ≡ domain_passes coarse l most rows q p j a b k least
  pub own : IfSome r (λ x. x.own_at ≡ a + own_count l.domains j)
  pub borrowed : IfSome r (λ x. x.borrowed_at ≡ b + borrowed_count l.domains j)
  pub remaining : IfSome r (λ x. x.leaves.remaining ≡ k - own_count l.domains j)
  pub depth : IfSome r (λ x. x.leaves.least ≡ depth_at l.domains j)
  pub left_out : (p : ℕ → Bool) → Marked left₀ p → is_some r ≡ true → Marked left (without (read_leaf l j).own p)
  pub listed_as_was : (q : ℕ → Bool) → Marked listed₀ q → is_some r ≡ true → Marked listed q

-- m domain rows from the row number j on, which are to have the k rows of their level, and where their borrowed rows end
pub record DomainsPassed (coarse : Bool) (l : Packed) (most j a b k m : ℕ) (left₀ listed₀ listed : List ℕ) (r : Option ℕ) : Type 0 where
  pub passed : (p q : ℕ → Bool) → Marked left₀ p → Marked listed₀ q → is_some r ≡ domains_pass coarse l most k q p j a b k 0 m
  pub end : IfSome r (λ x. x ≡ borrowed_end l.domains j b m)
  pub listed_as_was : (q : ℕ → Bool) → Marked listed₀ q → is_some r ≡ true → Marked listed q
