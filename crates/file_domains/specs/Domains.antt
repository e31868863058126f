-- Domain records tested in a file: what is answered. Definitions only.
use Rattle.std.specs.Prelude.{◌≡◌, ℕ, ◌+◌, ◌*◌, ◌≤◌, Bool, ◌&&◌, List, [], ◌∷◌, map, length, drop, Option, is_some, IfSome}
use Rattle.lists.specs.Lists.{joined}
use Rattle.definition.specs.Tree.{Leaf}
use Rattle.formats.specs.Bytes.{number_size, whole}
use Rattle.stored.specs.File.{domain_mark}
use Rattle.stored.specs.Stored.{counts_size, leaf_in, leaf_size, leaves_at_lem, after_leaves}
use Rattle.tree_tests.specs.InTurn.{without, fitted, leaf_passes, leaves_pass}
use Rattle.tree_tests.specs.Whole.{leaves_whole}
use Rattle.marks.specs.Bits.{Marked}
use Rattle.file_domains.specs.declared.Passed.{Passed}

-- the domain record at a place, where it passes and `remaining` rows of its level were left
pub record DomainHere (file : List ℕ) (at d : ℕ) (coarse : Bool) (remaining : ℕ) (p q : ℕ → Bool) (left listed : List ℕ) (r : Passed) : Type 0 where
  pub next : r.next ≡ at + leaf_size d coarse (drop at file)
  pub within : r.next ≤ length file
  pub borrowed : r.borrowed ≡ length (leaf_in d coarse (drop at file)).borrowed
  pub own : r.leaves.remaining + length (leaf_in d coarse (drop at file)).own ≡ remaining
  pub depth : r.leaves.least ≡ (leaf_in d coarse (drop at file)).depth
  pub left_set : Marked left (without (leaf_in d coarse (drop at file)).own p)
  pub listed_set : Marked listed q

-- Whether it stands whole and passes against what is left, p, `remaining` in number of the level's rows, and what is listed, q, where the domain
-- before is at depth `least`.
pub record DomainPassed (file : List ℕ) (at d : ℕ) (coarse : Bool) (rows least remaining : ℕ) (p q : ℕ → Bool) (left listed : List ℕ) (r : Option Passed) : Type 0 where
  pub tests : is_some r
      ≡ whole domain_mark (leaf_size d coarse (drop at file)) (drop at file)
      && leaf_passes (fitted d coarse rows least) q p remaining (leaf_in d coarse (drop at file))
  pub passed : IfSome r (DomainHere file at d coarse remaining p q left listed)

-- the borrowed rows of leaves, one leaf after the other
abbrev pub borrowed_rows : List Leaf → List ℕ
borrowed_rows fs = joined (map (λ f. f.borrowed) fs)

-- the depth of the last of leaves, or e where there is none
unfoldable pub last_depth : ℕ → List Leaf → ℕ
last_depth e [] = e
last_depth e (f ∷ fs) = last_depth f.depth fs

-- m domain records from a place on, where they pass and have all rows of their level; each takes the bytes of its counts and of its rows
pub record DomainsHere (file : List ℕ) (at m d : ℕ) (coarse : Bool) (q : ℕ → Bool) (listed : List ℕ) (r : Passed) : Type 0 where
  pub after : drop r.next file ≡ after_leaves d coarse m (drop at file)
  pub within : r.next ≤ length file
  pub past : at + counts_size * m + number_size * r.borrowed ≤ r.next
  pub own : r.leaves.remaining ≡ 0
  pub borrowed : r.borrowed ≡ length (borrowed_rows (leaves_at_lem d coarse m (drop at file)))
  pub depth : r.leaves.least ≡ last_depth 0 (leaves_at_lem d coarse m (drop at file))
  pub listed_set : Marked listed q

-- Whether they stand whole and pass against what is left, p, `rows` in number, and what is listed, q.
pub record DomainsPassed (file : List ℕ) (at m d : ℕ) (coarse : Bool) (rows : ℕ) (p q : ℕ → Bool) (listed : List ℕ) (r : Option Passed) : Type 0 where
  pub tests : is_some r
      ≡ leaves_whole d coarse m (drop at file) && leaves_pass (fitted d coarse rows) q p rows 0 (leaves_at_lem d coarse m (drop at file))
  pub passed : IfSome r (DomainsHere file at m d coarse q listed)
