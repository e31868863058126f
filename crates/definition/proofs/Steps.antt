-- One step of the queue and of the levels, as a proof of the loops uses them. Assumes nothing.
-- Holds: queue-empty, queue-wait, queue-done, sent_with, fine_of, size_from, sent_from, next_of, levels-last, levels-end,
--   levels-more
use mathlib.Core.Path.{◌≡◌, refl}
use mathlib.Core.List.{List, [], ◌∷◌, ◌++◌}
use Prim.Native.Nat.{ℕ, zero, suc, ◌*◌, ◌≤◌, ◌<◌}
use borrow.Author.Tests.{le-leb, lt-leb}
use lib.ListN.{length}
use lib.Ieee.{Float}
use Rattle.definition.specs.Levels.{level_size_lem}
use Rattle.definition.specs.Cut.{Domain, left_of, right_of, queue_leaves, leaves_of}
use Rattle.definition.specs.Tree.{Settings, Level, coarse_level_lem, fine_level_lem, sent_lists, next_active, reductions_left, levels_from}

-- ---- the queue
module _ (d : ℕ) (cs : List Float) (leaf fuel : ℕ) where
  -- no domain waits
  pub queue-empty : queue_leaves d cs leaf fuel [] ≡ []
  unfolding queue_leaves
  queue-empty = elim fuel as (λ n. queue_leaves d cs leaf n [] ≡ []) [ zero ↦ refl | suc n ↦ refl ]

  -- the first domain is large: its halves wait at the end
  pub queue-wait : (q : Domain) (qs : List Domain) → 2 * leaf ≤ length q.rows
      → queue_leaves d cs leaf (suc fuel) (q ∷ qs) ≡ queue_leaves d cs leaf fuel (qs ++ left_of d cs q ∷ right_of d cs q ∷ [])
  unfolding queue_leaves
  queue-wait q qs h = rw (le-leb (2 * leaf) (length q.rows) h)

  -- it is not: its halves are the next two leaves
  pub queue-done : (q : Domain) (qs : List Domain) → length q.rows < 2 * leaf
      → queue_leaves d cs leaf (suc fuel) (q ∷ qs) ≡ left_of d cs q ∷ right_of d cs q ∷ queue_leaves d cs leaf fuel qs
  unfolding queue_leaves
  queue-done q qs h = rw (lt-leb (2 * leaf) (length q.rows) h)

-- ---- the levels

-- what the leaves of a level over its active rows send up, `size` rows in all: a list to each leaf
abbrev pub sent_with : Settings → List Float → ℕ → List ℕ → List (List ℕ)
sent_with s cs size active = sent_lists s.dimension cs (leaves_of s.dimension cs s.leaf active) size

-- a fine level over its active rows, of which `size` are sent up
abbrev pub fine_of : Settings → List Float → ℕ → List ℕ → Level
fine_of s cs size active =
    fine_level_lem s.dimension cs s.neighbours active (leaves_of s.dimension cs s.leaf active) (sent_with s cs size active)

-- how many rows a fine level, with this many before it, sends up, and what its leaves do
abbrev pub size_from : ℕ → ℕ → ℕ → List ℕ → ℕ
size_from c k built active = level_size_lem (length active) c (reductions_left k built)

abbrev pub sent_from : Settings → List Float → ℕ → ℕ → ℕ → List ℕ → List (List ℕ)
sent_from s cs c k built active = sent_with s cs (size_from c k built active) active

-- the active rows of the level after it
abbrev pub next_of : Settings → List Float → ℕ → ℕ → ℕ → List ℕ → List ℕ
next_of s cs c k built active = next_active active (sent_from s cs c k built active)

module _ (s : Settings) (cs : List Float) (c k : ℕ) where
  -- the fine levels are all made: the coarse level ends the tree
  pub levels-last : (built : ℕ) (active : List ℕ) → levels_from s cs c k zero built active ≡ coarse_level_lem s.dimension active ∷ []
  unfolding levels_from
  levels-last built active = refl

  -- the active rows are few enough: the coarse level ends the tree
  pub levels-end : (fuel built : ℕ) (active : List ℕ) → length active ≤ c
      → levels_from s cs c k (suc fuel) built active ≡ coarse_level_lem s.dimension active ∷ []
  unfolding levels_from
  levels-end fuel built active h = rw (le-leb (length active) c h)

  -- they are not: one more fine level
  pub levels-more : (fuel built : ℕ) (active : List ℕ) → c < length active
      → levels_from s cs c k (suc fuel) built active ≡ fine_of s cs (size_from c k built active) active ∷ levels_from s cs c k fuel (suc built) (next_of s cs c k built active)
  unfolding levels_from
  levels-more fuel built active h = rw (lt-leb (length active) c h)
