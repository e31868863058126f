-- The levels: what is kept from level to level, what holds of each level, and sums over the levels. Assumes nothing.
-- Holds: next-times, next-short, next-good, levels-all, levels-sum
use mathlib.Core.Logic.{⊎_elim}
use mathlib.Core.List.{List, [], map}
use Prim.Native.Nat.{ℕ, zero, suc, ◌+◌, ◌*◌, ◌≤◌, ◌<◌}
use native.Mathlib.Omega.{arith}
use native.Mathlib.Nat.{suc-mul}
use lib.ListN.{length}
use lib.Ieee.{Float}
use Rattle.lists.specs.Lists.{member, total, joined}
use Rattle.lists.specs.Ascends.{All}
use Rattle.lists.proofs.Tests.{le-or-lt}
use Rattle.lists.proofs.Count.{count-len, length-keep}
use Rattle.lists.specs.Times.{times}
use Rattle.lists.proofs.Times.{times-keep-le}
use Rattle.lists.proofs.Sums.{sum-cons, sum-nil}
use Rattle.definition.specs.Tree.{Settings, Level, coarse_level_lem, next_active, levels_from}
use Rattle.definition.proofs.Steps.{fine_of, size_from, next_of, sent_from, levels-last, levels-end, levels-more}
use Rattle.definition.proofs.Cuts.{Good, good-part}

-- ---- the next active rows are a part of the active rows, in their order
module _ (active : List ℕ) (sent : List (List ℕ)) where
  pub next-times : (r : ℕ) → times r (next_active active sent) ≤ times r active
  unfolding next_active
  next-times r = times-keep-le (λ i. member i (joined sent)) active r

  pub next-short : length (next_active active sent) ≤ length active
  unfolding next_active
  next-short = omega (arith, length-keep (λ i. member i (joined sent)) active, count-len (λ i. member i (joined sent)) active)

  pub next-good : (d : ℕ) (cs : List Float) → Good d cs active → Good d cs (next_active active sent)
  next-good d cs g = good-part d cs active (next_active active sent) g next-times

-- ---- Q: what the active rows have, and keep as some of them are left out
module _ (s : Settings) (cs : List Float) (c k : ℕ) (Q : List ℕ → Type 0) (stays : (active : List ℕ) (sent : List (List ℕ)) → Q active → Q (next_active active sent)) where
  -- what holds of each fine level and of the coarse one holds of all levels
  pub levels-all : (P : Level → Type 0) → ((size : ℕ) (active : List ℕ) → Q active → c < length active → P (fine_of s cs size active))
      → ((active : List ℕ) → Q active → P (coarse_level_lem s.dimension active))
      → (fuel built : ℕ) (active : List ℕ) → Q active → All P (levels_from s cs c k fuel built active)
  unfolding All levels_from
  levels-all P fine coarse zero built active q = (coarse active q, tt)
  levels-all P fine coarse (suc fuel) built active q =
      ⊎_elim
      (λ (few : length active ≤ c). rw (levels-end s cs c k fuel built active few) (coarse active q, tt))
      (λ (many : c < length active). rw (levels-more s cs c k fuel built active many)
      (fine (size_from c k built active) active q many, levels-all P fine coarse fuel (suc built) (next_of s cs c k built active) (stays active (sent_from s cs c k built active) q)))
      (le-or-lt (length active) c)

  -- a sum over the levels, of at most a for each fine level and b for the coarse one
  pub levels-sum : (f : Level → ℕ) (a b : ℕ) → ((size : ℕ) (active : List ℕ) → Q active → c < length active → f (fine_of s cs size active) ≤ a)
      → ((active : List ℕ) → Q active → f (coarse_level_lem s.dimension active) ≤ b)
      → (fuel built : ℕ) (active : List ℕ) → Q active → total (map f (levels_from s cs c k fuel built active)) ≤ fuel * a + b
  levels-sum f a b fine coarse zero built active q =
      rw (levels-last s cs c k built active) (omega (arith, sum-cons f (coarse_level_lem s.dimension active) [], sum-nil f, coarse active q))
  levels-sum f a b fine coarse (suc fuel) built active q =
      ⊎_elim
      (λ (few : length active ≤ c). rw (levels-end s cs c k fuel built active few)
      (omega (arith, sum-cons f (coarse_level_lem s.dimension active) [], sum-nil f, coarse active q)))
      (λ (many : c < length active). rw (levels-more s cs c k fuel built active many)
      (omega (
        arith,
        sum-cons f (fine_of s cs (size_from c k built active) active) (levels_from s cs c k fuel (suc built) (next_of s cs c k built active)),
        fine (size_from c k built active) active q many,
        levels-sum f a b fine coarse fuel (suc built) (next_of s cs c k built active) (stays active (sent_from s cs c k built active) q),
        suc-mul fuel a,
      )))
      (le-or-lt (length active) c)
