-- DEMAND 3 OF ONE FINE LEVEL, over the definition's own lists: each field is a line of the demand. crates/demand reads the same out of
-- the lists that a build hands back. Assumes nothing.
use mathlib.Core.Path.{◌≡◌, subst}
use mathlib.Core.List.{List}
use Prim.Native.Nat.{ℕ, ◌≤◌, ◌<◌, min}
use native.Mathlib.Omega.{arith}
use lib.ListN.{length, get_or}
use lib.Ieee.{Float}
use Rattle.lists.specs.Lists.{joined, total}
use Rattle.lists.proofs.Map.{get_d-map-in}
use Rattle.lists.specs.Times.{times, Once}
use Rattle.definition.specs.Levels.{level_size_lem}
use Rattle.definition.specs.Quotas.{quotas}
use Rattle.definition.specs.Fair.{Fair}
use Rattle.definition.specs.Cut.{Domain, leaves_of}
use Rattle.definition.specs.Overlaps.{borrowed_by}
use Rattle.definition.specs.Sampling.{sent_by}
use Rattle.definition.specs.Tree.{Settings, reductions_left}
use Rattle.definition.proofs.Cuts.{Good, rows_of, domain_sizes, leaves-times, leaves-sum}
use Rattle.definition.proofs.Borrowed
use Rattle.definition.proofs.Sampling.{sent-length, sent-own}
use Rattle.definition.proofs.Steps.{sent_from, next_of}
use Rattle.definition.proofs.Sizes.{sized}
use Rattle.definition.proofs.Fairness.{fair}
use Rattle.definition.proofs.Levels.{next-times}
use Rattle.definition.proofs.Next.{Dealt, no_domain, rows_at, next-sent, next-length, next-at}

module _ (s : Settings) (cs : List Float) (c k built : ℕ) (active : List ℕ) where
  -- the level's leaves, S, and the quotas of the leaves
  abbrev leaves : List Domain
  leaves = leaves_of s.dimension cs s.leaf active

  abbrev size : ℕ
  size = level_size_lem (length active) c (reductions_left k built)

  abbrev shares : List ℕ
  shares = quotas (domain_sizes (leaves_of s.dimension cs s.leaf active)) (level_size_lem (length active) c (reductions_left k built))

  -- the own rows of leaf i, the rows that it borrows, and those that it sends up
  abbrev own : ℕ → List ℕ
  own i = (get_or leaves i no_domain).rows

  abbrev borrowed : ℕ → List ℕ
  borrowed i = borrowed_by s.dimension cs s.neighbours active (own i)

  abbrev sent : ℕ → List ℕ
  sent i = sent_by s.dimension cs (own i) (get_or shares i 0)

  pub record OneLevel : Type 0 where
    -- each active row is internal to exactly one leaf, once, and no other row to any
    pub once : Once active
    pub internal_once : (r : ℕ) → times r (rows_of leaves) ≡ times r active
    -- no leaf borrows its own row, or one row twice
    pub borrows_not_own : (i r : ℕ) → 0 < times r (own i) → times r (borrowed i) ≡ 0
    pub borrows_once : (i : ℕ) → Once (borrowed i)
    -- the next level lists exactly the rows sent up, each once, S of them and fewer than before
    pub next_lists_sent : (r : ℕ) → times r (next_of s cs c k built active) ≡ times r (joined (sent_from s cs c k built active))
    pub next-once : (r : ℕ) → times r (next_of s cs c k built active) ≤ times r active
    pub next_size : length (next_of s cs c k built active) ≡ size
    pub size-fewer : size < length active
    -- each leaf sends as many rows as its quota, of its own rows and none twice; and no other leaf sends any of them
    pub sends-quota : (i : ℕ) → length (sent i) ≡ get_or shares i 0
    pub sends_own : (i r : ℕ) → i < length leaves → times r (sent i) ≤ times r (own i)
    pub sends-alone : (i r : ℕ) → i < length leaves → 0 < times r (own i) → times r (next_of s cs c k built active) ≡ times r (sent i)
    -- the quotas are fair: S in all, within the leaves' sizes, and each the whole part of its leaf's share or the next number
    pub sizes-sum : total (domain_sizes leaves) ≡ length active
    pub fair-shares : Fair (domain_sizes leaves) size shares

  -- THE LAW: so it is on every level whose active rows outnumber c
  module _ (pos : 0 < s.dimension) (lp : 1 ≤ s.leaf) (cp : 1 ≤ c) (good : Good s.dimension cs active) (many : c < length active) where
    some : 1 ≤ length active
    some = omega arith

    fewer : level_size_lem (length active) c (reductions_left k built) < length active
    fewer = (sized (length active) c (reductions_left k built) cp many (omega arith)).fewer

    sum : total (domain_sizes leaves) ≡ length active
    sum = leaves-sum s.dimension cs pos s.leaf lp active good some

    fair-to-all : Fair (domain_sizes leaves) size shares
    fair-to-all =
        let e : min size (total (domain_sizes leaves)) ≡ size = omega (arith, fewer, sum) in
        subst (λ (m : ℕ). Fair (domain_sizes leaves) m shares) e (fair (domain_sizes leaves) size)

    dealt : Dealt (domain_sizes leaves) size shares
    dealt = record { as_many = fair-to-all.entries; adds-up = fair-to-all.sum; within = λ i l. fair-to-all.within i }

    internal : (r : ℕ) → times r (rows_of leaves) ≡ times r active
    internal = leaves-times s.dimension cs pos s.leaf lp active good some

    sends : (i r : ℕ) → i < length leaves → times r (sent i) ≤ times r (own i)
    sends i r l =
        let w : get_or (domain_sizes leaves) i 0 ≡ length (own i) = get_d-map-in (λ q. length q.rows) leaves i no_domain 0 l in
        sent-own s.dimension cs (own i) (λ j. omega (arith, rows_at leaves i j l, internal j, good.once j)) (get_or shares i 0) (omega (arith, w, fair-to-all.within i)) r

    pub one-level : OneLevel
    one-level = record {
      once = good.once;
      internal_once = internal;
      borrows_not_own = λ i. Borrowed.borrows_not_own s.dimension cs s.neighbours active (own i);
      borrows_once = λ i. Borrowed.borrows_once s.dimension cs s.neighbours active (own i) good.once;
      next_lists_sent = next-sent s.dimension cs pos s.leaf lp active good some size dealt;
      next-once = next-times active (sent_from s cs c k built active);
      next_size = next-length s.dimension cs pos s.leaf lp active good some size dealt;
      size-fewer = fewer;
      sends-quota = λ i. sent-length s.dimension cs (own i) (get_or shares i 0);
      sends_own = sends;
      sends-alone = next-at s.dimension cs pos s.leaf lp active good some size dealt;
      sizes-sum = sum;
      fair-shares = fair-to-all;
    }
