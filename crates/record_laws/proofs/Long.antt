-- How long the records are: a level's record has one node less than 2 times its domains, so at most 4 times its rows less one, and the
-- records of a tree fit in what they are to be lent. Assumes nothing.
-- Holds: two-count, record-nodes, level-count, record-long, record-less, level-nodes, fine-cons, fine-few, fine-all, FineIs,
--   fine-are, fine-long, nodes-length, cuts-length, planes-length, nodes-fit, levels-are, levels-long, records-fit, record-fits
use mathlib.Core.Path.{◌≡◌, refl, ap, ◌∙◌}
use mathlib.Core.Logic.{⊎_elim}
use mathlib.Core.List.{List, [], ◌∷◌, map, map-map}
use Prim.Native.Nat.{ℕ, zero, suc, ◌+◌, ◌-◌, ◌*◌, ◌≤◌, ◌<◌}
use native.Mathlib.Omega.{arith}
use native.Mathlib.Nat.{mul-le-mul_right}
use lib.ListN.{length, length-append, length-map}
use lib.Ieee.{Float}
use Rattle.lists.specs.Lists.{member, joined, total, from}
use Rattle.lists.specs.Ascends.{All}
use Rattle.lists.proofs.Tests.{le-or-lt}
use Rattle.lists.proofs.All.{all-imp, all-mem}
use Rattle.lists.proofs.Joined.{length-joined}
use Rattle.lists.proofs.Sums.{sum-most}
use Rattle.lists.proofs.From.{length_from}
use Rattle.definition.specs.Levels.{threshold, reductions}
use Rattle.definition.specs.Cut.{leaves_of}
use Rattle.definition.specs.Tree.{Settings, Level, coarse_level_lem, fine_level_lem, next_active, most_fine, levels_from, levels_over, point_count, levels}
use Rattle.definition.specs.Packed.{BuildSizes}
use Rattle.definition.specs.Refusals.{accepted, build_verdict}
use Rattle.definition.specs.Record.{level_cuts, record_of, whole_of, float_of, fine_levels, nodes_in, packed_cuts, packed_planes, most_nodes}
use Rattle.definition.proofs.Steps.{fine_of, size_from, next_of, sent_from, levels-last, levels-end, levels-more}
use Rattle.definition.proofs.FineLeaves.{fine-many}
use Rattle.definition.proofs.Levels.{next-short}
use Rattle.definition_laws.proofs.Shape.{leaves-most}
use Rattle.definition_laws.proofs.Accepted.{Accepted, build-accepted}
use Rattle.definition_laws.proofs.Fit.{packed_fit}
use Rattle.rows.specs.Rows.{GoodRows}
use Rattle.rows.proofs.Good.{good-good, good-keep}
use Rattle.rows.proofs.AllRows.{all-rows-good}
use Rattle.record_laws.specs.ByDepth.{at_depth, domain_depth}
use Rattle.record_laws.specs.Table.{node_count, leaf_count}
use Rattle.record_laws.proofs.ByDepth.{at-nil, at_one, at_other}
use Rattle.record_laws.proofs.Depths.{TwoDepths, least_depth, level_leaves, two-depths, by_two}
use Rattle.record_laws.proofs.Entries.{leaf-count-at, node-count-at, node-count}

-- ---- a level

-- the leaves at two depths are all leaves
pub two-count : {D : Type 0} (depth_of : D → ℕ) (e : ℕ) (fs : List D) → TwoDepths depth_of e fs → length (at_depth depth_of e fs) + length (at_depth depth_of (suc e) fs) ≡ length fs
unfolding All
two-count depth_of e [] h = rw (at-nil depth_of e, at-nil depth_of (suc e))
two-count depth_of e (f ∷ fs) h =
    let i = two-count depth_of e fs h.1 in
    ⊎_elim
    (λ (q : depth_of f ≡ e). rw (at_one depth_of e f fs q, at_other depth_of (suc e) f fs (λ z. omega arith)) (omega arith))
    (λ (q : depth_of f ≡ suc e). rw (at_one depth_of (suc e) f fs q, at_other depth_of e f fs (λ z. omega arith)) (omega arith))
    h.0

-- the record has the nodes of the cuts
pub record-nodes : (d : ℕ) (cs : List Float) (leaf : ℕ) (active : List ℕ) → length (record_of d cs leaf active) ≡ node_count (level_cuts d cs leaf active)
unfolding record_of
record-nodes d cs leaf active = node-count-at _ 0 (level_cuts d cs leaf active)

module _ (d : ℕ) (cs : List Float) (pos : 0 < d) (leaf : ℕ) (lp : 1 ≤ leaf) (active : List ℕ) (g : GoodRows d cs active) (some : 1 ≤ length active) where
  -- the level has as many domains as its cuts have leaves
  pub level-count : length (leaves_of d cs leaf active) ≡ leaf_count (level_cuts d cs leaf active)
  level-count =
      let fs = level_leaves d cs leaf active in
      let e = least_depth domain_depth fs in
      ap length (by_two d cs pos leaf lp active g some) ∙ length-append (at_depth domain_depth e fs) (at_depth domain_depth (suc e) fs)
      ∙ two-count domain_depth e fs (two-depths d cs pos leaf lp active g some) ∙ leaf-count-at (level_cuts d cs leaf active)

  -- one node less than 2 times the domains
  pub record-long : suc (length (record_of d cs leaf active)) ≡ 2 * length (leaves_of d cs leaf active)
  record-long = omega (arith, record-nodes d cs leaf active, node-count (level_cuts d cs leaf active), level-count)

  pub record-less : length (record_of d cs leaf active) ≡ 2 * length (leaves_of d cs leaf active) - 1
  record-less = omega (arith, record-long)

  pub level-nodes : length (record_of d cs leaf active) + 1 ≤ 4 * length active
  level-nodes = omega (arith, record-long, leaves-most d cs pos leaf lp active (good-good active g) some)

-- ---- the fine levels of a tree
pub fine-cons : (l : Level) (ls : List Level) → 1 ≤ length ls → fine_levels (l ∷ ls) ≡ l ∷ fine_levels ls
unfolding fine_levels
fine-cons l [] h = absurd (omega arith)
fine-cons l (m ∷ ls) h = refl

fine-one : (l : Level) → fine_levels (l ∷ []) ≡ []
unfolding fine_levels
fine-one l = refl

-- one less than the levels
pub fine-few : (ls : List Level) → length (fine_levels ls) ≡ length ls - 1
unfolding fine_levels
fine-few [] = omega arith
fine-few (l ∷ []) = omega arith
fine-few (l ∷ m ∷ ls) = omega (arith, fine-few (m ∷ ls))

module _ (s : Settings) (cs : List Float) (c k : ℕ) where
  levels-some : (fuel built : ℕ) (active : List ℕ) → 1 ≤ length (levels_from s cs c k fuel built active)
  levels-some zero built active = rw (levels-last s cs c k built active) (omega arith)
  levels-some (suc fuel) built active =
      ⊎_elim
      (λ (few : length active ≤ c). rw (levels-end s cs c k fuel built active few) (omega arith))
      (λ (many : c < length active). rw (levels-more s cs c k fuel built active many) (omega arith))
      (le-or-lt (length active) c)

  -- Q: what the active rows have, and keep as some of them are left out; then each fine level has what follows from it
  pub fine-all : (Q : List ℕ → Type 0) → ((active : List ℕ) (sent : List (List ℕ)) → Q active → Q (next_active active sent))
      → (P : Level → Type 0) → ((size : ℕ) (active : List ℕ) → Q active → c < length active → P (fine_of s cs size active))
      → (fuel built : ℕ) (active : List ℕ) → Q active → All P (fine_levels (levels_from s cs c k fuel built active))
  unfolding All
  fine-all Q stays P fine zero built active q = rw (levels-last s cs c k built active, fine-one (coarse_level_lem s.dimension active)) tt
  fine-all Q stays P fine (suc fuel) built active q =
      ⊎_elim
      (λ (few : length active ≤ c). rw (levels-end s cs c k fuel built active few, fine-one (coarse_level_lem s.dimension active)) tt)
      (λ (many : c < length active).
      let next = next_of s cs c k built active in
      let size = size_from c k built active in
      rw (levels-more s cs c k fuel built active many, fine-cons (fine_of s cs size active) (levels_from s cs c k fuel (suc built) next) (levels-some fuel (suc built) next))
      (fine size active q many, fine-all Q stays P fine fuel (suc built) next (stays active (sent_from s cs c k built active) q)))
      (le-or-lt (length active) c)

-- what is known of a fine level of a tree over n rows: it is the one over its rows, which are good ones, that sends so many up
pub record FineIs (s : Settings) (cs : List Float) (n : ℕ) (l : Level) : Type 0 where
  pub size : ℕ
  pub same : l ≡ fine_of s cs size l.points
  pub good : GoodRows s.dimension cs l.points
  pub some-rows : 1 ≤ length l.points
  pub few : length l.points ≤ n

module _ (s : Settings) (cs : List Float) (n : ℕ) where
  fine-is : (size : ℕ) (active : List ℕ) → GoodRows s.dimension cs active → 1 ≤ length active → length active ≤ n → FineIs s cs n (fine_of s cs size active)
  unfolding fine_level_lem
  fine-is size active g some few = record { size = size; same = refl; good = g; some-rows = some; few = few }

  pub fine-are : (c k fuel built : ℕ) (active : List ℕ) → GoodRows s.dimension cs active → length active ≤ n
      → All (FineIs s cs n) (fine_levels (levels_from s cs c k fuel built active))
  unfolding next_active
  fine-are c k fuel built active g few =
      fine-all s cs c k (λ rows. GoodRows s.dimension cs rows × (length rows ≤ n))
      (λ rows sent q. (good-keep rows q.0 (λ i. member i (joined sent)), omega (arith, next-short rows sent, q.1)))
      (FineIs s cs n) (λ size rows q many. fine-is size rows q.0 (omega arith) q.1) fuel built active (g, few)

  module _ (pos : 0 < s.dimension) (lp : 1 ≤ s.leaf) where
    -- its record has one node less than 2 times its domains
    pub fine-long : (l : Level) → FineIs s cs n l → suc (length (record_of s.dimension cs s.leaf l.points)) ≡ 2 * length l.leaves
    fine-long l f =
        let qs = leaves_of s.dimension cs s.leaf l.points in
        let m : length l.leaves ≡ length qs =
        ap (λ (x : Level). length x.leaves) f.same ∙ fine-many s cs f.size l.points in
        omega (arith, m, record-long s.dimension cs pos s.leaf lp l.points f.good f.some-rows)

    fine-most : (l : Level) → FineIs s cs n l → length (record_of s.dimension cs s.leaf l.points) ≤ 4 * n
    fine-most l f = omega (arith, level-nodes s.dimension cs pos s.leaf lp l.points f.good f.some-rows, f.few)

-- ---- the records of a tree
module _ (s : Settings) (cs : List Float) (ls : List Level) where
  pub nodes-length : length (nodes_in s cs ls) ≡ total (map (λ (l : Level). length (record_of s.dimension cs s.leaf l.points)) (fine_levels ls))
  unfolding nodes_in
  nodes-length =
      length-joined (map (λ (l : Level). record_of s.dimension cs s.leaf l.points) (fine_levels ls))
      ∙ ap total (map-map length (λ (l : Level). record_of s.dimension cs s.leaf l.points) (fine_levels ls))

  pub cuts-length : length (packed_cuts s cs ls) ≡ length (nodes_in s cs ls)
  unfolding packed_cuts
  cuts-length = length-map (nodes_in s cs ls) whole_of

  pub planes-length : length (packed_planes s cs ls) ≡ length (nodes_in s cs ls)
  unfolding packed_planes
  planes-length = length-map (nodes_in s cs ls) float_of

  -- at most three fine levels, each over at most n rows
  pub nodes-fit : 0 < s.dimension → 1 ≤ s.leaf → (n : ℕ) → All (FineIs s cs n) (fine_levels ls) → length ls ≤ suc most_fine → length (nodes_in s cs ls) ≤ most_nodes n
  nodes-fit pos lp n h few =
      let fine = fine_levels ls in
      let three : length fine ≤ 3 = omega (arith, fine-few ls) in
      omega (
        arith,
        nodes-length,
        sum-most (λ (l : Level). length (record_of s.dimension cs s.leaf l.points)) (4 * n) fine (λ l m. fine-most s cs n pos lp l (all-mem (FineIs s cs n) fine h l m)),
        mul-le-mul_right (4 * n) three,
      )

-- ---- an accepted build
module _ (s : Settings) (cs : List Float) (lent : BuildSizes) (a : Accepted s cs lent) where
  accepted-good : GoodRows s.dimension cs (from 0 (point_count s.dimension cs))
  accepted-good =
      all-rows-good s.dimension cs (point_count s.dimension cs) a.passes-all.rows_few (omega (arith, a.whole)) a.finite-all

  -- each fine level is the one over its good rows, at most n
  pub levels-are : All (FineIs s cs (point_count s.dimension cs)) (fine_levels (levels s cs))
  unfolding levels levels_over
  levels-are =
      let n = point_count s.dimension cs in
      let m = length (from 0 n) in
      fine-are s cs n (threshold s.policy m) (reductions m (threshold s.policy m) s.factor) most_fine 0 (from 0 n) accepted-good (omega (arith, length_from 0 n))

  -- and its record has one node less than 2 times its domains
  pub levels-long : All (λ (l : Level). suc (length (record_of s.dimension cs s.leaf l.points)) ≡ 2 * length l.leaves) (fine_levels (levels s cs))
  levels-long =
      all-imp (FineIs s cs (point_count s.dimension cs)) (λ (l : Level). suc (length (record_of s.dimension cs s.leaf l.points)) ≡ 2 * length l.leaves)
      (fine_levels (levels s cs)) (fine-long s cs (point_count s.dimension cs) a.passes-all.axes a.passes-all.leaf_some) levels-are

  -- THE LAW: the records fit in what they are to be lent
  pub records-fit : length (nodes_in s cs (levels s cs)) ≤ most_nodes (point_count s.dimension cs)
  unfolding levels
  records-fit =
      let n = point_count s.dimension cs in
      nodes-fit s cs (levels s cs) a.passes-all.axes a.passes-all.leaf_some n levels-are
      (packed_fit s cs (from 0 n) a.passes-all.axes a.passes-all.leaf_some a.good).few

pub record-fits : (s : Settings) (cs : List Float) (lent : BuildSizes) → build_verdict s cs lent ≡ accepted → length (nodes_in s cs (levels s cs)) ≤ most_nodes (point_count s.dimension cs)
record-fits s cs lent e = records-fit s cs lent (build-accepted s cs lent e)
