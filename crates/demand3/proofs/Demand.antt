-- DEMAND 3: what an accepted build hands back has it, and its leaves' depths are as the sizes say. Assumes nothing.
-- Holds: all-levels, all-depths, demand-3-over, tree-depths-over, demand-3, tree-depths, demand-3-of, tree-depths-of,
--   demand-3-seen
use mathlib.Core.Path.{◌≡◌, sym, ap, ap₂, ◌∙◌, subst}
use mathlib.Core.Logic.{⊎_elim}
use mathlib.Core.List.{List, []}
use Prim.Native.Nat.{ℕ, suc, ◌+◌, ◌-◌, ◌*◌, ◌^◌, ◌≤◌, ◌<◌}
use native.Mathlib.Omega.{arith}
use native.Mathlib.Nat.{zero-add, pow-zero, mul-one}
use lib.ListN.{length, get_or, drop}
use lib.Ieee.{Float}
use Rattle.lists.specs.Lists.{from}
use Rattle.lists.specs.Ascends.{All}
use Rattle.lists.proofs.Tests.{le-or-lt}
use Rattle.lists.proofs.From.{length_from}
use Rattle.definition.specs.Cut.{Domain, leaves_of}
use Rattle.definition.specs.Sampling.{leaf_cover}
use Rattle.definition.specs.Tree.{Settings, Leaf, Level, coarse_leaf, coarse_level_lem, fine_leaf, most_fine, levels_over, point_count, levels}
use Rattle.definition.specs.Points.{box_width_lem}
use Rattle.definition.specs.Packed.{Counts, counts_of, leaves_in_lem, packed_level_points, packed_internals, packed_domains, packed_boxes, packed_borrowed}
use Rattle.definition.specs.Refusals.{Verdict, accepted, most_points}
use Rattle.definition.specs.Outcome.{RecordLists, Answer, TreeLists, lent_sizes, answered, zero_counts, written, list_after, value_of, tree_lists_after, build_call, build_answer, build_lists}
use Rattle.definition.proofs.Cuts.{Good}
use Rattle.definition_laws.proofs.Accepted.{Accepted, build-accepted}
use Rattle.definition_laws.proofs.Fit.{packed_fit}
use Rattle.definition.proofs.Steps.{fine_of, size_from, sent_with, next_of}
use Rattle.definition.proofs.FineLeaves.{fine-many, fine-at-leaf}
use Rattle.definition.proofs.Next.{no_domain}
use Rattle.definition.proofs.Sizes.{reductions-few, reductions-reach}
use Rattle.demand3.specs.Handed.{Handed, handed, level_count, rows_on_lem, leaves_on, HasNext, listed}
use Rattle.demand3.specs.Demand3.{coarse_at, reduction_count, CoarseLevel, Demand3Over, Demand3, handed_back}
use Rattle.packed.proofs.Counts.{no_level}
use Rattle.packed.proofs.Unpacked.{no_leaf}
use Rattle.demand3.proofs.Unpack.{PackedIn, handed-levels, handed-rows, handed-leaves, handed-listed, handed-own, handed-borrowed, handed-box, handed-cover, handed-depth, handed-counted, handed-beyond}
use Rattle.demand3.proofs.Levels.{Levelled, levelled, IsFine, first-active, some-levels, fine-at, coarse-at}
use Rattle.demand3.specs.Depths.{TreeDepths}
use Rattle.demand3.proofs.Answered.{answered-zero}
use Rattle.demand3.proofs.Depths.{depths-handed, levels-hold}
use Rattle.demand3.proofs.Fine.{IsLevel, fine-level}

-- where n rows outnumber c, a reduction is made
some-reduction : (n c f k : ℕ) → n ≤ c * f ^ k → c < n → 0 < k
some-reduction n c f k reach h =
    ⊎_elim (λ (z : k ≤ 0). let e : k ≡ 0 = omega arith in absurd (omega (arith, simp (e, pow-zero, mul-one) at reach))) (λ p. p) (le-or-lt k 0)

-- ---- lists and counts that hold the tree over a first active list
module _ (s : Settings) (cs : List Float) (first : List ℕ) (pos : 0 < s.dimension) (lp : 1 ≤ s.leaf) (cp : 1 ≤ coarse_at s (length first))
    (reach : length first ≤ coarse_at s (length first) * s.factor ^ 3) (good : Good s.dimension cs first)
    (h : Handed) (packs : PackedIn s.dimension (levels_over s cs first) h) where
  abbrev n : ℕ
  n = length first

  abbrev c : ℕ
  c = coarse_at s (length first)

  abbrev k : ℕ
  k = reduction_count s (length first)

  abbrev ls : List Level
  ls = levels_over s cs first

  the-levels : Levelled s cs c k 0 first ls
  unfolding levels_over
  the-levels =
      let few = reductions-few n c s.factor reach in
      levelled s cs c k pos lp cp most_fine 0 first good (some-reduction n c s.factor k (reductions-reach n c s.factor few)) (omega arith)

  -- ---- how the lists read
  abbrev level_at_lem : ℕ → Level
  level_at_lem l = get_or ls l no_level

  listed_at : (l : ℕ) → listed h l ≡ (level_at_lem l).points
  listed_at l = handed-listed s.dimension ls h packs l

  rows_at : (l : ℕ) → rows_on_lem h l ≡ length (level_at_lem l).points
  rows_at l = handed-rows s.dimension ls h packs l

  leaves_at : (l : ℕ) → leaves_on h l ≡ length (level_at_lem l).leaves
  leaves_at l = handed-leaves s.dimension ls h packs l

  -- ---- a level that has a next one
  module _ (l : ℕ) (m : HasNext h l) where
    fine : IsFine s cs c k (0 + l) (level_at_lem l) (level_at_lem (suc l))
    fine = fine-at s cs c k the-levels l (omega (arith, m, handed-levels s.dimension ls h packs))

    abbrev qs : List Domain
    qs = leaves_of s.dimension cs s.leaf (listed h l)

    -- how many rows it sends up, and which, leaf by leaf
    abbrev sends_up : ℕ
    sends_up = size_from c k (0 + l) (listed h l)

    abbrev sent : List (List ℕ)
    sent = sent_with s cs (size_from c k (0 + l) (listed h l)) (listed h l)

    -- the leaf that the level makes of a domain
    abbrev to_leaf : Domain → List ℕ → Leaf
    to_leaf = fine_leaf s.dimension cs s.neighbours (listed h l)

    leaves_are : (level_at_lem l).leaves ≡ (fine_of s cs sends_up (listed h l)).leaves
    leaves_are = ap (λ (x : Level). x.leaves) fine.fine ∙ ap (λ (x : List ℕ). (fine_of s cs (size_from c k (0 + l) x) x).leaves) (sym (listed_at l))

    count_is : leaves_on h l ≡ length qs
    count_is = leaves_at l ∙ ap length leaves_are ∙ fine-many s cs sends_up (listed h l)

    leaf-is : (i : ℕ) → i < leaves_on h l → get_or (level_at_lem l).leaves i no_leaf ≡ to_leaf (get_or qs i no_domain) (get_or sent i [])
    leaf-is i z =
        ap (λ (x : List Leaf). get_or x i no_leaf) leaves_are ∙ fine-at-leaf s cs sends_up (listed h l) i no_leaf (omega (arith, z, count_is))

    held : IsLevel s cs n pos lp cp h l
    held = record {
      good = subst (λ (x : List ℕ). Good s.dimension cs x) (sym (listed_at l)) fine.good;
      outnumbers = subst (λ (x : List ℕ). c < length x) (sym (listed_at l)) fine.outnumbers;
      leaf-count = count_is;
      own = λ i z. handed-own s.dimension ls h packs l i (omega (arith, leaves_at l)) ∙ ap (λ (f : Leaf). f.own) (leaf-is i z);
      borrowed = λ i z. handed-borrowed s.dimension ls h packs l i (omega (arith, leaves_at l)) ∙ ap (λ (f : Leaf). f.borrowed) (leaf-is i z);
      box = λ i z. handed-box s.dimension ls h packs l i (omega (arith, leaves_at l)) ∙ ap (λ (f : Leaf). f.box) (leaf-is i z);
      depth = λ i z. handed-depth s.dimension ls h packs l i (omega (arith, leaves_at l)) ∙ ap (λ (f : Leaf). f.depth) (leaf-is i z);
      cover = λ i z. handed-cover s.dimension ls h packs l i (omega (arith, leaves_at l)) ∙ ap (λ (f : Leaf). f.cover) (leaf-is i z)
          ∙ ap (λ (j : ℕ). leaf_cover s.dimension cs (get_or qs i no_domain).rows (get_or (sent_with s cs (size_from c k j (listed h l)) (listed h l)) i [])) (zero-add l);
      next = listed_at (suc l) ∙ fine.sent ∙ ap₂ (λ (j : ℕ) (x : List ℕ). next_of s cs c k j x) (zero-add l) (sym (listed_at l));
    }

  -- ---- the last level
  count-some : 1 ≤ level_count h
  count-some = omega (arith, handed-levels s.dimension ls h packs, some-levels s cs c k the-levels)

  is-coarse : CoarseLevel s cs n h (level_count h - 1)
  unfolding coarse_level_lem
  is-coarse =
      let l = level_count h - 1 in
      let last = coarse-at s cs c k the-levels l (omega (arith, count-some, handed-levels s.dimension ls h packs)) in
      let one : leaves_on h l ≡ 1 = leaves_at l ∙ ap (λ (x : Level). length x.leaves) last.0 in
      let z : 0 < length (level_at_lem l).leaves = omega (arith, leaves_at l) in
      let leaf : get_or (level_at_lem l).leaves 0 no_leaf ≡ coarse_leaf s.dimension (level_at_lem l).points =
      ap (λ (x : Level). get_or x.leaves 0 no_leaf) last.0 in
      record {
        few = omega (arith, ap length (listed_at l), last.1);
        single = record {
          one_domain = one;
          holds_all = handed-own s.dimension ls h packs l 0 z ∙ ap (λ (f : Leaf). f.own) leaf ∙ sym (listed_at l);
          borrows_none = handed-borrowed s.dimension ls h packs l 0 z ∙ ap (λ (f : Leaf). f.borrowed) leaf;
          no_box = handed-box s.dimension ls h packs l 0 z ∙ ap (λ (f : Leaf). f.box) leaf;
        };
        no_cover = handed-cover s.dimension ls h packs l 0 z ∙ ap (λ (f : Leaf). f.cover) leaf;
      }

  outnumbering : (l : ℕ) → c < rows_on_lem h l → HasNext h l
  outnumbering l m =
      ⊎_elim
      (λ (past : level_count h ≤ suc l).
      ⊎_elim
      (λ (gone : level_count h ≤ l). absurd (omega (arith, (handed-beyond s.dimension ls h packs l gone).0)))
      (λ (at : l < level_count h).
      absurd (omega (arith, rows_at l, (coarse-at s cs c k the-levels l (omega (arith, handed-levels s.dimension ls h packs))).1)))
      (le-or-lt (level_count h) l))
      (λ p. p)
      (le-or-lt (level_count h) (suc l))

  pub all-levels : Demand3Over s cs first h
  all-levels = record {
    first_lists_all = listed_at 0 ∙ first-active s cs c k the-levels;
    each_fine = λ l m. fine-level s cs n pos lp cp h l (held l m);
    next_outnumbers = λ l m. omega (arith, rows_at l, (fine l m).outnumbers);
    outnumbers_next = outnumbering;
    some_level = count-some;
    few_levels = omega (arith, handed-levels s.dimension ls h packs, packs.few);
    last_coarse = is-coarse;
    counted = handed-counted s.dimension ls h packs;
    none_beyond = handed-beyond s.dimension ls h packs;
  }

  -- ---- the depths
  pub all-depths : length first ≤ most_points → TreeDepths h
  unfolding coarse_level_lem levels_over
  all-depths few =
      let l = length ls - 1 in
      let last = coarse-at s cs c k the-levels l (omega (arith, some-levels s cs c k the-levels)) in
      depths-handed s.dimension ls h packs (levels-hold s cs pos lp c k most_fine 0 first good few)
      (rw (ap (λ (x : Level). length x.leaves) last.0) (omega arith)) (ap (λ (x : Level). (get_or x.leaves 0 no_leaf).depth) last.0)

-- ---- an accepted call

-- what it hands back holds its tree
handed-packs : (d : ℕ) (tree : List Level) (old : TreeLists) (v : Verdict) → v ≡ accepted
    → length tree ≤ suc most_fine → All (λ (f : Leaf). length f.box ≡ box_width_lem d) (leaves_in_lem tree)
    → PackedIn d tree (handed (answered v (counts_of tree) zero_counts) (tree_lists_after v tree old))
unfolding tree_lists_after list_after value_of written
handed-packs d tree old v e few boxed = record {
  few = few;
  boxed = boxed;
  counts = rw e;
  points-rest = drop (length (packed_level_points tree)) old.level_points;
  points-are = rw e;
  internals-rest = drop (length (packed_internals tree)) old.internals;
  internals = rw e;
  domains-rest = drop (length (packed_domains tree)) old.domains;
  domains = rw e;
  boxes-rest = drop (length (packed_boxes tree)) old.boxes;
  boxes = rw e;
  borrowed-rest = drop (length (packed_borrowed tree)) old.borrowed;
  borrowed = rw e;
}

-- THE THEOREM: what an accepted call of a build over a first active list hands back has demand 3, and the depths
module _ (s : Settings) (cs : List Float) (first : List ℕ) (pos : 0 < s.dimension) (lp : 1 ≤ s.leaf) (cp : 1 ≤ coarse_at s (length first))
    (reach : length first ≤ coarse_at s (length first) * s.factor ^ 3) (good : Good s.dimension cs first)
    (old : TreeLists) (v : Verdict) (e : v ≡ accepted) where
  packs : PackedIn s.dimension (levels_over s cs first) (handed (answered v (counts_of (levels_over s cs first)) zero_counts) (tree_lists_after v (levels_over s cs first) old))
  packs = handed-packs s.dimension (levels_over s cs first) old v e (packed_fit s cs first pos lp good).few (packed_fit s cs first pos lp good).bounds

  pub demand-3-over : Demand3Over s cs first (handed (answered v (counts_of (levels_over s cs first)) zero_counts) (tree_lists_after v (levels_over s cs first) old))
  demand-3-over = all-levels s cs first pos lp cp reach good _ packs

  pub tree-depths-over : length first ≤ most_points → TreeDepths (handed (answered v (counts_of (levels_over s cs first)) zero_counts) (tree_lists_after v (levels_over s cs first) old))
  tree-depths-over few = all-depths s cs first pos lp cp reach good _ packs few

-- over all points
module _ (s : Settings) (cs : List Float) (old : TreeLists) (floats : List Float) (wholes : List ℕ) (records : RecordLists) (e : build_call s cs old floats wholes records ≡ accepted) where
  abbrev m : ℕ
  m = point_count s.dimension cs

  called : Accepted s cs (lent_sizes old floats wholes records)
  called = build-accepted s cs (lent_sizes old floats wholes records) e

  all-counted : point_count s.dimension cs ≡ length (from 0 (point_count s.dimension cs))
  all-counted = sym (length_from 0 m)

  coarse-some : 1 ≤ coarse_at s (length (from 0 (point_count s.dimension cs)))
  coarse-some = subst (λ (i : ℕ). 1 ≤ coarse_at s i) all-counted called.passes-all.coarse-some

  reaches : length (from 0 (point_count s.dimension cs)) ≤ coarse_at s (length (from 0 (point_count s.dimension cs))) * s.factor ^ 3
  reaches = subst (λ (i : ℕ). i ≤ coarse_at s i * s.factor ^ 3) all-counted called.passes-all.reaches

  pub demand-3 : Demand3 s cs (handed_back s cs old floats wholes records)
  unfolding levels build_answer build_lists
  demand-3 = demand-3-over s cs (from 0 m) called.passes-all.axes called.passes-all.leaf_some coarse-some reaches called.good old (build_call s cs old floats wholes records) e

  pub tree-depths : TreeDepths (handed_back s cs old floats wholes records)
  unfolding levels build_answer build_lists
  tree-depths =
      tree-depths-over s cs (from 0 m) called.passes-all.axes called.passes-all.leaf_some coarse-some reaches called.good old (build_call s cs old floats wholes records) e
      (omega (arith, all-counted, called.passes-all.rows_few))

-- The same of an answer and five lists of which a contract says that they are the definition's.
module _ (s : Settings) (cs : List Float) (old : TreeLists) (floats : List Float) (wholes : List ℕ) (records : RecordLists) (answer : Answer Counts)
    (level_points internals domains : List ℕ) (boxes : List Float) (borrowed : List ℕ)
    (answer-is : answer ≡ build_answer s cs old floats wholes records)
    (points-are : level_points ≡ (build_lists s cs old floats wholes records).level_points)
    (internals_are : internals ≡ (build_lists s cs old floats wholes records).internals)
    (domains-are : domains ≡ (build_lists s cs old floats wholes records).domains)
    (boxes_are : boxes ≡ (build_lists s cs old floats wholes records).boxes)
    (borrowed_are : borrowed ≡ (build_lists s cs old floats wholes records).borrowed) where
  abbrev lists : TreeLists
  lists = record { level_points = level_points; internals = internals; domains = domains; boxes = boxes; borrowed = borrowed }

  -- an accepted call
  pub demand-3-of : build_call s cs old floats wholes records ≡ accepted → Demand3 s cs (handed answer lists)
  demand-3-of e = rw (answer-is, points-are, internals_are, domains-are, boxes_are, borrowed_are) (demand-3 s cs old floats wholes records e)

  pub tree-depths-of : build_call s cs old floats wholes records ≡ accepted → TreeDepths (handed answer lists)
  tree-depths-of e = rw (answer-is, points-are, internals_are, domains-are, boxes_are, borrowed_are) (tree-depths s cs old floats wholes records e)

  -- a call that answers with the number 0: it was accepted
  pub demand-3-seen : answer.number ≡ 0 → Demand3 s cs (handed answer lists)
  demand-3-seen e = demand-3-of (answered-zero s cs old floats wholes records (ap (λ (a : Answer Counts). a.number) (sym answer-is) ∙ e))
