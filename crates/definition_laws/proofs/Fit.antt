-- The fit law: each packed list of a tree is no longer than stated. Assumes nothing.
-- Holds: length-leaves, length-points, length-own, length-borrowed, length-stretches, length-domains, floats-length, boxes-even,
--   PackedFit, packed_fit, LentFit, lent-fit, levels-fit, accepted-fit
use mathlib.Core.Path.{◌≡◌, refl, sym, ap, ◌∙◌, subst}
use mathlib.Core.List.{List, [], ◌∷◌, map, map-map}
use Prim.Native.Nat.{ℕ, suc, ◌+◌, ◌*◌, ◌≤◌, ◌<◌}
use native.Mathlib.Omega.{arith}
use native.Mathlib.Nat.{mul-le-mul_left, mul-le-mul_right, mul_comm, mul_assoc, le_trans}
use lib.ListN.{length, length-append, length-replicate}
use lib.Ieee.{Float}
use Rattle.lists.specs.Lists.{total, joined, from}
use Rattle.lists.specs.Ascends.{All}
use Rattle.lists.proofs.All.{all_map, all-mem, all-joined}
use Rattle.lists.proofs.Sums.{sum-const, sum-most}
use Rattle.lists.proofs.Joined.{length-joined, sum-joined}
use Rattle.lists.proofs.From.{length_from}
use Rattle.definition.specs.Number.{plus_zero}
use Rattle.definition.specs.Levels.{threshold, reductions}
use Rattle.definition.specs.Tree.{Settings, Leaf, Level, coarse_level_lem, fine_level_lem, next_active, most_fine, levels_from, levels_over, point_count, levels}
use Rattle.definition.specs.Points.{box_width_lem}
use Rattle.definition.specs.Overlaps.{borrowed_by}
use Rattle.definition.specs.Packed.{leaf_floats, leaves_in_lem, packed_level_points, packed_internals, packed_domains, packed_boxes, packed_borrowed, stretches, row_numbers, row_floats_lem, most_rows, TreeSizes, BuildSizes, tree_stated, build_stated}
use Rattle.definition.specs.Refusals.{accepted, build_verdict}
use Rattle.definition.proofs.Steps.{fine_of}
use Rattle.definition.proofs.FineLeaves.{fine-many, fine-map, fine-each}
use Rattle.definition.proofs.Cuts.{Good, leaves-sum}
use Rattle.definition_laws.proofs.Shape.{leaves-most, leaves-boxes}
use Rattle.definition_laws.proofs.Overlaps.{borrowed-most}
use Rattle.definition_laws.proofs.Accepted.{TreeEnough, LentEnough, Accepted, build-accepted}
use Rattle.definition.proofs.Levels.{next-short, next-good, levels-all, levels-sum}

-- ---- the lengths of the packed lists, level by level
abbrev of_leaves : (Leaf → ℕ) → Level → ℕ
of_leaves f l = total (map f l.leaves)

leaves_in : (f : Leaf → ℕ) (ls : List Level) → total (map f (leaves_in_lem ls)) ≡ total (map (of_leaves f) ls)
unfolding leaves_in_lem
leaves_in f ls = sum-joined f (map (λ l. l.leaves) ls) ∙ ap total (map-map (λ (fs : List Leaf). total (map f fs)) (λ (l : Level). l.leaves) ls)

pub length-leaves : (ls : List Level) → length (leaves_in_lem ls) ≡ total (map (λ (l : Level). length l.leaves) ls)
unfolding leaves_in_lem
length-leaves ls = length-joined (map (λ l. l.leaves) ls) ∙ ap total (map-map length (λ (l : Level). l.leaves) ls)

pub length-points : (ls : List Level) → length (packed_level_points ls) ≡ total (map (λ (l : Level). length l.points) ls)
unfolding packed_level_points
length-points ls = length-joined (map (λ l. l.points) ls) ∙ ap total (map-map length (λ (l : Level). l.points) ls)

pub length-own : (ls : List Level) → length (packed_internals ls) ≡ total (map (λ (l : Level). total (map (λ (f : Leaf). length f.own) l.leaves)) ls)
unfolding packed_internals
length-own ls =
    length-joined (map (λ f. f.own) (leaves_in_lem ls)) ∙ ap total (map-map length (λ (f : Leaf). f.own) (leaves_in_lem ls)) ∙ leaves_in (λ f. length f.own) ls

pub length-borrowed : (ls : List Level) → length (packed_borrowed ls) ≡ total (map (λ (l : Level). total (map (λ (f : Leaf). length f.borrowed) l.leaves)) ls)
unfolding packed_borrowed
length-borrowed ls =
    length-joined (map (λ f. f.borrowed) (leaves_in_lem ls)) ∙ ap total (map-map length (λ (f : Leaf). f.borrowed) (leaves_in_lem ls))
    ∙ leaves_in (λ f. length f.borrowed) ls

-- the numbers of domain rows
pub length-stretches : (a b : ℕ) (fs : List Leaf) → length (stretches a b fs) ≡ row_numbers * length fs
unfolding stretches
length-stretches a b [] = omega arith
length-stretches a b (f ∷ fs) = omega (arith, length-stretches (a + length f.own) (b + length f.borrowed) fs)

pub length-domains : (ls : List Level) → length (packed_domains ls) ≡ row_numbers * length (leaves_in_lem ls)
unfolding packed_domains
length-domains ls = length-stretches 0 0 (leaves_in_lem ls)

-- ---- boxes, all of one width, each with its cover
pub floats-length : (d : ℕ) (f : Leaf) → length f.box ≡ box_width_lem d → length (leaf_floats f) ≡ row_floats_lem d
floats-length d f h = omega (arith, length-append f.box (f.cover ∷ []), h)

pub boxes-even : (d : ℕ) (fs : List Leaf) → All (λ (f : Leaf). length f.box ≡ box_width_lem d) fs → length (joined (map leaf_floats fs)) ≤ row_floats_lem d * length fs
boxes-even d fs h =
    let a = length-joined (map leaf_floats fs) ∙ ap total (map-map length leaf_floats fs) in
    let b = sum-most (λ (f : Leaf). length (leaf_floats f)) (row_floats_lem d) fs
    (λ f m. omega (arith, floats-length d f (all-mem (λ (f : Leaf). length f.box ≡ box_width_lem d) fs h f m))) in
    omega (arith, mul_comm (length fs) (row_floats_lem d))

-- ---- what is known of the packed lists of a tree over n rows
pub record PackedFit (d n neighbours : ℕ) (ls : List Level) : Type 0 where
  -- at most three fine levels and the coarse one
  pub few : length ls ≤ suc most_fine
  pub rows : length (leaves_in_lem ls) ≤ most_rows n
  pub bounds : All (λ (f : Leaf). length f.box ≡ box_width_lem d) (leaves_in_lem ls)
  pub level_points : length (packed_level_points ls) ≤ (tree_stated d n neighbours).level_points
  pub internals : length (packed_internals ls) ≤ (tree_stated d n neighbours).internals
  pub domains : length (packed_domains ls) ≤ (tree_stated d n neighbours).domains
  pub boxes : length (packed_boxes ls) ≤ (tree_stated d n neighbours).boxes
  pub borrowed : length (packed_borrowed ls) ≤ (tree_stated d n neighbours).borrowed

module _ (s : Settings) (cs : List Float) (pos : 0 < s.dimension) (lp : 1 ≤ s.leaf) (n : ℕ) where
  -- active rows of a level: good ones, at most n
  abbrev Rows : List ℕ → Type 0
  Rows active = Good s.dimension cs active × (length active ≤ n)

  stays : (active : List ℕ) (sent : List (List ℕ)) → Rows active → Rows (next_active active sent)
  stays active sent q = (next-good active sent s.dimension cs q.0, omega (arith, next-short active sent, q.1))

  -- ---- a fine level
  module _ (size : ℕ) (active : List ℕ) (q : Rows active) (some : 1 ≤ length active) where
    fine-points : length (fine_of s cs size active).points ≤ n
    unfolding fine_level_lem
    fine-points = q.1

    fine-leaves : length (fine_of s cs size active).leaves ≤ 2 * n
    fine-leaves = omega (arith, fine-many s cs size active, leaves-most s.dimension cs pos s.leaf lp active q.0 some, q.1)

    fine-own : of_leaves (λ f. length f.own) (fine_of s cs size active) ≤ n
    fine-own =
        omega (
          arith,
          ap total (fine-map s cs size active (λ f. length f.own) (λ q. length q.rows) (λ q sent. refl)),
          leaves-sum s.dimension cs pos s.leaf lp active q.0 some,
          q.1,
        )

    fine-borrowed : of_leaves (λ f. length f.borrowed) (fine_of s cs size active) ≤ 2 * n * (s.neighbours + 1)
    fine-borrowed =
        let h : 2 * length active ≤ 2 * n = omega (arith, q.1) in
        omega (
          arith,
          ap total (fine-map s cs size active (λ f. length f.borrowed) (λ q. length (borrowed_by s.dimension cs s.neighbours active q.rows)) (λ q sent. refl)),
          borrowed-most s.dimension cs s.leaf s.neighbours active pos lp q.0 some,
          mul-le-mul_right (s.neighbours + 1) h,
        )

  fine-boxes : (size : ℕ) (active : List ℕ) → All (λ (f : Leaf). length f.box ≡ box_width_lem s.dimension) (fine_of s cs size active).leaves
  fine-boxes size active =
      fine-each s cs size active (λ q. length q.box ≡ box_width_lem s.dimension) (λ f. length f.box ≡ box_width_lem s.dimension) (λ q sent e. e)
      (leaves-boxes s.dimension cs s.leaf active)

  -- ---- the coarse level
  coarse-own : (active : List ℕ) → of_leaves (λ f. length f.own) (coarse_level_lem s.dimension active) ≡ length active
  unfolding coarse_level_lem total
  coarse-own active = omega arith

  coarse-borrowed : (active : List ℕ) → of_leaves (λ f. length f.borrowed) (coarse_level_lem s.dimension active) ≡ 0
  unfolding coarse_level_lem total
  coarse-borrowed active = omega arith

  coarse-boxes : (active : List ℕ) → All (λ (f : Leaf). length f.box ≡ box_width_lem s.dimension) (coarse_level_lem s.dimension active).leaves
  unfolding coarse_level_lem All
  coarse-boxes active = (length-replicate (box_width_lem s.dimension) plus_zero, tt)

  coarse-points : (active : List ℕ) → length (coarse_level_lem s.dimension active).points ≡ length active
  unfolding coarse_level_lem
  coarse-points active = omega arith

  coarse-leaves : (active : List ℕ) → length (coarse_level_lem s.dimension active).leaves ≡ 1
  unfolding coarse_level_lem
  coarse-leaves active = omega arith

  -- ---- all levels
  module _ (c k : ℕ) (fuel : ℕ) (active : List ℕ) (q : Rows active) where
    abbrev ls : List Level
    ls = levels_from s cs c k fuel 0 active

    sum_of : (f : Level → ℕ) (a b : ℕ) → ((size : ℕ) (active : List ℕ) → Rows active → 1 ≤ length active → f (fine_of s cs size active) ≤ a)
        → ((active : List ℕ) → Rows active → f (coarse_level_lem s.dimension active) ≤ b) → total (map f ls) ≤ fuel * a + b
    sum_of f a b fine coarse = levels-sum s cs c k Rows stays f a b (λ size active q h. fine size active q (omega arith)) coarse fuel 0 active q

    few_levels : length ls ≤ suc fuel
    few_levels = omega (arith, sum_of (λ l. 1) 1 1 (λ size active q h. omega arith) (λ active q. omega arith), sum-const 1 ls)

    few-points : length (packed_level_points ls) ≤ fuel * n + n
    few-points =
        omega (arith, length-points ls, sum_of (λ l. length l.points) n n fine-points (λ active q. omega (arith, coarse-points active, q.1)))

    few-own : length (packed_internals ls) ≤ fuel * n + n
    few-own =
        omega (arith, length-own ls, sum_of (of_leaves (λ f. length f.own)) n n fine-own (λ active q. omega (arith, coarse-own active, q.1)))

    few-leaves : length (leaves_in_lem ls) ≤ fuel * (2 * n) + 1
    few-leaves =
        omega (arith, length-leaves ls, sum_of (λ l. length l.leaves) (2 * n) 1 fine-leaves (λ active q. omega (arith, coarse-leaves active)))

    few-borrowed : length (packed_borrowed ls) ≤ fuel * (2 * n * (s.neighbours + 1))
    few-borrowed =
        omega (
          arith,
          length-borrowed ls,
          sum_of (of_leaves (λ f. length f.borrowed)) (2 * n * (s.neighbours + 1)) 0 fine-borrowed (λ active q. omega (arith, coarse-borrowed active)),
        )

    all-boxes : All (λ (f : Leaf). length f.box ≡ box_width_lem s.dimension) (leaves_in_lem ls)
    unfolding leaves_in_lem
    all-boxes =
        all-joined (λ (f : Leaf). length f.box ≡ box_width_lem s.dimension) (map (λ l. l.leaves) ls)
        (all_map (λ (fs : List Leaf). All (λ (f : Leaf). length f.box ≡ box_width_lem s.dimension) fs) (λ (l : Level). l.leaves) ls
        (levels-all s cs c k Rows stays (λ l. All (λ (f : Leaf). length f.box ≡ box_width_lem s.dimension) l.leaves)
        (λ size active q h. fine-boxes size active) (λ active q. coarse-boxes active) fuel 0 active q))

-- THE FIT LAW
pub packed_fit : (s : Settings) (cs : List Float) (active : List ℕ) → 0 < s.dimension → 1 ≤ s.leaf → Good s.dimension cs active
    → PackedFit s.dimension (length active) s.neighbours (levels_over s cs active)
unfolding levels_over tree_stated packed_boxes
packed_fit s cs active pos lp g =
    let n = length active in
    let c = threshold s.policy n in
    let k = reductions n c s.factor in
    let q : Good s.dimension cs active × (length active ≤ n) = (g, omega arith) in
    let l = few-leaves s cs pos lp n c k most_fine active q in
    let b = all-boxes s cs pos lp n c k most_fine active q in
    let tree = levels_from s cs c k most_fine 0 active in
    let r : length (leaves_in_lem tree) ≤ 6 * n + 1 = omega arith in
    record {
      few = few_levels s cs pos lp n c k most_fine active q;
      rows = r;
      bounds = b;
      level_points = omega (arith, few-points s cs pos lp n c k most_fine active q);
      internals = omega (arith, few-own s cs pos lp n c k most_fine active q);
      domains = omega (arith, length-domains tree);
      boxes = omega (arith, boxes-even s.dimension (leaves_in_lem tree) b, mul-le-mul_left (row_floats_lem s.dimension) r);
      borrowed = omega (arith, few-borrowed s cs pos lp n c k most_fine active q, six n (s.neighbours + 1));
    }
  where
    six : (n k : ℕ) → 3 * (2 * n * k) ≡ 6 * n * k
    six n k = sym (mul_assoc 3 (2 * n) k) ∙ ap (λ (m : ℕ). m * k) (three n)
      where
        three : (n : ℕ) → 3 * (2 * n) ≡ 6 * n
        three n = omega arith

-- ---- an accepted build: the lists that it packs fit in what it is lent
pub record LentFit (lent : TreeSizes) (ls : List Level) : Type 0 where
  pub level_points : length (packed_level_points ls) ≤ lent.level_points
  pub internals : length (packed_internals ls) ≤ lent.internals
  pub domains : length (packed_domains ls) ≤ lent.domains
  pub boxes : length (packed_boxes ls) ≤ lent.boxes
  pub borrowed : length (packed_borrowed ls) ≤ lent.borrowed

pub lent-fit : (d n neighbours : ℕ) (lent : TreeSizes) (ls : List Level) → PackedFit d n neighbours ls → TreeEnough lent (tree_stated d n neighbours) → LentFit lent ls
lent-fit d n neighbours lent ls f e =
    record {
      level_points = le_trans f.level_points e.level_points;
      internals = le_trans f.internals e.internals;
      domains = le_trans f.domains e.domains;
      boxes = le_trans f.boxes e.boxes;
      borrowed = le_trans f.borrowed e.borrowed;
    }

-- the tree over all points
pub levels-fit : (s : Settings) (cs : List Float) (lent : BuildSizes) → Accepted s cs lent → PackedFit s.dimension (point_count s.dimension cs) s.neighbours (levels s cs)
unfolding levels
levels-fit s cs lent a =
    let n = point_count s.dimension cs in
    subst (λ (m : ℕ). PackedFit s.dimension m s.neighbours (levels s cs)) (length_from 0 n)
    (packed_fit s cs (from 0 n) a.passes-all.axes a.passes-all.leaf_some a.good)

pub accepted-fit : (s : Settings) (cs : List Float) (lent : BuildSizes) → build_verdict s cs lent ≡ accepted → LentFit lent.tree (levels s cs)
unfolding build_stated
accepted-fit s cs lent e =
    let a = build-accepted s cs lent e in
    lent-fit s.dimension (point_count s.dimension cs) s.neighbours lent.tree (levels s cs) (levels-fit s cs lent a) a.enough.tree
