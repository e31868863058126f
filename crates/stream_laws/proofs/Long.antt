-- How long a printout can be. A stream has at most 32 points, so each row has at most two digits; a level has at most four leaves for
-- each row, each with a depth of at most two digits, and three levels at most are fine. `decimal-long` and `refusal-long` bound a number and a refusal, `job-long` the text of a
-- job, `printout-long` every printout. Assumes nothing.
-- Holds: decimal-long, each_long, FewRows, few-from, Brief, domain-long, level-long, fine-long, dash-long, refusal-long,
--   job-long, printout-long
use mathlib.Core.Path.{◌≡◌, refl, ap, ◌∙◌}
use mathlib.Core.Bool.{Bool, true, false, cond}
use mathlib.Core.Logic.{⊎_elim}
use Prim.Native.Nat.{ℕ, zero, suc, ◌+◌, ◌*◌, ◌/◌, ◌%◌, ◌^◌, ◌≤◌, ◌<◌}
use native.Mathlib.Nat.{pow-succ'}
use native.Mathlib.Omega.{arith}
use mathlib.Core.List.{List, [], ◌∷◌, ◌++◌, map, map-map}
use lib.ListN.{length, length-append}
use lib.Dec.{ltb}
use borrow.Author.Tests.{lt-ltb}
use lib.Ieee.{Float, binary64, to_bits}
use Rattle.lists.specs.Lists.{keep, joined, from, total}
use Rattle.lists.specs.Ascends.{All}
use Rattle.lists.proofs.Tests.{le-or-lt}
use Rattle.lists.proofs.All.{all_append, all-imp, all_keep, all-mem, all-of}
use Rattle.lists.proofs.Count.{count-len, length-keep}
use Rattle.lists.proofs.From.{all_from, length_from}
use Rattle.lists.proofs.Joined.{length-joined}
use Rattle.lists.proofs.Sums.{sum-most}
use Rattle.definition.specs.Levels.{threshold, reductions}
use Rattle.definition.specs.Cut.{Domain, root_domain, cut_keys, left_of, right_of, queue_leaves, leaves_of}
use Rattle.definition.specs.Overlaps.{borrowed_by}
use Rattle.definition.specs.Points.{box_width_lem}
use Rattle.definition.specs.Tree.{Settings, Leaf, Level, coarse_leaf, coarse_level_lem, fine_level_lem, most_fine, next_active, levels_from, levels_over, point_count, levels}
use Rattle.definition.specs.Refusals.{Refusal, Verdict, accepted, refused}
use Rattle.formats.specs.Stream.{Job, job, broken, stream_points, job_in}
use Rattle.formats.specs.Printout.{ascii, digit_of_lem, decimal, decimal_onto, hex_onto, rows_text, floats_text, domain_line, fine_lines, coarse_lines, level_line, levels_text, tree_text, refusal_text, built_text, job_text, printout}
use Rattle.definition.proofs.Halves.{first_rows, other-rows}
use Rattle.definition.proofs.Cuts.{left-depth, right-depth, leaves_all}
use Rattle.definition.proofs.Steps.{fine_of, size_from, next_of, queue-wait, queue-done, levels-last, levels-end, levels-more}
use Rattle.definition.proofs.FineLeaves.{fine-many, fine-each}
use Rattle.definition_laws.proofs.Shape.{leaves-boxes}
use Rattle.stream_laws.proofs.Shape.{levels-shaped}
use Rattle.stream_laws.specs.Sizes.{JobLimits, WithinLimits, most_bytes}
use Rattle.stream_laws.proofs.Stream.{job-limits, job-points}

-- ---- numbers
onto-long : (k n : ℕ) (after : List ℕ) → length (decimal_onto k n after) ≤ suc k + length after
unfolding decimal_onto
onto-long zero n after = omega arith
onto-long (suc k) n after = go (ltb n 10) (onto-long k (n / 10) (digit_of_lem (n % 10) ∷ after))
  where
    go : (b : Bool) → length (decimal_onto k (n / 10) (digit_of_lem (n % 10) ∷ after)) ≤ suc k + suc (length after)
        → length (cond b (digit_of_lem n ∷ after) (decimal_onto k (n / 10) (digit_of_lem (n % 10) ∷ after))) ≤ suc (suc k) + length after
    go true h = omega arith
    go false h = omega arith

pub decimal-long : (n : ℕ) → length (decimal n) ≤ 20
unfolding decimal
decimal-long n = onto-long 19 n []

-- a number below 10 ^ m has at most m digits
onto-short : (m k n : ℕ) (after : List ℕ) → n < 10 ^ suc m → length (decimal_onto k n after) ≤ suc m + length after
unfolding decimal_onto
onto-short m zero n after h = omega arith
onto-short zero (suc k) n after h = rw (lt-ltb n 10 h) (omega arith)
onto-short (suc m) (suc k) n after h = go (ltb n 10) (onto-short m k (n / 10) (digit_of_lem (n % 10) ∷ after) (omega (arith, rw (pow-succ' 10 (suc m)) at h)))
  where
    go : (b : Bool) → length (decimal_onto k (n / 10) (digit_of_lem (n % 10) ∷ after)) ≤ suc m + suc (length after)
        → length (cond b (digit_of_lem n ∷ after) (decimal_onto k (n / 10) (digit_of_lem (n % 10) ∷ after))) ≤ suc (suc m) + length after
    go true h = omega arith
    go false h = omega arith

decimal-short : (m n : ℕ) → n < 10 ^ suc m → length (decimal n) ≤ suc m
unfolding decimal
decimal-short m n h = omega (arith, onto-short m 19 n [] h)

hex-long : (k n : ℕ) (after : List ℕ) → length (hex_onto k n after) ≡ k + length after
unfolding hex_onto
hex-long zero n after = omega arith
hex-long (suc k) n after = hex-long k (n / 16) (digit_of_lem (n % 16) ∷ after) ∙ (omega arith)

-- ---- a text for each element: no longer than the longest of them for each
pub each_long : {A : Type 0} (f : A → List ℕ) (most : ℕ) (P : A → Type 0) → ((x : A) → P x → length (f x) ≤ most)
    → (xs : List A) → All P xs → length (joined (map f xs)) ≤ length xs * most
each_long f most P h xs a =
    omega (
      arith,
      length-joined (map f xs) ∙ ap total (map-map length f xs),
      sum-most (λ x. length (f x)) most xs (λ x m. h x (all-mem P xs a x m)),
    )

-- ---- rows: at most 32, each below 32
pub record FewRows (rows : List ℕ) : Type 0 where
  pub below : All (λ (i : ℕ). i < stream_points) rows
  pub few : length rows ≤ stream_points

few-keep : (p : ℕ → Bool) (rows : List ℕ) → FewRows rows → FewRows (keep p rows)
few-keep p rows s =
    record {
      below = all_keep (λ (i : ℕ). i < stream_points) p rows s.below;
      few = omega (arith, s.few, length-keep p rows, count-len p rows);
    }

pub few-from : (n : ℕ) → n ≤ stream_points → FewRows (from 0 n)
few-from n h = record { below = all_from (λ (i : ℕ). i < stream_points) 0 n (λ i a b. omega arith); few = omega (arith, length_from 0 n) }

few-none : FewRows []
unfolding All
few-none = record { below = tt; few = omega arith }

rows_long : (rows : List ℕ) → FewRows rows → length (rows_text rows) ≤ 96
unfolding rows_text ascii
rows_long [] s = omega arith
rows_long (i ∷ rows) s =
    omega (arith, s.few, each_long (λ j. 32 ∷ decimal j) 3 (λ (i : ℕ). i < stream_points) (λ j h. omega (arith, decimal-short 1 j (omega arith))) (i ∷ rows) s.below)

-- ---- domains
module _ (d : ℕ) (cs : List Float) where
  left-few : (q : Domain) → FewRows q.rows → FewRows (left_of d cs q).rows
  unfolding left_of cut_keys
  left-few q s = rw (first_rows _ (length q.rows / 2) q.rows) (few-keep _ q.rows s)

  right-few : (q : Domain) → FewRows q.rows → FewRows (right_of d cs q).rows
  unfolding right_of cut_keys
  right-few q s = rw (other-rows _ (length q.rows / 2) q.rows) (few-keep _ q.rows s)

  leaves-rows : (leaf : ℕ) (active : List ℕ) → FewRows active → All (λ (q : Domain). FewRows q.rows) (leaves_of d cs leaf active)
  unfolding root_domain
  leaves-rows leaf active s = leaves_all d cs (λ (q : Domain). FewRows q.rows) left-few right-few leaf active s

  queue-many : (leaf fuel : ℕ) (qs : List Domain) → length (queue_leaves d cs leaf fuel qs) ≤ 2 * fuel
  unfolding queue_leaves
  queue-many leaf zero qs = omega arith
  queue-many leaf (suc fuel) [] = omega arith
  queue-many leaf (suc fuel) (q ∷ qs) =
      ⊎_elim
      (λ (big : 2 * leaf ≤ length q.rows). rw (queue-wait d cs leaf fuel q qs big)
      (omega (arith, queue-many leaf fuel (qs ++ left_of d cs q ∷ right_of d cs q ∷ []))))
      (λ (small : length q.rows < 2 * leaf). rw (queue-done d cs leaf fuel q qs small) (omega (arith, queue-many leaf fuel qs)))
      (le-or-lt (2 * leaf) (length q.rows))

  -- a leaf was cut at most as often as the queue
  queue-deep : (leaf fuel e : ℕ) (qs : List Domain) → All (λ (q : Domain). q.depth ≤ e) qs → All (λ (q : Domain). q.depth ≤ e + fuel) (queue_leaves d cs leaf fuel qs)
  unfolding queue_leaves All
  queue-deep leaf zero e qs h = tt
  queue-deep leaf (suc fuel) e [] h = tt
  queue-deep leaf (suc fuel) e (q ∷ qs) h =
      let Within : ℕ → Domain → Type 0 = λ m q. q.depth ≤ m in
      let rest : All (Within (suc e)) qs = all-imp (Within e) (Within (suc e)) qs (λ q u. omega arith) h.1 in
      let l : (left_of d cs q).depth ≤ suc e = omega (arith, left-depth d cs q, h.0) in
      let r : (right_of d cs q).depth ≤ suc e = omega (arith, right-depth d cs q, h.0) in
      let more : All (Within (suc e)) (qs ++ left_of d cs q ∷ right_of d cs q ∷ []) =
      all_append (Within (suc e)) qs (left_of d cs q ∷ right_of d cs q ∷ []) rest (l, (r, tt)) in
      let next : e + suc fuel ≡ suc e + fuel = omega arith in
      ⊎_elim
      (λ (big : 2 * leaf ≤ length q.rows). rw (queue-wait d cs leaf fuel q qs big, next)
      (queue-deep leaf fuel (suc e) (qs ++ left_of d cs q ∷ right_of d cs q ∷ []) more))
      (λ (small : length q.rows < 2 * leaf). rw (queue-done d cs leaf fuel q qs small)
      (omega arith, (omega arith, all-imp (Within (suc e + fuel)) (Within (e + suc fuel)) (queue_leaves d cs leaf fuel qs) (λ q u. omega arith) (queue-deep leaf fuel (suc e) qs rest))))
      (le-or-lt (2 * leaf) (length q.rows))

  leaves-deep : (leaf : ℕ) (active : List ℕ) → length active ≤ stream_points → All (λ (q : Domain). q.depth < 100) (leaves_of d cs leaf active)
  unfolding leaves_of root_domain All
  leaves-deep leaf active h =
      all-imp (λ (q : Domain). q.depth ≤ 0 + 2 * length active) (λ (q : Domain). q.depth < 100) (leaves_of d cs leaf active) (λ q u. omega arith)
      (queue-deep leaf (2 * length active) 0 (root_domain d cs active ∷ []) (omega arith, tt))

  leaves-many : (leaf : ℕ) (active : List ℕ) → length active ≤ stream_points → length (leaves_of d cs leaf active) ≤ 128
  unfolding leaves_of
  leaves-many leaf active h = omega (arith, queue-many leaf (2 * length active) (root_domain d cs active ∷ []))

-- ---- lines
floats-long : (b : List Float) → length (floats_text b) ≡ 17 * length b
unfolding floats_text joined
floats-long [] = omega arith
floats-long (x ∷ b) =
    omega (arith, floats-long b, hex-long 16 (to_bits binary64 x) [], length-append (32 ∷ hex_onto 16 (to_bits binary64 x) []) (floats_text b))

-- a leaf whose line is not long
pub record Brief (f : Leaf) : Type 0 where
  pub own : FewRows f.own
  pub borrowed : FewRows f.borrowed
  pub box : length f.box ≤ 6
  pub depth : f.depth < 100

pub domain-long : (i : ℕ) (f : Leaf) (box : List ℕ) → FewRows f.own → FewRows f.borrowed → f.depth < 100 → i < 1000
    → length (domain_line i f box) ≤ 256 + length box
unfolding domain_line ascii
domain-long i f box h g deep small =
    simp length-append (omega (arith, decimal-short 2 i small, rows_long f.own h, rows_long f.borrowed g, floats-long (f.cover ∷ []), decimal-short 1 f.depth deep))

pub level-long : (t : ℕ) (l : Level) → FewRows l.points → length (level_line t l) ≤ 130
unfolding level_line ascii
level-long t l s = simp length-append (omega (arith, decimal-long t, rows_long l.points s))

pub fine-long : (i : ℕ) (fs : List Leaf) → i + length fs ≤ 1000 → All Brief fs → length (fine_lines i fs) ≤ 358 * length fs
unfolding fine_lines All
fine-long i [] h a = omega arith
fine-long i (f ∷ fs) h a =
    omega (
      arith,
      length-append (domain_line i f (floats_text f.box)) (fine_lines (suc i) fs),
      domain-long i f (floats_text f.box) a.0.own a.0.borrowed a.0.depth (omega arith),
      floats-long f.box,
      a.0.box,
      fine-long (suc i) fs (omega arith) a.1,
    )

-- ---- levels
pub dash-long : length (ascii " -") ≡ 2
unfolding ascii
dash-long = refl

-- a level before others
more-text : (t : ℕ) (l : Level) (ls : List Level) → 1 ≤ length ls → levels_text t (l ∷ ls) ≡ level_line t l ++ fine_lines 0 l.leaves ++ levels_text (suc t) ls
unfolding levels_text
more-text t l [] h = absurd (omega arith)
more-text t l (m ∷ ls) h = refl

module _ (s : Settings) (cs : List Float) (axes : s.dimension ≤ 3) where
  module _ (active : List ℕ) (a : FewRows active) where
    abbrev qs : List Domain
    qs = leaves_of s.dimension cs s.leaf active

    -- what is known of a leaf of the cut
    abbrev Narrow : Domain → Type 0
    Narrow q = FewRows q.rows × (length q.box ≡ box_width_lem s.dimension) × (q.depth < 100)

    leaves-narrow : All Narrow qs
    leaves-narrow =
        let d = s.dimension in
        all-of Narrow qs
        (λ q m. (
          all-mem (λ (q : Domain). FewRows q.rows) qs (leaves-rows d cs s.leaf active a) q m,
          all-mem (λ (q : Domain). length q.box ≡ box_width_lem d) qs (leaves-boxes d cs s.leaf active) q m,
          all-mem (λ (q : Domain). q.depth < 100) qs (leaves-deep d cs s.leaf active a.few) q m,
        ))

    leaves-brief : (size : ℕ) → All Brief (fine_of s cs size active).leaves
    unfolding borrowed_by
    leaves-brief size =
        fine-each s cs size active Narrow Brief (λ q sent h. record { own = h.0; borrowed = few-keep _ active a; box = omega (arith, h.1); depth = h.2 }) leaves-narrow

    fine-level-long : (size t : ℕ) → length (level_line t (fine_of s cs size active)) + length (fine_lines 0 (fine_of s cs size active).leaves) ≤ 45954
    unfolding fine_level_lem
    fine-level-long size t =
        let l = fine_of s cs size active in
        let many = leaves-many s.dimension cs s.leaf active a.few in
        let same = fine-many s cs size active in
        omega (arith, level-long t l a, fine-long 0 l.leaves (omega arith) (leaves-brief size))

    coarse-long : (t : ℕ) → length (levels_text t (coarse_level_lem s.dimension active ∷ [])) ≤ 388
    unfolding levels_text coarse_level_lem coarse_lines joined
    coarse-long t =
        let f = coarse_leaf s.dimension active in
        let l : Level = record { points = active; leaves = f ∷ [] } in
        omega (
          arith,
          length-append (level_line t l) (domain_line 0 f (ascii " -") ++ []),
          length-append (domain_line 0 f (ascii " -")) [],
          level-long t l a,
          domain-long 0 f (ascii " -") a few-none (omega arith) (omega arith),
          dash-long,
        )

  next-few : (c k built : ℕ) (active : List ℕ) → FewRows active → FewRows (next_of s cs c k built active)
  unfolding next_active
  next-few c k built active a = few-keep _ active a

  levels-long : (c k fuel built t : ℕ) (active : List ℕ) → FewRows active → length (levels_text t (levels_from s cs c k fuel built active)) ≤ 388 + 45954 * fuel
  levels-long c k zero built t active a = rw (levels-last s cs c k built active) (coarse-long active a t)
  levels-long c k (suc fuel) built t active a =
      ⊎_elim
      (λ (few : length active ≤ c). rw (levels-end s cs c k fuel built active few) (omega (arith, coarse-long active a t)))
      (λ (many : c < length active). rw (levels-more s cs c k fuel built active many)
      (let l = fine_of s cs (size_from c k built active) active in
      let ls = levels_from s cs c k fuel (suc built) (next_of s cs c k built active) in
      omega (
        arith,
        ap length (more-text t l ls (levels-shaped s cs c k fuel (suc built) (next_of s cs c k built active)).some),
        length-append (level_line t l ++ fine_lines 0 l.leaves) (levels_text (suc t) ls),
        length-append (level_line t l) (fine_lines 0 l.leaves),
        fine-level-long active a (size_from c k built active) t,
        levels-long c k fuel (suc built) (suc t) (next_of s cs c k built active) (next-few c k built active a),
      )))
      (le-or-lt (length active) c)

-- ---- the whole printout
module _ (s : Settings) (cs : List Float) (limits : JobLimits s cs) where
  tree-long : length (tree_text (levels s cs)) ≤ most_bytes
  unfolding tree_text levels levels_over ascii
  tree-long =
      let active = from 0 (point_count s.dimension cs) in
      let c = threshold s.policy (length active) in
      let k = reductions (length active) c s.factor in
      simp length-append
      (omega (
        arith,
        levels-long s cs limits.axes_few c k most_fine 0 0 active (few-from (point_count s.dimension cs) (job-points s cs limits)),
        decimal-long (length (levels_from s cs c k most_fine 0 active)),
      ))

pub refusal-long : (r : Refusal) → length (refusal_text r) ≤ 53
unfolding refusal_text ascii
refusal-long r = simp length-append (omega (arith, decimal-long r.number, decimal-long r.place))

built-long : (v : Verdict) (s : Settings) (cs : List Float) → JobLimits s cs → length (built_text v s cs) ≤ most_bytes
unfolding built_text
built-long accepted s cs limits = tree-long s cs limits
built-long (refused r) s cs limits = omega (arith, refusal-long r)

pub job-long : (j : Job) → WithinLimits j → length (job_text j) ≤ most_bytes
unfolding job_text
job-long (job s cs) limits = built-long _ s cs limits
job-long (broken r) limits = omega (arith, refusal-long r)

-- no printout is longer than `most_bytes`
pub printout-long : (bs : List ℕ) → length (printout bs) ≤ most_bytes
unfolding printout
printout-long bs = job-long (job_in bs) (job-limits bs)
