-- A fine level has demand 3's rules where its lists hold the definition's level over the rows that it lists. Assumes nothing.
use mathlib.Core.Path.{◌≡◌, refl, sym, ap, ap₂, ◌∙◌, subst}
use mathlib.Core.Logic.{◌⊎◌}
use mathlib.Core.List.{List, [], ◌∷◌, map, map-map}
use Prim.Native.Nat.{ℕ, suc, ◌≤◌, ◌<◌}
use native.Mathlib.Omega.{arith}
use native.Mathlib.Nat.{zero-add}
use lib.ListN.{length, get_or, length-map}
use lib.Ieee.{Float}
use Rattle.lists.specs.Lists.{keep, member, from, joined}
use Rattle.lists.proofs.Map.{get_d-map-in, zip-at}
use Rattle.lists.proofs.From.{map-from-at, zip-from-at}
use Rattle.lists.specs.Times.{times}
use Rattle.definition.specs.Quotas.{quotas}
use Rattle.definition.specs.Cut.{Domain, leaves_of}
use Rattle.definition.specs.Overlaps.{borrowed_by}
use Rattle.definition.specs.Sampling.{sent_by, leaf_cover}
use Rattle.definition.specs.Tree.{Settings, sent_lists, next_active}
use Rattle.definition.proofs.Cuts.{Good, domain_sizes}
use Rattle.definition.proofs.Steps.{next_of}
use Rattle.definition.proofs.Next.{no_domain}
use Rattle.definition.proofs.OneLevel.{OneLevel, one-level}
use Rattle.demand3.specs.Handed.{Handed, leaves_on, listed, own_of, borrowed_of, box_of, cover_in, depth_of, own_lists, leaf_sizes, leaf_boxes, leaf_depths_lem}
use Rattle.demand3.specs.Demand3.{coarse_at, reduction_count, share_of, WholePart, OneMore, sent_of, sent_up, active, size, filled, FineLevel}
use Rattle.demand3.proofs.Shares.{shared}

empty : (xs : List ℕ) → length xs ≡ 0 → xs ≡ []
empty [] e = refl
empty (x ∷ xs) e = absurd (omega arith)

module _ (s : Settings) (cs : List Float) (n : ℕ) (pos : 0 < s.dimension) (lp : 1 ≤ s.leaf) (cp : 1 ≤ coarse_at s n) (h : Handed) (l : ℕ) where
  abbrev d : ℕ
  d = s.dimension

  abbrev rows : List ℕ
  rows = listed h l

  abbrev qs : List Domain
  qs = leaves_of s.dimension cs s.leaf (listed h l)

  -- the level's lists are those of the definition's level over the rows that it lists
  pub record IsLevel : Type 0 where
    pub good : Good s.dimension cs (listed h l)
    pub outnumbers : coarse_at s n < length (listed h l)
    pub leaf-count : leaves_on h l ≡ length qs
    pub own : (i : ℕ) → i < leaves_on h l → own_of h l i ≡ (get_or qs i no_domain).rows
    pub borrowed : (i : ℕ) → i < leaves_on h l → borrowed_of h l i ≡ borrowed_by s.dimension cs s.neighbours (listed h l) (get_or qs i no_domain).rows
    pub box : (i : ℕ) → i < leaves_on h l → box_of s.dimension h l i ≡ (get_or qs i no_domain).box
    pub depth : (i : ℕ) → i < leaves_on h l → depth_of h l i ≡ (get_or qs i no_domain).depth
    pub cover : (i : ℕ) → i < leaves_on h l
        → cover_in s.dimension h l i ≡ leaf_cover s.dimension cs (get_or qs i no_domain).rows (get_or (sent_lists s.dimension cs qs (size s cs n h l)) i [])
    pub next : listed h (suc l) ≡ next_of s cs (coarse_at s n) (reduction_count s n) l (listed h l)

  module _ (holds : IsLevel) where
    abbrev S : ℕ
    S = size s cs n h l

    abbrev ws : List ℕ
    ws = quotas (domain_sizes qs) S

    -- the definition's level has the demand's lines
    level : OneLevel s cs (coarse_at s n) (reduction_count s n) l (listed h l)
    level = one-level s cs (coarse_at s n) (reduction_count s n) l (listed h l) pos lp cp holds.good holds.outnumbers

    -- ---- the leaves together
    owns : own_lists h l ≡ map (λ q. q.rows) qs
    unfolding own_lists
    owns =
        ap (λ (m : ℕ). map (own_of h l) (from 0 m)) holds.leaf-count
        ∙ map-from-at (own_of h l) (λ q. q.rows) no_domain qs 0 (λ i k. ap (own_of h l) (zero-add i) ∙ holds.own i (omega (arith, holds.leaf-count)))

    boxes : leaf_boxes s.dimension h l ≡ map (λ q. q.box) qs
    unfolding leaf_boxes
    boxes =
        ap (λ (m : ℕ). map (box_of d h l) (from 0 m)) holds.leaf-count
        ∙ map-from-at (box_of d h l) (λ q. q.box) no_domain qs 0 (λ i k. ap (box_of d h l) (zero-add i) ∙ holds.box i (omega (arith, holds.leaf-count)))

    depths : leaf_depths_lem h l ≡ map (λ q. q.depth) qs
    unfolding leaf_depths_lem
    depths =
        ap (λ (m : ℕ). map (depth_of h l) (from 0 m)) holds.leaf-count
        ∙ map-from-at (depth_of h l) (λ q. q.depth) no_domain qs 0 (λ i k. ap (depth_of h l) (zero-add i) ∙ holds.depth i (omega (arith, holds.leaf-count)))

    sizes : leaf_sizes h l ≡ domain_sizes qs
    unfolding leaf_sizes
    sizes = ap (map length) owns ∙ map-map length (λ (q : Domain). q.rows) qs

    own-all : (r : ℕ) → times r (joined (own_lists h l)) ≡ times r (listed h l)
    own-all r = ap (λ (x : List (List ℕ)). times r (joined x)) owns ∙ level.internal_once r

    -- ---- the leaf at i
    module _ (i : ℕ) (k : i < leaves_on h l) where
      in-qs : i < length qs
      in-qs = omega (arith, k, holds.leaf-count)

      size_is : get_or (domain_sizes qs) i 0 ≡ length (own_of h l i)
      size_is = get_d-map-in (λ q. length q.rows) qs i no_domain 0 in-qs ∙ ap length (sym (holds.own i k))

      quota-is : get_or (quotas (leaf_sizes h l) S) i 0 ≡ get_or ws i 0
      quota-is = ap (λ (z : List ℕ). get_or (quotas z S) i 0) sizes

      quota-fits : get_or (quotas (leaf_sizes h l) S) i 0 ≤ length (own_of h l i)
      quota-fits = omega (arith, quota-is, size_is, level.fair-shares.within i)

      sent_is : sent_of s cs n h l i ≡ sent_by d cs (get_or qs i no_domain).rows (get_or ws i 0)
      unfolding sent_of
      sent_is = ap₂ (λ (x : List ℕ) (m : ℕ). sent_by d cs x m) (holds.own i k) quota-is

      sent-many : length (sent_of s cs n h l i) ≡ get_or (quotas (leaf_sizes h l) S) i 0
      sent-many = ap length sent_is ∙ level.sends-quota i ∙ sym quota-is

      sent-from : (r : ℕ) → times r (sent_of s cs n h l i) ≤ times r (own_of h l i)
      sent-from r = omega (arith, ap (times r) sent_is, ap (times r) (holds.own i k), level.sends_own i r in-qs)

      sent-at : get_or (sent_lists d cs qs S) i [] ≡ sent_of s cs n h l i
      unfolding sent_lists
      sent-at =
          zip-at (λ q w. sent_by d cs q.rows w) qs ws (level.fair-shares.entries ∙ length-map qs (λ (q : Domain). length q.rows)) i no_domain 0 [] in-qs
          ∙ sym sent_is

      cover_is : cover_in d h l i ≡ leaf_cover d cs (own_of h l i) (sent_of s cs n h l i)
      cover_is = holds.cover i k ∙ ap₂ (λ (x y : List ℕ). leaf_cover d cs x y) (sym (holds.own i k)) sent-at

      share : 0 < length (own_of h l i)
          → WholePart (length (sent_of s cs n h l i)) (share_of S (filled s cs n h l) (active s cs n h l) (length (own_of h l i)))
          ⊎ OneMore (length (sent_of s cs n h l i)) (share_of S (filled s cs n h l) (active s cs n h l) (length (own_of h l i)))
      share p =
          let w = shared (domain_sizes qs) S ws (omega (arith, level.size-fewer, level.sizes-sum)) level.fair-shares i (omega (arith, size_is)) in
          rw (sent-many, quota-is, ← size_is, sizes) (rw level.sizes-sum at w)

    -- ---- what is sent up
    sent-all : sent_up s cs n h l ≡ joined (sent_lists d cs qs S)
    unfolding sent_up sent_lists
    sent-all =
        ap (λ (m : ℕ). joined (map (sent_of s cs n h l) (from 0 m))) holds.leaf-count
        ∙ ap joined (zip-from-at (sent_of s cs n h l) (λ q w. sent_by d cs q.rows w) no_domain 0 qs ws 0
        (level.fair-shares.entries ∙ length-map qs (λ (q : Domain). length q.rows))
        (λ i k. ap (sent_of s cs n h l) (zero-add i) ∙ sent_is i (omega (arith, holds.leaf-count))))

    up : (r : ℕ) → times r (listed h (suc l)) ≡ times r (sent_up s cs n h l)
    up r = ap (times r) holds.next ∙ level.next_lists_sent r ∙ ap (times r) (sym sent-all)

    in_order : listed h (suc l) ≡ keep (λ i. member i (sent_up s cs n h l)) (listed h l)
    unfolding next_active
    in_order = holds.next ∙ ap (λ (x : List ℕ). keep (λ i. member i x) (listed h l)) (sym sent-all)

    next_le : (r : ℕ) → times r (listed h (suc l)) ≤ times r (listed h l)
    next_le r = omega (arith, ap (times r) holds.next, level.next-once r)

    size-next : length (listed h (suc l)) ≡ S
    size-next = ap length holds.next ∙ level.next_size

    shows : (i : ℕ) → i < leaves_on h l → (r : ℕ) → 0 < times r (own_of h l i) → times r (sent_of s cs n h l i) ≡ times r (listed h (suc l))
    shows i k r m =
        ap (times r) (sent_is i k)
        ∙ sym (level.sends-alone i r (in-qs i k) (subst (λ (x : List ℕ). 0 < times r x) (holds.own i k) m))
        ∙ ap (times r) (sym holds.next)

    -- THE LAW
    pub fine-level : FineLevel s cs n h l
    fine-level = record {
      rows = record {
        internal_once = λ r m. omega (arith, own-all r, level.once r);
        internal_none = λ r m. omega (arith, own-all r);
        borrows_not_own = λ i k r m.
            ap (times r) (holds.borrowed i k) ∙ level.borrows_not_own i r (subst (λ (x : List ℕ). 0 < times r x) (holds.own i k) m);
        borrows_once = λ i k r. omega (arith, ap (times r) (holds.borrowed i k), level.borrows_once i r);
      };
      next = record {
        fewer = omega (arith, size-next, level.size-fewer);
        each_once = λ r. omega (arith, next_le r, level.once r);
        from_this = λ r m. omega (arith, next_le r);
      };
      next_lists_sent = up;
      next_order = in_order;
      next_size = size-next;
      sends_own = sent-from;
      sends_share = share;
      sends_within = λ i k. omega (arith, sent-many i k, quota-fits i k);
      empty_sends_none = λ i k e. empty (sent_of s cs n h l i) (omega (arith, sent-many i k, quota-fits i k));
      sent_shows = shows;
      leaves_are = owns;
      boxes_are = boxes;
      depths_are = depths;
      borrowed_are = λ i k. holds.borrowed i k ∙ ap (borrowed_by d cs s.neighbours rows) (sym (holds.own i k));
      covers_are = cover_is;
    }
