-- The queue's leaves are the leaves of the cuts by depth, and then from left to right: over any kind of domain, and for a level. Assumes
-- nothing.
-- Holds: at-nil, at-append, at_one, at_other, deep_leaves, deep_more, deep-done, queue-by-depth, leaves-under, level-by-depth
use mathlib.Core.Path.{◌≡◌, refl, sym, ap, ◌∙◌}
use mathlib.Core.Logic.{⊎_elim}
use mathlib.Core.Bool.{cond}
use mathlib.Core.List.{List, [], ◌∷◌, ◌++◌, map, append-nil, append_assoc}
use Prim.Native.Nat.{ℕ, zero, suc, ◌*◌, ◌≤◌, ◌<◌}
use native.Mathlib.Omega.{arith}
use borrow.Author.Tests.{le-leb, lt-leb, eq-eqb, ne_eqb}
use lib.Dec.{leb, eqb}
use lib.ListN.{length}
use lib.Ieee.{Float}
use Rattle.lists.specs.Lists.{keep, from, joined}
use Rattle.lists.specs.Ascends.{All}
use Rattle.lists.proofs.Tests.{le-or-lt}
use Rattle.lists.proofs.All.{all_append, all_left, all_right}
use Rattle.lists.proofs.Count.{keep_append}
use Rattle.lists.proofs.Map.{map_same}
use Rattle.lists.proofs.From.{from-mem}
use Rattle.definition.specs.Cut.{Domain, root_domain, left_of, right_of, leaves_of}
use Rattle.definition.specs.Record.{cuts_of, level_cuts, leaves_under}
use Rattle.queue.proofs.Kind.{Kind, MayWait, size_of}
use Rattle.rows.specs.Rows.{GoodRows}
use Rattle.record_laws.proofs.Domains.{kind, leaves_are}
use Rattle.record_laws.proofs.Steps.{step-more, step-done}
use Rattle.record_laws.specs.ByDepth.{at_depth, by_depth, domain_depth}

-- ---- the leaves at one depth
module _ {D : Type 0} (depth_of : D → ℕ) where
  pub at-nil : (e : ℕ) → at_depth depth_of e [] ≡ []
  unfolding at_depth keep
  at-nil e = refl

  pub at-append : (e : ℕ) (xs ys : List D) → at_depth depth_of e (xs ++ ys) ≡ at_depth depth_of e xs ++ at_depth depth_of e ys
  unfolding at_depth
  at-append e xs ys = keep_append (λ f. eqb (depth_of f) e) xs ys

  -- a leaf at this depth is the first, and one at another is not there
  pub at_one : (e : ℕ) (f : D) (fs : List D) → depth_of f ≡ e → at_depth depth_of e (f ∷ fs) ≡ f ∷ at_depth depth_of e fs
  unfolding at_depth keep
  at_one e f fs h = rw (eq-eqb (depth_of f) e h)

  pub at_other : (e : ℕ) (f : D) (fs : List D) → (depth_of f ≡ e → ⊥) → at_depth depth_of e (f ∷ fs) ≡ at_depth depth_of e fs
  unfolding at_depth keep
  at_other e f fs h = rw (ne_eqb (depth_of f) e h)

-- ---- the leaves under a domain
-- from left to right; `fuel` bounds the cuts below each other
unfoldable pub deep_leaves : {D : Type 0} {leaf : ℕ} → Kind D leaf → ℕ → D → List D
deep_leaves K zero d = []
deep_leaves {D} {leaf} K (suc fuel) d =
    let more = deep_leaves K fuel (K.left d) ++ deep_leaves K fuel (K.right d) in
    let done = K.left d ∷ K.right d ∷ [] in
    cond (leb (2 * leaf) (size_of K d)) more done

module _ {D : Type 0} {leaf : ℕ} (K : Kind D leaf) where
  abbrev at : ℕ → List D → List D
  at e fs = at_depth K.depth_of e fs

  pub deep_more : (fuel : ℕ) (d : D) → 2 * leaf ≤ size_of K d → deep_leaves K (suc fuel) d ≡ deep_leaves K fuel (K.left d) ++ deep_leaves K fuel (K.right d)
  unfolding deep_leaves
  deep_more fuel d h = rw (le-leb (2 * leaf) (size_of K d) h)

  pub deep-done : (fuel : ℕ) (d : D) → size_of K d < 2 * leaf → deep_leaves K (suc fuel) d ≡ K.left d ∷ K.right d ∷ []
  unfolding deep_leaves
  deep-done fuel d h = rw (lt-leb (2 * leaf) (size_of K d) h)

  -- none is as high as the domain
  deep-below : (fuel m : ℕ) (d : D) → m ≤ K.depth_of d → at m (deep_leaves K fuel d) ≡ []
  unfolding deep_leaves
  deep-below zero m d h = at-nil K.depth_of m
  deep-below (suc fuel) m d h =
      let dl = K.left-depth d in
      let dr = K.right-depth d in
      ⊎_elim
      (λ (big : 2 * leaf ≤ size_of K d). rw (
        deep_more fuel d big,
        at-append K.depth_of m (deep_leaves K fuel (K.left d)) (deep_leaves K fuel (K.right d)),
        deep-below fuel m (K.left d) (omega arith),
        deep-below fuel m (K.right d) (omega arith),
      ))
      (λ (small : size_of K d < 2 * leaf). rw (deep-done fuel d small)
      (at_other K.depth_of m (K.left d) (K.right d ∷ []) (λ q. omega arith) ∙ at_other K.depth_of m (K.right d) [] (λ q. omega arith) ∙ at-nil K.depth_of m))
      (le-or-lt (2 * leaf) (size_of K d))

  -- ---- one depth of domains
  -- the halves of those that are small, which are leaves, and of the others, which wait
  unfoldable leaf_kids : List D → List D
  leaf_kids [] = []
  leaf_kids (d ∷ ds) = let rest = leaf_kids ds in cond (leb (2 * leaf) (size_of K d)) rest (K.left d ∷ K.right d ∷ rest)

  unfoldable cut_kids : List D → List D
  cut_kids [] = []
  cut_kids (d ∷ ds) = let rest = cut_kids ds in cond (leb (2 * leaf) (size_of K d)) (K.left d ∷ K.right d ∷ rest) rest

  module _ (d : D) (ds : List D) where
    leaf-more : 2 * leaf ≤ size_of K d → leaf_kids (d ∷ ds) ≡ leaf_kids ds
    unfolding leaf_kids
    leaf-more h = rw (le-leb (2 * leaf) (size_of K d) h)

    leaf-done : size_of K d < 2 * leaf → leaf_kids (d ∷ ds) ≡ K.left d ∷ K.right d ∷ leaf_kids ds
    unfolding leaf_kids
    leaf-done h = rw (lt-leb (2 * leaf) (size_of K d) h)

    cut-more : 2 * leaf ≤ size_of K d → cut_kids (d ∷ ds) ≡ K.left d ∷ K.right d ∷ cut_kids ds
    unfolding cut_kids
    cut-more h = rw (le-leb (2 * leaf) (size_of K d) h)

    cut-done : size_of K d < 2 * leaf → cut_kids (d ∷ ds) ≡ cut_kids ds
    unfolding cut_kids
    cut-done h = rw (lt-leb (2 * leaf) (size_of K d) h)

  -- domains that are all at depth e; the halves that wait are all at the next
  abbrev Level : ℕ → List D → Type 0
  Level e ds = All (λ (d : D). K.depth_of d ≡ e) ds

  kids-level : (e : ℕ) (ds : List D) → Level e ds → Level (suc e) (cut_kids ds)
  unfolding All cut_kids
  kids-level e [] u = tt
  kids-level e (d ∷ ds) u =
      ⊎_elim
      (λ (big : 2 * leaf ≤ size_of K d). rw (cut-more d ds big) (K.left-depth d ∙ ap suc u.0, (K.right-depth d ∙ ap suc u.0, kids-level e ds u.1)))
      (λ (small : size_of K d < 2 * leaf). rw (cut-done d ds small) (kids-level e ds u.1))
      (le-or-lt (2 * leaf) (size_of K d))

  -- the leaves under domains of one depth, from left to right
  unfoldable under : ℕ → List D → List D
  under fuel [] = []
  under fuel (d ∷ ds) = deep_leaves K fuel d ++ under fuel ds

  under-nil : (fuel : ℕ) → under fuel [] ≡ []
  unfolding under
  under-nil fuel = refl

  under-cons : (fuel : ℕ) (d : D) (ds : List D) → under fuel (d ∷ ds) ≡ deep_leaves K fuel d ++ under fuel ds
  unfolding under
  under-cons fuel d ds = refl

  -- at the next depth stand the leaf halves
  first-depth : (fuel e : ℕ) (ds : List D) → Level e ds → at (suc e) (under (suc fuel) ds) ≡ leaf_kids ds
  unfolding under leaf_kids All
  first-depth fuel e [] u = at-nil K.depth_of (suc e)
  first-depth fuel e (d ∷ ds) u =
      let z = u.0 in
      let dl = K.left-depth d in
      let dr = K.right-depth d in
      at-append K.depth_of (suc e) (deep_leaves K (suc fuel) d) (under (suc fuel) ds)
      ∙ ⊎_elim
      (λ (big : 2 * leaf ≤ size_of K d). rw (
        leaf-more d ds big,
        deep_more fuel d big,
        at-append K.depth_of (suc e) (deep_leaves K fuel (K.left d)) (deep_leaves K fuel (K.right d)),
        deep-below fuel (suc e) (K.left d) (omega arith),
        deep-below fuel (suc e) (K.right d) (omega arith),
      )
      (first-depth fuel e ds u.1))
      (λ (small : size_of K d < 2 * leaf). rw (
        leaf-done d ds small,
        deep-done fuel d small,
        at_one K.depth_of (suc e) (K.left d) (K.right d ∷ []) (omega arith),
        at_one K.depth_of (suc e) (K.right d) [] (omega arith),
        at-nil K.depth_of (suc e),
        first-depth fuel e ds u.1,
      ))
      (le-or-lt (2 * leaf) (size_of K d))

  -- and deeper ones are those under the halves that wait
  next-depths : (fuel e m : ℕ) (ds : List D) → Level e ds → suc e < m → at m (under (suc fuel) ds) ≡ at m (under fuel (cut_kids ds))
  unfolding under cut_kids All
  next-depths fuel e m [] u h = refl
  next-depths fuel e m (d ∷ ds) u h =
      let z = u.0 in
      let dl = K.left-depth d in
      let dr = K.right-depth d in
      at-append K.depth_of m (deep_leaves K (suc fuel) d) (under (suc fuel) ds)
      ∙ ⊎_elim
      (λ (big : 2 * leaf ≤ size_of K d).
      let a = deep_leaves K fuel (K.left d) in
      let b = deep_leaves K fuel (K.right d) in
      rw (cut-more d ds big, deep_more fuel d big, next-depths fuel e m ds u.1 h)
      (sym (at-append K.depth_of m (a ++ b) (under fuel (cut_kids ds))) ∙ ap (at m) (append_assoc a b (under fuel (cut_kids ds)))))
      (λ (small : size_of K d < 2 * leaf). rw (
        cut-done d ds small,
        deep-done fuel d small,
        at_other K.depth_of m (K.left d) (K.right d ∷ []) (λ q. omega arith),
        at_other K.depth_of m (K.right d) [] (λ q. omega arith),
        at-nil K.depth_of m,
      )
      (next-depths fuel e m ds u.1 h))
      (le-or-lt (2 * leaf) (size_of K d))

  -- ---- the queue
  abbrev May : List D → Type 0
  May ds = MayWait K.rows_of K.Good ds

  module _ (lp : 1 ≤ leaf) where
    may-halves : (d : D) → 2 * leaf ≤ size_of K d → K.Good d → May (K.left d ∷ K.right d ∷ [])
    unfolding All
    may-halves d big g =
        let a = K.left-size d g in
        let b = K.right-size d g in
        ((omega arith, K.left-good d g), ((omega arith, K.right-good d g), tt))

    -- domains at the front: the leaf halves come out, and the others wait behind the rest
    front-depth : (xs ys : List D) → May (xs ++ ys) → K.leaves (xs ++ ys) ≡ leaf_kids xs ++ K.leaves (ys ++ cut_kids xs)
    unfolding leaf_kids cut_kids All
    front-depth [] ys u = ap K.leaves (sym (append-nil ys))
    front-depth (d ∷ xs) ys u =
        let l = K.left d in
        let r = K.right d in
        let P : D → Type 0 = λ d. (1 ≤ size_of K d) × K.Good d in
        ⊎_elim
        (λ (big : 2 * leaf ≤ size_of K d). rw (leaf-more d xs big, cut-more d xs big, K.leaves-wait d (xs ++ ys) u big, append_assoc xs ys (l ∷ r ∷ []))
        (front-depth xs (ys ++ l ∷ r ∷ [])
        (all_append P xs (ys ++ l ∷ r ∷ []) (all_left P xs ys u.1) (all_append P ys (l ∷ r ∷ []) (all_right P xs ys u.1) (may-halves d big u.0.1)))
        ∙ ap (λ (s : List D). leaf_kids xs ++ K.leaves s) (append_assoc ys (l ∷ r ∷ []) (cut_kids xs))))
        (λ (small : size_of K d < 2 * leaf). rw (leaf-done d xs small, cut-done d xs small, K.leaves-done d (xs ++ ys) u small)
        (ap (λ (s : List D). l ∷ r ∷ s) (front-depth xs ys u.1)))
        (le-or-lt (2 * leaf) (size_of K d))

    one-depth : (ds : List D) → May ds → K.leaves ds ≡ leaf_kids ds ++ K.leaves (cut_kids ds)
    one-depth ds u = ap K.leaves (sym (append-nil ds)) ∙ front-depth ds [] (rw (append-nil ds) u)

    -- what waits may wait, and is smaller
    abbrev Small : ℕ → List D → Type 0
    Small fuel ds = All (λ (d : D). ((1 ≤ size_of K d) × K.Good d) × (size_of K d ≤ fuel)) ds

    small-may : (fuel : ℕ) (ds : List D) → Small fuel ds → May ds
    unfolding All
    small-may fuel [] u = tt
    small-may fuel (d ∷ ds) u = (u.0.0, small-may fuel ds u.1)

    small-kids : (fuel : ℕ) (ds : List D) → Small (suc fuel) ds → Small fuel (cut_kids ds)
    unfolding All cut_kids
    small-kids fuel [] u = tt
    small-kids fuel (d ∷ ds) u =
        ⊎_elim
        (λ (big : 2 * leaf ≤ size_of K d).
        let a = K.left-size d u.0.0.1 in
        let b = K.right-size d u.0.0.1 in
        rw (cut-more d ds big) (
          ((omega (arith, u.0.1), K.left-good d u.0.0.1), omega (arith, u.0.1)),
          (((omega (arith, u.0.1), K.right-good d u.0.0.1), omega (arith, u.0.1)), small-kids fuel ds u.1),
        ))
        (λ (small : size_of K d < 2 * leaf). rw (cut-done d ds small) (small-kids fuel ds u.1))
        (le-or-lt (2 * leaf) (size_of K d))

    none_deep : (a n : ℕ) → joined (map (λ m. at m []) (from a n)) ≡ []
    unfolding joined from
    none_deep a zero = refl
    none_deep a (suc n) = rw (at-nil K.depth_of a) (none_deep (suc a) n)

    depths : (fuel e n : ℕ) (ds : List D) → Small fuel ds → Level e ds → fuel ≤ n → K.leaves ds ≡ joined (map (λ m. at m (under fuel ds)) (from (suc e) n))
    unfolding All from joined
    depths zero e n [] u v h = K.leaves_none ∙ sym (none_deep (suc e) n) ∙ ap (λ (s : List D). joined (map (λ m. at m s) (from (suc e) n))) (sym (under-nil zero))
    depths zero e n (d ∷ ds) u v h = absurd (omega (arith, u.0.1, u.0.0.0))
    depths (suc fuel) e zero ds u v h = absurd (omega arith)
    depths (suc fuel) e (suc n) ds u v h =
        one-depth ds (small-may (suc fuel) ds u)
        ∙ rw (depths fuel (suc e) n (cut_kids ds) (small-kids fuel ds u) (kids-level e ds v) (omega arith), first-depth fuel e ds v)
        (ap (λ (s : List (List D)). leaf_kids ds ++ joined s)
        (map_same (λ m. at m (under fuel (cut_kids ds))) (λ m. at m (under (suc fuel) ds)) (from (suc (suc e)) n)
        (λ m q. sym (next-depths fuel e m ds v (omega (arith, (from-mem (suc (suc e)) n q).0))))))

    -- THE LAW: the queue's leaves under a domain at depth 0, by depth and then from left to right
    pub queue-by-depth : (d : D) → K.Good d → 1 ≤ size_of K d → K.depth_of d ≡ 0 → (fuel most : ℕ) → size_of K d ≤ fuel → fuel ≤ most
        → K.leaves (d ∷ []) ≡ by_depth K.depth_of most (deep_leaves K fuel d)
    unfolding by_depth from joined All
    queue-by-depth d g s z fuel most h m =
        depths fuel 0 most (d ∷ []) (((s, g), h), tt) (z, tt) m
        ∙ ap (λ (l : List D). joined (map (λ m. at m l) (from 1 most)))
        (under-cons fuel d [] ∙ ap (λ (l : List D). deep_leaves K fuel d ++ l) (under-nil fuel) ∙ append-nil (deep_leaves K fuel d))
        ∙ ap (λ (l : List D). l ++ joined (map (λ m. at m (deep_leaves K fuel d)) (from 1 most))) (sym (deep-below fuel 0 d (omega arith)))

-- ---- the definition's domains
module _ (d : ℕ) (cs : List Float) (pos : 0 < d) (leaf : ℕ) (lp : 1 ≤ leaf) where
  -- the leaves under a domain are those of its cuts
  pub leaves-under : (fuel : ℕ) (q : Domain) → GoodRows d cs q.rows → 1 ≤ length q.rows → length q.rows ≤ fuel
      → deep_leaves (kind d cs pos leaf lp) fuel q ≡ leaves_under (cuts_of d cs leaf fuel q)
  unfolding leaves_under
  leaves-under zero q g s h = absurd (omega arith)
  leaves-under (suc fuel) q g s h =
      let K = kind d cs pos leaf lp in
      let a = K.left-size q g in
      let b = K.right-size q g in
      ⊎_elim
      (λ (big : 2 * leaf ≤ length q.rows). rw (
        deep_more K fuel q big,
        step-more d cs leaf fuel q big,
        leaves-under fuel (left_of d cs q) (K.left-good q g) (omega arith) (omega arith),
        leaves-under fuel (right_of d cs q) (K.right-good q g) (omega arith) (omega arith),
      ))
      (λ (small : length q.rows < 2 * leaf). rw (deep-done K fuel q small, step-done d cs leaf fuel q small))
      (le-or-lt (2 * leaf) (length q.rows))

  -- a level's leaves are the leaves of its cuts by depth, and then from left to right
  pub level-by-depth : (active : List ℕ) → GoodRows d cs active → 1 ≤ length active → (most : ℕ) → length active ≤ most
      → leaves_of d cs leaf active ≡ by_depth domain_depth most (leaves_under (level_cuts d cs leaf active))
  unfolding level_cuts root_domain
  level-by-depth active g s most h =
      let K = kind d cs pos leaf lp in
      let root = root_domain d cs active in
      let n = length active in
      leaves_are d cs pos leaf lp active g s
      ∙ queue-by-depth K lp root g s refl n most (omega arith) h
      ∙ ap (by_depth domain_depth most) (leaves-under n root g s (omega arith))
