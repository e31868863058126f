-- The depths of a level's leaves: at most two, one apart, the first leaf being one of the least deep; and none is deeper than 21, which
-- is reached. So the level's leaves are those at the one depth, and then those at the next. Assumes nothing.
-- Holds: least_depth, TwoDepths, height, deep-some, deep-near, deep-first, at_none, all_two, two-of, level_leaves, level-leaves,
--   two-depths, some-leaf, by_two, depth-most, height-power, depth-power, depth-reached
use mathlib.Core.Path.{◌≡◌, refl, sym, ap, ◌∙◌, subst}
use mathlib.Core.Logic.{◌⊎◌, inl, inr, ⊎_elim}
use mathlib.Core.Bool.{cond}
use mathlib.Core.List.{List, [], ◌∷◌, ◌++◌, map, map-append, append-nil}
use Prim.Native.Nat.{ℕ, zero, suc, ◌+◌, ◌-◌, ◌*◌, ◌/◌, ◌^◌, ◌≤◌, ◌<◌}
use native.Mathlib.Omega.{arith}
use native.Mathlib.Nat.{pow-suc, zero-add}
use borrow.Author.Tests.{le-leb, lt-leb}
use lib.Dec.{leb}
use lib.Pow.{pow_pos}
use lib.ListN.{length, get_or, length-append, length-map, get_or-append}
use lib.Ieee.{Float}
use Rattle.lists.specs.Lists.{from, joined}
use Rattle.lists.specs.Ascends.{All}
use Rattle.lists.proofs.Tests.{le-or-lt}
use Rattle.lists.proofs.All.{all_append, all_left, all_right, all-imp, map-all}
use Rattle.lists.proofs.Joined.{joined-map-append}
use Rattle.lists.proofs.From.{from-append}
use Rattle.definition.specs.Cut.{Domain, root_domain, leaves_of}
use Rattle.definition.specs.Tree.{most_depth}
use Rattle.definition.specs.Record.{level_cuts, leaves_under}
use Rattle.definition.specs.Refusals.{most_points}
use Rattle.definition_laws.specs.Shape.{Sized}
use Rattle.definition_laws.proofs.Shape.{sized_of}
use Rattle.definition_laws.proofs.Depths.{leaves-depths}
use Rattle.queue.proofs.Kind.{Kind, size_of}
use Rattle.rows.specs.Rows.{GoodRows}
use Rattle.rows.proofs.Good.{good-good}
use Rattle.record_laws.proofs.Domains.{kind}
use Rattle.record_laws.specs.ByDepth.{at_depth, by_depth, domain_depth}
use Rattle.record_laws.proofs.ByDepth.{deep_leaves, deep_more, deep-done, at-nil, at_one, at_other, leaves-under, level-by-depth}

-- the depth of the first leaf
abbrev pub least_depth : {D : Type 0} → (D → ℕ) → List D → ℕ
least_depth depth_of fs = get_or (map depth_of fs) 0 0

-- each leaf is at depth e, or at the next
abbrev pub TwoDepths : {D : Type 0} → (D → ℕ) → ℕ → List D → Type 0
TwoDepths depth_of e fs = All (λ f. (depth_of f ≡ e) ⊎ (depth_of f ≡ suc e)) fs

-- how deep below a domain of f rows its first leaf is
unfoldable pub height : ℕ → ℕ → ℕ → ℕ
height leaf zero f = 0
height leaf (suc fuel) f = let below = height leaf fuel (f / 2) in cond (leb (2 * leaf) f) (suc below) 1

module _ (leaf : ℕ) where
  height-more : (fuel f : ℕ) → 2 * leaf ≤ f → height leaf (suc fuel) f ≡ suc (height leaf fuel (f / 2))
  unfolding height
  height-more fuel f h = rw (le-leb (2 * leaf) f h)

  height-done : (fuel f : ℕ) → f < 2 * leaf → height leaf (suc fuel) f ≡ 1
  unfolding height
  height-done fuel f h = rw (lt-leb (2 * leaf) f h)

-- ---- any kind of domain
module _ {D : Type 0} {leaf : ℕ} (K : Kind D leaf) (lp : 1 ≤ leaf) where
  -- both halves are one deeper
  left-next : (e : ℕ) (d : D) → K.depth_of d ≡ e → K.depth_of (K.left d) ≡ suc e
  left-next e d z = K.left-depth d ∙ ap suc z

  right-next : (e : ℕ) (d : D) → K.depth_of d ≡ e → K.depth_of (K.right d) ≡ suc e
  right-next e d z = K.right-depth d ∙ ap suc z

  -- the leaves of a small domain are one deeper than it
  small-depths : (fuel e : ℕ) (d : D) (P : ℕ → Type 0) → K.depth_of d ≡ e → size_of K d < 2 * leaf → P (suc e) → All (λ (f : D). P (K.depth_of f)) (deep_leaves K (suc fuel) d)
  unfolding All
  small-depths fuel e d P z small p = rw (deep-done K fuel d small) (subst P (sym (left-next e d z)) p, (subst P (sym (right-next e d z)) p, tt))

  pub deep-some : (fuel : ℕ) (d : D) → K.Good d → 1 ≤ size_of K d → size_of K d ≤ fuel → 1 ≤ length (deep_leaves K fuel d)
  deep-some zero d g s h = absurd (omega arith)
  deep-some (suc fuel) d g s h =
      ⊎_elim
      (λ (big : 2 * leaf ≤ size_of K d).
      let a = K.left-size d g in
      let l = deep_leaves K fuel (K.left d) in
      let r = deep_leaves K fuel (K.right d) in
      rw (deep_more K fuel d big)
      (omega (arith, length-append l r, deep-some fuel (K.left d) (K.left-good d g) (omega arith) (omega arith))))
      (λ (small : size_of K d < 2 * leaf). rw (deep-done K fuel d small) (omega arith))
      (le-or-lt (2 * leaf) (size_of K d))

  -- a domain at depth e of f or f + 1 rows
  pub deep-near : (fuel e f : ℕ) (d : D) → K.depth_of d ≡ e → K.Good d → 1 ≤ size_of K d → size_of K d ≤ fuel → f ≤ size_of K d → size_of K d ≤ suc f
      → TwoDepths K.depth_of (e + height leaf fuel f) (deep_leaves K fuel d)
  deep-near zero e f d z g s h lo hi = absurd (omega arith)
  deep-near (suc fuel) e f d z g s h lo hi =
      ⊎_elim
      (λ (big : 2 * leaf ≤ size_of K d).
      let a = K.left-size d g in
      let b = K.right-size d g in
      ⊎_elim
      (λ (more : 2 * leaf ≤ f).
      let t = height-more leaf fuel f more in
      let m : e + height leaf (suc fuel) f ≡ suc e + height leaf fuel (f / 2) = omega arith in
      let P : D → Type 0 = λ x. (K.depth_of x ≡ suc e + height leaf fuel (f / 2)) ⊎ (K.depth_of x ≡ suc (suc e + height leaf fuel (f / 2))) in
      rw (deep_more K fuel d big, m)
      (all_append P (deep_leaves K fuel (K.left d)) (deep_leaves K fuel (K.right d))
      (deep-near fuel (suc e) (f / 2) (K.left d) (left-next e d z) (K.left-good d g) (omega arith) (omega arith) (omega arith) (omega arith))
      (deep-near fuel (suc e) (f / 2) (K.right d) (right-next e d z) (K.right-good d g) (omega arith) (omega arith) (omega arith) (omega arith))))
      (λ (less : f < 2 * leaf). both fuel e f d z g less big hi h)
      (le-or-lt (2 * leaf) f))
      (λ (small : size_of K d < 2 * leaf).
      let t = height-done leaf fuel f (omega arith) in
      small-depths fuel e d (λ x. (x ≡ e + height leaf (suc fuel) f) ⊎ (x ≡ suc (e + height leaf (suc fuel) f))) z small (inl (omega arith)))
      (le-or-lt (2 * leaf) (size_of K d))
    where
      -- exactly 2 times the threshold: both halves are small
      both : (fuel e f : ℕ) (d : D) → K.depth_of d ≡ e → K.Good d → f < 2 * leaf → 2 * leaf ≤ size_of K d → size_of K d ≤ suc f → size_of K d ≤ suc fuel
          → TwoDepths K.depth_of (e + height leaf (suc fuel) f) (deep_leaves K (suc fuel) d)
      both zero e f d z g less big hi h = absurd (omega arith)
      both (suc fuel) e f d z g less big hi h =
          let a = K.left-size d g in
          let b = K.right-size d g in
          let t = height-done leaf (suc fuel) f less in
          let P : ℕ → Type 0 = λ x. (x ≡ e + height leaf (suc (suc fuel)) f) ⊎ (x ≡ suc (e + height leaf (suc (suc fuel)) f)) in
          rw (deep_more K (suc fuel) d big)
          (all_append (λ (x : D). P (K.depth_of x)) (deep_leaves K (suc fuel) (K.left d)) (deep_leaves K (suc fuel) (K.right d))
          (small-depths fuel (suc e) (K.left d) P (left-next e d z) (omega arith) (inr (omega arith)))
          (small-depths fuel (suc e) (K.right d) P (right-next e d z) (omega arith) (inr (omega arith))))

  -- the first leaf
  pub deep-first : (fuel e : ℕ) (d : D) → K.depth_of d ≡ e → K.Good d → 1 ≤ size_of K d → size_of K d ≤ fuel → least_depth K.depth_of (deep_leaves K fuel d) ≡ e + height leaf fuel (size_of K d)
  deep-first zero e d z g s h = absurd (omega arith)
  deep-first (suc fuel) e d z g s h =
      ⊎_elim
      (λ (big : 2 * leaf ≤ size_of K d).
      let a = K.left-size d g in
      let l = deep_leaves K fuel (K.left d) in
      let r = deep_leaves K fuel (K.right d) in
      let t = height-more leaf fuel (size_of K d) big in
      let n = deep-some fuel (K.left d) (K.left-good d g) (omega arith) (omega arith) in
      let i = deep-first fuel (suc e) (K.left d) (left-next e d z) (K.left-good d g) (omega arith) (omega arith) in
      let i' : least_depth K.depth_of l ≡ suc e + height leaf fuel (size_of K d / 2) = subst (λ (z : ℕ). least_depth K.depth_of l ≡ suc e + height leaf fuel z) a i in
      rw (deep_more K fuel d big, map-append K.depth_of l r, get_or-append (map K.depth_of l) (map K.depth_of r) 0 0 (omega (arith, length-map l K.depth_of)))
      (omega arith))
      (λ (small : size_of K d < 2 * leaf). rw (deep-done K fuel d small, left-next e d z) (omega (arith, height-done leaf fuel (size_of K d) small)))
      (le-or-lt (2 * leaf) (size_of K d))

-- ---- leaves at two depths
module _ {D : Type 0} (depth_of : D → ℕ) where
  pub at_none : (m : ℕ) (fs : List D) → All (λ f. depth_of f ≡ m → ⊥) fs → at_depth depth_of m fs ≡ []
  unfolding All
  at_none m [] h = at-nil depth_of m
  at_none m (f ∷ fs) h = at_other depth_of m f fs h.0 ∙ at_none m fs h.1

  -- what those at the one depth and those at the next have, all have
  pub all_two : (P : D → Type 0) (e : ℕ) (fs : List D) → TwoDepths depth_of e fs → All P (at_depth depth_of e fs) → All P (at_depth depth_of (suc e) fs) → All P fs
  unfolding All
  all_two P e [] two a b = tt
  all_two P e (f ∷ fs) two a b =
      ⊎_elim
      (λ (i : depth_of f ≡ e).
      let a' : All P (f ∷ at_depth depth_of e fs) = rw (at_one depth_of e f fs i) at a in
      let b' : All P (at_depth depth_of (suc e) fs) = rw (at_other depth_of (suc e) f fs (λ q. omega arith)) at b in
      (a'.0, all_two P e fs two.1 a'.1 b'))
      (λ (i : depth_of f ≡ suc e).
      let a' : All P (at_depth depth_of e fs) = rw (at_other depth_of e f fs (λ q. omega arith)) at a in
      let b' : All P (f ∷ at_depth depth_of (suc e) fs) = rw (at_one depth_of (suc e) f fs i) at b in
      (b'.0, all_two P e fs two.1 a' b'.1))
      two.0

  none_of : (fs : List D) (a n : ℕ) → ((m : ℕ) → a ≤ m → m < a + n → at_depth depth_of m fs ≡ []) → joined (map (λ m. at_depth depth_of m fs) (from a n)) ≡ []
  unfolding joined from
  none_of fs a zero h = refl
  none_of fs a (suc n) h = rw (h a (omega arith) (omega arith)) (none_of fs (suc a) n (λ m lo hi. h m (omega arith) (omega arith)))

  last-two : (f : ℕ → List D) (e r : ℕ) → joined (map f (from (suc (suc e)) r)) ≡ [] → joined (map f (from e (suc (suc r)))) ≡ f e ++ f (suc e)
  unfolding joined from
  last-two f e r z = rw z (ap (λ (l : List D). f e ++ l) (append-nil (f (suc e))))

  -- by depth: first those at the one depth, and then those at the next
  pub two-of : (e most : ℕ) (fs : List D) → TwoDepths depth_of e fs → suc e ≤ most → by_depth depth_of most fs ≡ at_depth depth_of e fs ++ at_depth depth_of (suc e) fs
  unfolding by_depth
  two-of e most fs two h =
      let r = most - suc e in
      let f : ℕ → List D = λ m. at_depth depth_of m fs in
      let n : suc most ≡ e + suc (suc r) = omega arith in
      let other : (m : ℕ) → (m ≡ e → ⊥) → (m ≡ suc e → ⊥) → at_depth depth_of m fs ≡ [] =
      λ m x y. at_none m fs (all-imp (λ (f : D). (depth_of f ≡ e) ⊎ (depth_of f ≡ suc e)) (λ (f : D). depth_of f ≡ m → ⊥) fs
      (λ f q p. ⊎_elim (λ (i : depth_of f ≡ e). x (omega arith)) (λ (i : depth_of f ≡ suc e). y (omega arith)) q) two) in
      ap (λ (k : ℕ). joined (map f (from 0 k))) n
      ∙ ap (λ (l : List ℕ). joined (map f l)) (from-append 0 e (suc (suc r)) ∙ ap (λ (k : ℕ). from 0 e ++ from k (suc (suc r))) (zero-add e))
      ∙ joined-map-append f (from 0 e) (from e (suc (suc r)))
      ∙ ap (λ (l : List D). l ++ joined (map f (from e (suc (suc r))))) (none_of fs 0 e (λ m lo hi. other m (λ q. omega arith) (λ q. omega arith)))
      ∙ last-two f e r (none_of fs (suc (suc e)) r (λ m lo hi. other m (λ q. omega arith) (λ q. omega arith)))

-- ---- a level
-- its leaves from left to right
abbrev pub level_leaves : ℕ → List Float → ℕ → List ℕ → List Domain
level_leaves d cs leaf active = leaves_under (level_cuts d cs leaf active)

module _ (d : ℕ) (cs : List Float) (pos : 0 < d) (leaf : ℕ) (lp : 1 ≤ leaf) (active : List ℕ) (g : GoodRows d cs active) (some : 1 ≤ length active) where
  abbrev K : Kind Domain leaf
  K = kind d cs pos leaf lp

  pub level-leaves : deep_leaves (kind d cs pos leaf lp) (length active) (root_domain d cs active) ≡ level_leaves d cs leaf active
  unfolding level_cuts root_domain
  level-leaves = leaves-under d cs pos leaf lp (length active) (root_domain d cs active) g some (omega arith)

  first-depth : least_depth domain_depth (level_leaves d cs leaf active) ≡ height leaf (length active) (length active)
  unfolding root_domain
  first-depth =
      subst (λ (fs : List Domain). least_depth domain_depth fs ≡ height leaf (length active) (length active)) level-leaves
      (deep-first K lp (length active) 0 (root_domain d cs active) refl g some (omega arith) ∙ zero-add (height leaf (length active) (length active)))

  -- the first leaf is one of the least deep, and the others are at its depth or at the next
  pub two-depths : TwoDepths domain_depth (least_depth domain_depth (level_leaves d cs leaf active)) (level_leaves d cs leaf active)
  unfolding root_domain
  two-depths =
      let n = length active in
      rw (first-depth, ← zero-add (height leaf n n))
      (subst (λ (fs : List Domain). TwoDepths domain_depth (0 + height leaf n n) fs) level-leaves
      (deep-near K lp n 0 n (root_domain d cs active) refl g some (omega arith) (omega arith) (omega arith)))

  pub some-leaf : 1 ≤ length (level_leaves d cs leaf active)
  unfolding root_domain
  some-leaf = rw level-leaves at (deep-some K lp (length active) (root_domain d cs active) g some (omega arith))

  -- THE LAW: the level's leaves
  pub by_two : leaves_of d cs leaf active
      ≡ at_depth domain_depth (least_depth domain_depth (level_leaves d cs leaf active)) (level_leaves d cs leaf active)
      ++ at_depth domain_depth (suc (least_depth domain_depth (level_leaves d cs leaf active))) (level_leaves d cs leaf active)
  by_two =
      let fs = level_leaves d cs leaf active in
      let e = least_depth domain_depth fs in
      let most = length active + suc e in
      level-by-depth d cs pos leaf lp active g some most (omega arith) ∙ two-of domain_depth e most fs two-depths (omega arith)

  -- none is deeper than 21, as none of the level's leaves is
  pub depth-most : length active ≤ most_points → All (λ (f : Domain). f.depth ≤ most_depth) (level_leaves d cs leaf active)
  depth-most h =
      let fs = level_leaves d cs leaf active in
      let e = least_depth domain_depth fs in
      let P : Domain → Type 0 = λ f. f.depth ≤ most_depth in
      let one = at_depth domain_depth e fs in
      let next = at_depth domain_depth (suc e) fs in
      let all : All P (leaves_of d cs leaf active) =
      map-all (λ (z : Sized). z.depth ≤ most_depth) sized_of (leaves_of d cs leaf active) (leaves-depths d cs pos leaf lp active (good-good active g) h).at_most in
      let both : All P (one ++ next) = subst (All P) by_two all in
      all_two domain_depth P e fs two-depths (all_left P one next both) (all_right P one next both)

-- ---- the bound is reached

-- down to a leaf threshold of 1, from 2^j rows: they are halved j times, and the last domains are cut once more
pub height-power : (fuel j : ℕ) → 2 ^ j ≤ fuel → height 1 fuel (2 ^ j) ≡ suc j
height-power zero j h = absurd (omega (arith, pow_pos j))
height-power (suc fuel) zero h = height-done 1 fuel 1 (omega arith)
height-power (suc fuel) (suc j) h =
    let p = pow-suc 2 j in
    let some = pow_pos j in
    let half : 2 ^ suc j / 2 ≡ 2 ^ j = omega arith in
    height-more 1 fuel (2 ^ suc j) (omega arith) ∙ ap (λ (f : ℕ). suc (height 1 fuel f)) half ∙ ap suc (height-power fuel j (omega arith))

module _ (d : ℕ) (cs : List Float) (pos : 0 < d) (active : List ℕ) (g : GoodRows d cs active) where
  -- with leaf threshold 1 and 2^j rows the first leaf is at depth j + 1
  pub depth-power : (j : ℕ) → length active ≡ 2 ^ j → least_depth domain_depth (level_leaves d cs 1 active) ≡ suc j
  depth-power j e =
      first-depth d cs pos 1 (omega arith) active g (omega (arith, e, pow_pos j)) ∙ ap (height 1 (length active)) e ∙ height-power (length active) j (omega arith)

  -- so with 1,048,576 rows it is as deep as any leaf can be
  pub depth-reached : length active ≡ most_points → least_depth domain_depth (level_leaves d cs 1 active) ≡ most_depth
  depth-reached e = depth-power 20 e
