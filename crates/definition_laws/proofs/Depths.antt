-- The depths of a level's leaves, over the shape alone: in the queue they never fall and differ by at most 1, so in the order of the leaves
-- they never fall; a leaf at depth e of a level of a rows has a / 2^e of them, rounded down, or one more; none is deeper than 21. Assumes nothing.
-- Holds: shape-falls, Halved, size-at-depth, shape-sizes, Above, shape-deepest, DepthsHold, shape-depths, leaves-depths,
--   leaf_sized, LevelHolds, root-depths, fine-holds, coarse-holds
use mathlib.Core.Path.{◌≡◌, refl, sym, ap, ◌∙◌}
use mathlib.Core.Logic.{◌⊎◌, inl, inr, ⊎_elim}
use mathlib.Core.List.{List, [], ◌∷◌, ◌++◌, map, map-append}
use Prim.Native.Nat.{ℕ, zero, suc, ◌+◌, ◌-◌, ◌*◌, ◌/◌, ◌^◌, ◌≤◌, ◌<◌}
use native.Mathlib.Omega.{arith}
use native.Mathlib.Nat.{pow-suc, div-div-eq-div-mul}
use lib.ListN.{length}
use lib.Ieee.{Float}
use Rattle.lists.specs.Ascends.{All, NeverFalls}
use Rattle.lists.proofs.Tests.{le-or-lt}
use Rattle.lists.proofs.All.{all_append, all-imp, all_map}
use Rattle.lists.proofs.NeverFalls.{falls-lower, falls-two}
use Rattle.definition.specs.Cut.{leaves_of}
use Rattle.definition.specs.Tree.{Settings, Leaf, Level, coarse_level_lem, fine_level_lem, most_depth}
use Rattle.definition.specs.Refusals.{most_points}
use Rattle.definition.proofs.Cuts.{Good}
use Rattle.definition.proofs.Steps.{fine_of}
use Rattle.definition.proofs.FineLeaves.{fine-map}
use Rattle.definition_laws.specs.Shape.{Sized, left_sized, right_sized, shape_queue, shape}
use Rattle.definition_laws.proofs.Shape.{shape-wait, shape-done, shape-all, sized_of, leaves-shape}

abbrev depths : List Sized → List ℕ
depths zs = map (λ z. z.depth) zs

-- ---- in order
module _ (leaf : ℕ) where
  -- a queue in which depths never fall, from e on, and none is above the next
  pub shape-falls : (fuel e : ℕ) (zs : List Sized) → NeverFalls e (map (λ z. z.depth) zs) → All (λ z. z.depth ≤ suc e) zs
      → NeverFalls (suc e) (map (λ z. z.depth) (shape_queue leaf fuel zs))
  unfolding All NeverFalls shape_queue
  shape-falls zero e zs f h = tt
  shape-falls (suc fuel) e [] f h = tt
  shape-falls (suc fuel) e (z ∷ zs) f h =
      let m = z.depth in
      let near : All (λ (z : Sized). z.depth ≤ suc m) zs = all-imp (λ (z : Sized). z.depth ≤ suc e) (λ (z : Sized). z.depth ≤ suc m) zs (λ z u. omega (arith, f.0)) h.1 in
      ⊎_elim
      (λ (big : 2 * leaf ≤ z.size). rw (shape-wait leaf fuel z zs big)
      (falls-lower (suc e) (suc m) (depths (shape_queue leaf fuel (zs ++ left_sized z ∷ right_sized z ∷ []))) (omega (arith, f.0))
      (shape-falls fuel m (zs ++ left_sized z ∷ right_sized z ∷ [])
      (rw (map-append (λ (z : Sized). z.depth) zs (left_sized z ∷ right_sized z ∷ []))
      (falls-two m (suc m) (depths zs) (omega arith) (all_map (λ (y : ℕ). y ≤ suc m) (λ (z : Sized). z.depth) zs near) f.1))
      (all_append (λ (z : Sized). z.depth ≤ suc m) zs (left_sized z ∷ right_sized z ∷ []) near (omega arith, (omega arith, tt))))))
      (λ (small : z.size < 2 * leaf). rw (shape-done leaf fuel z zs small) (omega (arith, f.0), (omega arith, shape-falls fuel m zs f.1 near)))
      (le-or-lt (2 * leaf) z.size)

-- ---- sizes

-- so many rows does a domain at depth e have, where a are halved: a / 2^e, rounded down, or one more
abbrev pub Halved : ℕ → ℕ → ℕ → Type 0
Halved a e w = (w ≡ a / 2 ^ e) ⊎ (w ≡ a / 2 ^ e + 1)

-- both halves have that too
pub size-at-depth : (a : ℕ) (z : Sized) → Halved a z.depth z.size → Halved a (suc z.depth) (z.size / 2) × Halved a (suc z.depth) (z.size - z.size / 2)
size-at-depth a z h =
    let f = a / 2 ^ z.depth in
    let half : a / 2 ^ suc z.depth ≡ f / 2 = ap (λ (p : ℕ). a / p) (pow-suc 2 z.depth) ∙ sym (div-div-eq-div-mul a (2 ^ z.depth) 2) in (
      both f half (z.size / 2) (⊎_elim (λ (e : z.size ≡ f). omega arith) (λ (e : z.size ≡ f + 1). omega arith) h) (⊎_elim (λ (e : z.size ≡ f). omega arith) (λ (e : z.size ≡ f + 1). omega arith) h),
      both f half (z.size - z.size / 2) (⊎_elim (λ (e : z.size ≡ f). omega arith) (λ (e : z.size ≡ f + 1). omega arith) h) (⊎_elim (λ (e : z.size ≡ f). omega arith) (λ (e : z.size ≡ f + 1). omega arith) h),
    )
  where
    both : (f : ℕ) → a / 2 ^ suc z.depth ≡ f / 2 → (w : ℕ) → f / 2 ≤ w → w ≤ f / 2 + 1 → Halved a (suc z.depth) w
    both f half w lo hi = rw half (⊎_elim (λ (g : w ≤ f / 2). inl (omega arith)) (λ (g : f / 2 < w). inr (omega arith)) (le-or-lt w (f / 2)))

pub shape-sizes : (leaf a fuel : ℕ) (zs : List Sized) → All (λ z. Halved a z.depth z.size) zs → All (λ z. Halved a z.depth z.size) (shape_queue leaf fuel zs)
shape-sizes leaf a fuel zs h =
    shape-all leaf (λ z. Halved a z.depth z.size) (λ z. Halved a z.depth z.size) (λ z u big. size-at-depth a z u) (size-at-depth a) fuel zs h

-- ---- the deepest

-- one that waits is at most j cuts above depth m, where it has at most 2^j rows
pub record Above (m : ℕ) (z : Sized) : Type 0 where
  pub left : ℕ
  pub to : z.depth + left ≡ m
  pub few : z.size ≤ 2 ^ left

above-wait : (m : ℕ) (z : Sized) → Above m z → 2 ≤ z.size → Above m (left_sized z) × Above m (right_sized z)
above-wait m z h big = go h.left h.to h.few
  where
    go : (j : ℕ) → z.depth + j ≡ m → z.size ≤ 2 ^ j → Above m (left_sized z) × Above m (right_sized z)
    go zero e f = absurd (omega arith)
    go (suc j) e f =
        let p = pow-suc 2 j in
        (record { left = j; to = omega arith; few = omega arith }, record { left = j; to = omega arith; few = omega arith })

pub shape-deepest : (leaf m fuel : ℕ) (zs : List Sized) → 1 ≤ leaf → All (Above m) zs → All (λ z. z.depth ≤ suc m) (shape_queue leaf fuel zs)
shape-deepest leaf m fuel zs lp h =
    shape-all leaf (Above m) (λ z. z.depth ≤ suc m) (λ z u big. above-wait m z u (omega arith)) (λ z u. (omega (arith, u.to), omega (arith, u.to))) fuel zs h

-- ---- together

-- what holds of the sizes and depths of a level's leaves, where a rows are halved
pub record DepthsHold (a : ℕ) (zs : List Sized) : Type 0 where
  pub never_fall : NeverFalls 0 (map (λ z. z.depth) zs)
  pub at_most : All (λ z. z.depth ≤ most_depth) zs
  pub halved : All (λ z. Halved a z.depth z.size) zs

abbrev root_of : ℕ → Sized
root_of a = record { size = a; depth = 0 }

root-halved : (a : ℕ) → Halved a 0 a
root-halved a = inl (omega arith)

pub shape-depths : (leaf a : ℕ) → 1 ≤ leaf → a ≤ most_points → DepthsHold a (shape leaf a)
unfolding shape All NeverFalls
shape-depths leaf a lp few =
    record {
      never_fall = falls-lower 0 1 (depths (shape_queue leaf (2 * a) (root_of a ∷ []))) (omega arith) (shape-falls leaf (2 * a) 0 (root_of a ∷ []) (omega arith, tt) (omega arith, tt));
      at_most = shape-deepest leaf 20 (2 * a) (root_of a ∷ []) lp (record { left = 20; to = omega arith; few = few }, tt);
      halved = shape-sizes leaf a (2 * a) (root_of a ∷ []) (root-halved a, tt);
    }

-- THE LAW: of the leaves of a level, in their order
pub leaves-depths : (d : ℕ) (cs : List Float) → 0 < d → (leaf : ℕ) → 1 ≤ leaf → (active : List ℕ) → Good d cs active → length active ≤ most_points
    → DepthsHold (length active) (map sized_of (leaves_of d cs leaf active))
leaves-depths d cs pos leaf lp active g few = rw (leaves-shape d cs pos leaf active g) (shape-depths leaf (length active) lp few)

-- of a level as it is packed and stored
abbrev pub leaf_sized : Leaf → Sized
leaf_sized f = record { size = length f.own; depth = f.depth }

abbrev pub LevelHolds : Level → Type 0
LevelHolds l = DepthsHold (length l.points) (map leaf_sized l.leaves)

-- and of a single domain at depth 0 that holds all rows, as the coarse one
pub root-depths : (a : ℕ) → DepthsHold a (record { size = a; depth = 0 } ∷ [])
unfolding All NeverFalls
root-depths a = record { never_fall = (omega arith, tt); at_most = (omega arith, tt); halved = (root-halved a, tt) }

-- THE LAW of a fine level, and of the coarse one
pub fine-holds : (s : Settings) (cs : List Float) → 0 < s.dimension → 1 ≤ s.leaf → (size : ℕ) (active : List ℕ) → Good s.dimension cs active → length active ≤ most_points
    → LevelHolds (fine_of s cs size active)
unfolding fine_level_lem
fine-holds s cs pos lp size active g few =
    rw (fine-map s cs size active leaf_sized sized_of (λ q sent. refl)) (leaves-depths s.dimension cs pos s.leaf lp active g few)

pub coarse-holds : (d : ℕ) (active : List ℕ) → LevelHolds (coarse_level_lem d active)
unfolding coarse_level_lem
coarse-holds d active = root-depths (length active)
