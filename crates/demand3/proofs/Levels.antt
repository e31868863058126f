-- The levels of an accepted call: each level whose active rows outnumber c is a fine level over them, and the next one lists what it
-- sends up. They end: with the reductions made, c rows or fewer are left. Assumes nothing.
-- Holds: Levelled, levelled, IsFine, first-active, some-levels, fine-at, coarse-at
use mathlib.Core.Path.{◌≡◌, refl, subst}
use mathlib.Core.Logic.{⊎_elim}
use mathlib.Core.List.{List, [], ◌∷◌}
use Prim.Native.Nat.{ℕ, zero, suc, ◌+◌, ◌-◌, ◌≤◌, ◌<◌}
use native.Mathlib.Omega.{arith}
use lib.ListN.{length, get_or}
use lib.Ieee.{Float}
use Rattle.lists.proofs.Tests.{le-or-lt}
use Rattle.definition.specs.Tree.{Settings, Level, coarse_level_lem, fine_level_lem, reductions_left, levels_from}
use Rattle.definition.proofs.Cuts.{Good}
use Rattle.definition.proofs.Steps.{fine_of, size_from, next_of, sent_from, levels-last, levels-end, levels-more}
use Rattle.definition.proofs.Levels.{next-good}
use Rattle.definition.proofs.OneLevel.{one-level}
use Rattle.definition.proofs.Sizes.{sized}
use Rattle.packed.proofs.Counts.{no_level}

-- the levels over the active rows, `built` fine levels standing before them
pub data Levelled (s : Settings) (cs : List Float) (c k : ℕ) : ℕ → List ℕ → List Level → Type 0 where
  last : {built : ℕ} {active : List ℕ} → length active ≤ c → Levelled s cs c k built active (coarse_level_lem s.dimension active ∷ [])
  more : {built : ℕ} {active : List ℕ} {ls : List Level} → Good s.dimension cs active → c < length active
      → Levelled s cs c k (suc built) (next_of s cs c k built active) ls → Levelled s cs c k built active (fine_of s cs (size_from c k built active) active ∷ ls)

module _ (s : Settings) (cs : List Float) (c k : ℕ) (pos : 0 < s.dimension) (lp : 1 ≤ s.leaf) (cp : 1 ≤ c) where
  -- ---- a fine level over active rows that outnumber c
  module _ (built : ℕ) (active : List ℕ) (g : Good s.dimension cs active) (h : c < length active) where
    -- with one reduction left, c rows are left after it
    next-few : built < k → c < length (next_of s cs c k built active) → suc built < k
    next-few l m =
        ⊎_elim
        (λ (e : k ≤ suc built).
        let o : reductions_left k built ≡ 1 = omega arith in
        absurd (omega (arith, (one-level s cs c k built active pos lp cp g h).next_size, (sized (length active) c (reductions_left k built) cp h (omega arith)).last o)))
        (λ e. e)
        (le-or-lt k (suc built))

  -- ---- the levels are so: the fuel is enough
  pub levelled : (fuel built : ℕ) (active : List ℕ) → Good s.dimension cs active → (c < length active → built < k) → k - built ≤ fuel
      → Levelled s cs c k built active (levels_from s cs c k fuel built active)
  levelled zero built active g h l =
      ⊎_elim
      (λ (e : length active ≤ c). rw (levels-last s cs c k built active) (last e))
      (λ (e : c < length active). absurd (omega (arith, h e)))
      (le-or-lt (length active) c)
  levelled (suc fuel) built active g h l =
      ⊎_elim
      (λ (e : length active ≤ c). rw (levels-end s cs c k fuel built active e) (last e))
      (λ (e : c < length active). rw (levels-more s cs c k fuel built active e)
      (more g e (levelled fuel (suc built) (next_of s cs c k built active) (next-good active (sent_from s cs c k built active) s.dimension cs g) (next-few built active g e (h e)) (omega arith))))
      (le-or-lt (length active) c)

-- ---- reading the levels
module _ (s : Settings) (cs : List Float) (c k : ℕ) where
  -- a fine level with this many before it, and the level after it
  pub record IsFine (built : ℕ) (level next : Level) : Type 0 where
    pub good : Good s.dimension cs level.points
    pub outnumbers : c < length level.points
    pub fine : level ≡ fine_of s cs (size_from c k built level.points) level.points
    pub sent : next.points ≡ next_of s cs c k built level.points

  pub first-active : {built : ℕ} {active : List ℕ} {ls : List Level} → Levelled s cs c k built active ls → (get_or ls 0 no_level).points ≡ active
  unfolding coarse_level_lem fine_level_lem
  first-active (last h) = refl
  first-active (more g h t) = refl

  pub some-levels : {built : ℕ} {active : List ℕ} {ls : List Level} → Levelled s cs c k built active ls → 1 ≤ length ls
  some-levels (last h) = omega arith
  some-levels (more g h t) = omega arith

  -- each level but the last is fine
  pub fine-at : {built : ℕ} {active : List ℕ} {ls : List Level} → Levelled s cs c k built active ls → (l : ℕ) → suc l < length ls
      → IsFine (built + l) (get_or ls l no_level) (get_or ls (suc l) no_level)
  unfolding fine_level_lem
  fine-at (last h) l m = absurd (omega arith)
  fine-at {built = built} {active = active} (more {ls = ls} g h t) zero m =
      record {
        good = g;
        outnumbers = h;
        fine = subst (λ (n : ℕ). fine_of s cs (size_from c k built active) active ≡ fine_of s cs (size_from c k n active) active) (zero_of built) refl;
        sent = subst (λ (n : ℕ). (get_or ls 0 no_level).points ≡ next_of s cs c k n active) (zero_of built) (first-active t);
      }
    where
      zero_of : (b : ℕ) → b ≡ b + 0
      zero_of b = omega arith
  fine-at {built = built} (more {ls = ls} g h t) (suc l) m =
      subst (λ (n : ℕ). IsFine n (get_or ls l no_level) (get_or ls (suc l) no_level)) (next-of built l) (fine-at t l (omega arith))
    where
      next-of : (b l : ℕ) → suc b + l ≡ b + suc l
      next-of b l = omega arith

  -- the last is the coarse level over its rows, which are at most c
  pub coarse-at : {built : ℕ} {active : List ℕ} {ls : List Level} → Levelled s cs c k built active ls → (l : ℕ) → suc l ≡ length ls
      → (get_or ls l no_level ≡ coarse_level_lem s.dimension (get_or ls l no_level).points) × (length (get_or ls l no_level).points ≤ c)
  unfolding coarse_level_lem
  coarse-at (last h) zero m = (refl, h)
  coarse-at (last h) (suc l) m = absurd (omega arith)
  coarse-at (more g h t) zero m = absurd (omega (arith, some-levels t))
  coarse-at (more g h t) (suc l) m = coarse-at t l (omega arith)
