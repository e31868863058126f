-- The shape of a tree (`Shaped`): one to four levels, of which the last has one leaf, and boxes of two bounds on each axis.
-- `levels-shaped` has it of the levels from any on, `tree-shaped` of the tree. Assumes nothing.
use mathlib.Core.Path.{◌≡◌, refl, ap, ◌∙◌}
use mathlib.Core.Logic.{⊎_elim}
use Prim.Native.Nat.{ℕ, zero, suc, ◌-◌, ◌≤◌, ◌<◌}
use native.Mathlib.Omega.{arith}
use mathlib.Core.List.{List, [], ◌∷◌, map}
use lib.ListN.{length, get_or, length-replicate}
use lib.Ieee.{Float}
use Rattle.lists.specs.Lists.{joined, from}
use Rattle.lists.specs.Ascends.{All}
use Rattle.lists.proofs.Tests.{le-or-lt}
use Rattle.lists.proofs.All.{all_append}
use Rattle.definition.specs.Number.{plus_zero}
use Rattle.definition.specs.Levels.{threshold, reductions}
use Rattle.definition.specs.Cut.{Domain}
use Rattle.definition.specs.Tree.{Settings, Leaf, Level, coarse_level_lem, most_fine, levels_from, levels_over, point_count, levels}
use Rattle.definition.specs.Points.{box_width_lem}
use Rattle.definition.specs.Packed.{leaves_in_lem}
use Rattle.definition.proofs.Steps.{fine_of, size_from, next_of, levels-last, levels-end, levels-more}
use Rattle.definition.proofs.FineLeaves.{fine-each}
use Rattle.definition_laws.proofs.Shape.{leaves-boxes}

-- a tree of at most `most` levels over points with boxes of w bounds
pub record Shaped (w most : ℕ) (ls : List Level) : Type 0 where
  pub some : 1 ≤ length ls
  pub few : length ls ≤ most
  pub last : get_or (map (λ (l : Level). length l.leaves) ls) (length ls - 1) 0 ≡ 1
  pub wide : All (λ (f : Leaf). length f.box ≡ w) (leaves_in_lem ls)

shaped-more : (w most : ℕ) (l : Level) (ls : List Level) → All (λ (f : Leaf). length f.box ≡ w) l.leaves → Shaped w most ls → Shaped w (suc most) (l ∷ ls)
unfolding leaves_in_lem joined
shaped-more w most l ls a s =
    let k : suc (length ls) - 1 ≡ suc (length ls - 1) = omega (arith, s.some) in
    record {
      some = omega arith;
      few = omega (arith, s.few);
      last = ap (λ (i : ℕ). get_or (map (λ (l : Level). length l.leaves) (l ∷ ls)) i 0) k ∙ s.last;
      wide = all_append (λ (f : Leaf). length f.box ≡ w) l.leaves _ a s.wide;
    }

shaped-one : (d most : ℕ) (active : List ℕ) → 1 ≤ most → Shaped (box_width_lem d) most (coarse_level_lem d active ∷ [])
unfolding leaves_in_lem joined coarse_level_lem All
shaped-one d most active h =
    record { some = omega arith; few = h; last = refl; wide = (length-replicate (box_width_lem d) plus_zero, tt) }

fine-wide : (s : Settings) (cs : List Float) (size : ℕ) (active : List ℕ)
    → All (λ (f : Leaf). length f.box ≡ box_width_lem s.dimension) (fine_of s cs size active).leaves
fine-wide s cs size active =
    let d = s.dimension in
    fine-each s cs size active (λ (q : Domain). length q.box ≡ box_width_lem d) (λ (f : Leaf). length f.box ≡ box_width_lem d) (λ q sent h. h)
    (leaves-boxes d cs s.leaf active)

module _ (s : Settings) (cs : List Float) (c k : ℕ) where
  pub levels-shaped : (fuel built : ℕ) (active : List ℕ) → Shaped (box_width_lem s.dimension) (suc fuel) (levels_from s cs c k fuel built active)
  levels-shaped zero built active = rw (levels-last s cs c k built active) (shaped-one s.dimension 1 active (omega arith))
  levels-shaped (suc fuel) built active =
      ⊎_elim
      (λ (few : length active ≤ c). rw (levels-end s cs c k fuel built active few) (shaped-one s.dimension (suc (suc fuel)) active (omega arith)))
      (λ (many : c < length active). rw (levels-more s cs c k fuel built active many)
      (shaped-more (box_width_lem s.dimension) (suc fuel) (fine_of s cs (size_from c k built active) active) _ (fine-wide s cs (size_from c k built active) active)
      (levels-shaped fuel (suc built) (next_of s cs c k built active))))
      (le-or-lt (length active) c)

pub tree-shaped : (s : Settings) (cs : List Float) → Shaped (box_width_lem s.dimension) (suc most_fine) (levels s cs)
unfolding levels levels_over
tree-shaped s cs =
    let active = from 0 (point_count s.dimension cs) in
    let c = threshold s.policy (length active) in
    levels-shaped s cs c (reductions (length active) c s.factor) most_fine 0 active
