-- How many level points, and how many internals, an accepted build over slots writes: the sum of the row counts that it answers.
-- Assumes nothing.
use mathlib.Core.Path.{◌≡◌, refl, sym, ap, ◌∙◌}
use mathlib.Core.List.{List, ◌++◌, map}
use Prim.Native.Nat.{ℕ, zero, suc, ◌+◌, ◌-◌, ◌≤◌, ◌<◌}
use native.Mathlib.Omega.{arith}
use lib.ListN.{length, take, replicate, length-map}
use lib.Seq.{take-append-add}
use lib.Ieee.{Float}
use Rattle.lists.specs.Lists.{total}
use Rattle.lists.specs.Ascends.{All}
use Rattle.lists.proofs.All.{all-mem}
use Rattle.lists.proofs.Take.{take-replicate}
use Rattle.lists.proofs.Sums.{total-append, sum_same}
use Rattle.definition.specs.Levels.{threshold, reductions}
use Rattle.definition.specs.Tree.{Settings, Leaf, Level, coarse_level_lem, fine_level_lem, most_fine, levels_over}
use Rattle.definition.specs.Packed.{packed_level_points, packed_internals, most_levels, per_level, counts_of}
use Rattle.definition.specs.Refusals.{accepted}
use Rattle.definition.specs.Outcome.{RecordLists, TreeLists, value_of, lent_sizes}
use Rattle.definition.specs.Table.{Table}
use Rattle.definition.specs.Slots.{rows_of, slot_levels, slots_call, slots_answer}
use Rattle.definition.proofs.Steps.{fine_of}
use Rattle.definition.proofs.FineLeaves.{fine-map}
use Rattle.definition.proofs.Cuts.{Good, leaves-sum}
use Rattle.definition.proofs.Levels.{next-good, levels-all}
use Rattle.definition_laws.proofs.Fit.{length-points, length-own, packed_fit}
use Rattle.rows.proofs.Good.{good-good}
use Rattle.table_laws.proofs.Slots.{slots-accepted}

-- ---- the numbers of all levels add up to those that are reported
zeros : (k : ℕ) → total (replicate k 0) ≡ 0
unfolding total
zeros zero = refl
zeros (suc k) = omega (arith, zeros k)

per-total : (f : Level → ℕ) (ls : List Level) → length ls ≤ most_levels → total (per_level f ls) ≡ total (map f ls)
unfolding per_level
per-total f ls few =
    let k = most_levels - length ls in
    let e : most_levels ≡ length (map f ls) + k = omega (arith, length-map ls f) in
    ap (λ (m : ℕ). total (take m (map f ls ++ replicate most_levels 0))) e
    ∙ ap total (take-append-add (map f ls) (replicate most_levels 0) k ∙ ap (λ (l : List ℕ). map f ls ++ l) (take-replicate k most_levels 0 (omega arith)))
    ∙ omega (arith, total-append (map f ls) (replicate k 0), zeros k)

-- ---- the leaves of a level have its rows
abbrev own_in_lem : Level → ℕ
own_in_lem l = total (map (λ (f : Leaf). length f.own) l.leaves)

module _ (s : Settings) (cs : List Float) (some : 0 < s.dimension) (leaf : 1 ≤ s.leaf) where
  fine-own : (size : ℕ) (active : List ℕ) → Good s.dimension cs active → 0 < length active → own_in_lem (fine_of s cs size active) ≡ length (fine_of s cs size active).points
  unfolding fine_level_lem
  fine-own size active good many =
      ap total (fine-map s cs size active (λ f. length f.own) (λ q. length q.rows) (λ q sent. refl)) ∙ leaves-sum s.dimension cs some s.leaf leaf active good many

  coarse-own : (active : List ℕ) → own_in_lem (coarse_level_lem s.dimension active) ≡ length (coarse_level_lem s.dimension active).points
  unfolding coarse_level_lem total
  coarse-own active = omega arith

  own-points : (active : List ℕ) → Good s.dimension cs active → All (λ l. own_in_lem l ≡ length l.points) (levels_over s cs active)
  unfolding levels_over
  own-points active good =
      let n = length active in
      let c = threshold s.policy n in
      levels-all s cs c (reductions n c s.factor) (Good s.dimension cs) (λ rows sent g. next-good rows sent s.dimension cs g) (λ l. own_in_lem l ≡ length l.points)
      (λ size rows g h. fine-own size rows g (omega arith)) (λ rows g. coarse-own rows) most_fine 0 active good

  counts-sum : (active : List ℕ) → Good s.dimension cs active
      → (length (packed_level_points (levels_over s cs active)) ≡ total (counts_of (levels_over s cs active)).rows)
      × (length (packed_internals (levels_over s cs active)) ≡ total (counts_of (levels_over s cs active)).rows)
  unfolding counts_of
  counts-sum active good =
      let ls = levels_over s cs active in
      let sums = sym (per-total (λ l. length l.points) ls (packed_fit s cs active some leaf good).few) in (
        length-points ls ∙ sums,
        length-own ls ∙ sum_same own_in_lem (λ l. length l.points) ls (all-mem (λ l. own_in_lem l ≡ length l.points) ls (own-points active good)) ∙ sums,
      )

-- ---- THE LAW
module _ (s : Settings) (t : Table) (old : TreeLists) (floats : List Float) (wholes : List ℕ) (records : RecordLists) where
  pub slots_counts : slots_call s t old floats wholes records ≡ accepted
      → (length (packed_level_points (slot_levels s t)) ≡ total (slots_answer s t old floats wholes records).value.rows)
      × (length (packed_internals (slot_levels s t)) ≡ total (slots_answer s t old floats wholes records).value.rows)
  unfolding slots_answer slot_levels value_of
  slots_counts e =
      let a = slots-accepted s t (lent_sizes old floats wholes records) e in
      rw e (counts-sum s t.coordinates a.passes-all.axes a.passes-all.leaf_some (rows_of t) (good-good (rows_of t) a.good))
