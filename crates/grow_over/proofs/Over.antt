-- The levels over given rows as the loop builds them, what they come to, and the room that is lent for them. Assumes nothing.
-- Holds: same-levels, same-records, tree_is, lent-space, lent-records, points-whole, counts_whole, records-whole
use mathlib.Core.Path.{◌≡◌, refl, sym, ap, ◌∙◌}
use mathlib.Core.Logic.{⊎_elim}
use mathlib.Core.List.{List, ◌∷◌, map}
use Prim.Native.Nat.{ℕ, zero, suc, ◌+◌, ◌*◌, ◌≤◌, ◌<◌}
use native.Mathlib.Omega.{arith}
use native.Mathlib.Nat.{mul_assoc}
use lib.ListN.{length, replicate}
use lib.Ieee.{Float}
use Rattle.lists.specs.Lists.{put}
use Rattle.lists.proofs.Tests.{le-or-lt}
use Rattle.lists.proofs.Put.{put-again}
use Rattle.definition.specs.Levels.{threshold, reductions}
use Rattle.definition.specs.Tree.{Settings, Level, most_fine, levels_from, levels_over}
use Rattle.definition.specs.Packed.{row_floats_lem, most_rows, tree_stated, build_stated, packed_level_points, counts_of}
use Rattle.definition.specs.Outcome.{RecordLists, TreeLists, lent_sizes}
use Rattle.definition.specs.Record.{Node, nodes_in}
use Rattle.definition.proofs.Steps.{fine_of, size_from, next_of, levels-last, levels-end, levels-more}
use Rattle.definition_laws.proofs.Accepted.{LentEnough}
use Rattle.levels_loop.specs.After.{level_settings, levels_after, Space}
use Rattle.levels_loop.specs.Records.{RecordRoom}
use Rattle.levels_loop.proofs.Fine.{first-points, levels-few}
use Rattle.packed.proofs.Counts.{counts-put}

-- ---- the levels depend on three of the settings
module _ (s : Settings) (cs : List Float) (c k : ℕ) where
  pub same-levels : (fuel built : ℕ) (active : List ℕ)
      → levels_from s cs c k fuel built active ≡ levels_from (level_settings s.dimension s.leaf s.neighbours) cs c k fuel built active
  same-levels zero built active =
      levels-last s cs c k built active ∙ sym (levels-last (level_settings s.dimension s.leaf s.neighbours) cs c k built active)
  same-levels (suc fuel) built active =
      let r = level_settings s.dimension s.leaf s.neighbours in
      ⊎_elim
      (λ (few : length active ≤ c). levels-end s cs c k fuel built active few ∙ sym (levels-end r cs c k fuel built active few))
      (λ (many : c < length active). levels-more s cs c k fuel built active many
      ∙ ap (λ (ls : List Level). fine_of s cs (size_from c k built active) active ∷ ls) (same-levels fuel (suc built) (next_of s cs c k built active))
      ∙ sym (levels-more r cs c k fuel built active many))
      (le-or-lt (length active) c)

-- so do their records
pub same-records : (s : Settings) (cs : List Float) (ls : List Level)
    → nodes_in (level_settings s.dimension s.leaf s.neighbours) cs ls ≡ nodes_in s cs ls
unfolding nodes_in
same-records s cs ls = refl

-- the levels over n rows
pub tree_is : (s : Settings) (cs : List Float) (rows : List ℕ) (n c k : ℕ) → length rows ≡ n → c ≡ threshold s.policy n → k ≡ reductions n c s.factor
    → levels_over s cs rows ≡ levels_after s.dimension cs s.leaf s.neighbours c k 0 rows
unfolding levels_over
tree_is s cs rows n c k en ec ek = rw (en, ← ec, ← ek) (same-levels s cs c k most_fine 0 rows)

-- ---- room for the levels over n rows, in lists that are as long as a build is to be lent
pub lent-space : (d neighbours n : ℕ) (old : TreeLists) (floats : List Float) (wholes : List ℕ) (records : RecordLists) → LentEnough (lent_sizes old floats wholes records) (build_stated d n neighbours)
    → (P : List ℕ) → length P ≡ length old.level_points
    → Space d neighbours n most_fine P old.internals old.domains old.boxes old.borrowed floats wholes 0 0 0
unfolding build_stated tree_stated
lent-space d neighbours n old floats wholes records enough P e = record {
  level_points = omega (arith, enough.tree.level_points, e);
  internals = omega (arith, enough.tree.internals);
  domains = omega (arith, enough.tree.domains);
  boxes = rows enough.tree.boxes;
  borrowed = omega (arith, enough.tree.borrowed, three n (neighbours + 1));
  floats = omega (arith, enough.floats);
  wholes = omega (arith, enough.wholes);
}
  where
    six : (n : ℕ) → 0 + 3 * (2 * n) + 1 ≡ 6 * n + 1
    six n = omega arith

    three : (n q : ℕ) → 3 * (2 * n * q) ≡ 6 * n * q
    three n q = sym (mul_assoc 3 (2 * n) q) ∙ ap (λ (m : ℕ). m * q) (twice n)
      where
        twice : (n : ℕ) → 3 * (2 * n) ≡ 6 * n
        twice n = omega arith

    rows : {L : ℕ} → row_floats_lem d * most_rows n ≤ L → row_floats_lem d * (0 + 3 * (2 * n) + 1) ≤ L
    rows h = rw (six n) h

-- and for the records of their cuts
pub lent-records : (d neighbours n : ℕ) (old : TreeLists) (floats : List Float) (wholes : List ℕ) (records : RecordLists) → LentEnough (lent_sizes old floats wholes records) (build_stated d n neighbours)
    → RecordRoom n records.cuts records.planes
unfolding build_stated
lent-records d neighbours n old floats wholes records enough = (omega (arith, enough.cuts), omega (arith, enough.planes))

-- ---- the level points begin with the rows, which are written first
pub points-whole : (s : Settings) (cs : List Float) (rows P P₁ P₂ : List ℕ) → length rows ≤ length P → P₁ ≡ put P 0 rows
    → P₂ ≡ put P₁ 0 (packed_level_points (levels_over s cs rows)) → P₂ ≡ put P 0 (packed_level_points (levels_over s cs rows))
unfolding levels_over
points-whole s cs rows P P₁ P₂ h e₁ e₂ =
    let n = length rows in
    let c = threshold s.policy n in
    let f = first-points s cs c (reductions n c s.factor) most_fine 0 rows in
    e₂ ∙ rw (e₁, f.1) (put-again P 0 rows f.0 (omega arith))

-- ---- what the levels answer, as the definition counts it
pub counts_whole : (d : ℕ) (cs : List Float) (leaf q c k : ℕ) (active : List ℕ) (number : ℕ) (rows counts : List ℕ)
    → number ≡ length (levels_after d cs leaf q c k 0 active) → rows ≡ put (replicate 4 0) 0 (map (λ (l : Level). length l.points) (levels_after d cs leaf q c k 0 active))
    → counts ≡ put (replicate 4 0) 0 (map (λ (l : Level). length l.leaves) (levels_after d cs leaf q c k 0 active))
    → record { levels = number; rows = rows; domains = counts } ≡ counts_of (levels_after d cs leaf q c k 0 active)
unfolding counts_of
counts_whole d cs leaf q c k active number rows counts e₁ e₂ e₃ =
    let few = levels-few (level_settings d leaf q) cs c k most_fine 0 active in
    let ls = levels_after d cs leaf q c k 0 active in
    rw (e₁, e₂, e₃, counts-put (λ (l : Level). length l.points) ls few, counts-put (λ (l : Level). length l.leaves) ls few)

-- ---- a list of the records, which takes `f` of each node
pub records-whole : {A : Type 0} (f : Node → A) (s : Settings) (cs : List Float) (tree ls : List Level) (X X₁ : List A) → tree ≡ ls
    → X₁ ≡ put X 0 (map f (nodes_in (level_settings s.dimension s.leaf s.neighbours) cs ls)) → X₁ ≡ put X 0 (map f (nodes_in s cs tree))
records-whole f s cs tree ls X X₁ t e = e ∙ rw (t, same-records s cs ls)
