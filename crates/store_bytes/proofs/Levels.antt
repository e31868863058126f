-- The records of levels, from the packed lists and the counts: a level's own, then those of the levels after it. Assumes nothing.
use mathlib.Core.Path.{◌≡◌, refl, sym, ap, ◌∙◌}
use mathlib.Core.Bool.{true, false}
use Prim.Native.Nat.{ℕ, zero, suc, ◌+◌, ◌-◌, ◌≤◌, ◌<◌}
use native.Mathlib.Numerals.{add-one}
use native.Mathlib.Omega.{arith}
use mathlib.Core.List.{List, [], ◌∷◌, map, append-nil}
use lib.ListN.{get_or, take, drop}
use lib.Dec.{eqb}
use borrow.Author.Tests.{eq-eqb, ne_eqb}
use Rattle.lists.specs.Lists.{joined, total, from}
use Rattle.lists.proofs.Put.{part-lent}
use Rattle.lists.proofs.Joined.{joined-append}
use Rattle.definition.specs.Tree.{Level}
use Rattle.packed.specs.Reading.{Packed, read_leaves, read_level, read_levels, Stands}
use Rattle.stored.specs.File.{level_bytes, domain_bytes, tree_records}
use Rattle.store_records.specs.Records.{bounds_given, domain_record}
use Rattle.store_bytes.specs.Runs.{domain_records, level_of, level_records}

-- ---- the last level, and one that is not
last-level : (l : Level) → joined (tree_records (l ∷ [])) ≡ joined (level_records true l ∷ tree_records [])
unfolding tree_records level_records domain_records domain_record bounds_given joined
last-level l = sym (append-nil _)

fine-level : (l m : Level) (ls : List Level) → joined (tree_records (l ∷ m ∷ ls)) ≡ joined (level_records false l ∷ tree_records (m ∷ ls))
unfolding tree_records level_records domain_records domain_record bounds_given joined
fine-level l m ls = joined-append (level_bytes l ∷ map (λ f. domain_bytes f.box f) l.leaves) (tree_records (m ∷ ls))

module _ (level : ℕ → Level) where
  -- k levels after the level number t
  level-then : (t k : ℕ) → joined (tree_records (map level (from t (suc k)))) ≡ joined (level_records (eqb (t + 1) (t + suc k)) (level t) ∷ tree_records (map level (from (t + 1) k)))
  unfolding from
  level-then t zero = rw (eq-eqb (t + 1) (t + 1) refl) (last-level (level t))
  level-then t (suc k) =
      rw (ne_eqb (t + 1) (t + suc (suc k)) (λ e. omega arith), add-one t) (fine-level (level t) (level (suc t)) (map level (from (suc (suc t)) k)))

  level-turn : (t n : ℕ) → t < n
      → joined (tree_records (map level (from t (n - t)))) ≡ joined (level_records (eqb (t + 1) n) (level t) ∷ tree_records (map level (from (t + 1) (n - (t + 1)))))
  level-turn t n h =
      let k = n - (t + 1) in
      let left : n - t ≡ suc k = omega arith in
      let all : t + suc k ≡ n = omega arith in
      ap (λ (i : ℕ). joined (tree_records (map level (from t i)))) left ∙ level-then t k
      ∙ ap (λ (i : ℕ). joined (level_records (eqb (t + 1) i) (level t) ∷ tree_records (map level (from (t + 1) k)))) all

  -- after the last one
  pub no-level : (t n : ℕ) → n ≤ t → joined (tree_records (map level (from t (n - t)))) ≡ joined []
  unfolding from tree_records
  no-level t n h = let none : n - t ≡ 0 = omega arith in ap (λ (i : ℕ). joined (tree_records (map level (from t i)))) none

-- ---- the level number t in the code's terms: a and j are the sums of the counts before it
module _ (p : Packed) (level_points rows counts : List ℕ) where
  pub levels-all : (n : ℕ) → joined (tree_records (read_levels p level_points rows counts n)) ≡ joined (tree_records (map (read_level p level_points rows counts) (from 0 (n - 0))))
  unfolding read_levels
  levels-all n =
      let e : n ≡ n - 0 = omega arith in
      ap (λ (i : ℕ). joined (tree_records (map (read_level p level_points rows counts) (from 0 i)))) e

  module _ (t a j : ℕ) (ea : a ≡ total (take t rows)) (ej : j ≡ total (take t counts)) where
    level-here : read_level p level_points rows counts t ≡ level_of (take (a + get_or rows t 0 - a) (drop a level_points)) (read_leaves p j (get_or counts t 0))
    unfolding read_level
    level-here = rw (part-lent level_points a (get_or rows t 0), ea, ej)

    module _ (n : ℕ) (s : Stands p level_points rows counts n) (h : t < n) where
      pub turn-here : joined (tree_records (map (read_level p level_points rows counts) (from t (n - t))))
          ≡ joined
          (level_records (eqb (t + 1) n) (level_of (take (a + get_or rows t 0 - a) (drop a level_points)) (read_leaves p j (get_or counts t 0)))
          ∷ tree_records (map (read_level p level_points rows counts) (from (t + 1) (n - (t + 1)))))
      turn-here =
          level-turn (read_level p level_points rows counts) t n h
          ∙ ap (λ (l : Level). joined (level_records (eqb (t + 1) n) l ∷ tree_records (map (read_level p level_points rows counts) (from (t + 1) (n - (t + 1)))))) level-here
