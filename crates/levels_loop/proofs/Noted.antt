-- The two lists of the record in the loop over the levels: an invariant of its own beside the one of the tree's lists. Assumes nothing.
-- Holds: Noted, noted-first, noted-fits, noted-next, noted-end
use mathlib.Core.Path.{◌≡◌}
use mathlib.Core.List.{List, [], ◌∷◌, map}
use Prim.Native.Nat.{ℕ, suc, ◌+◌, ◌-◌, ◌≤◌}
use native.Mathlib.Omega.{arith}
use lib.ListN.{length}
use lib.Ieee.{Float}
use Rattle.lists.specs.Lists.{put, part}
use Rattle.definition.specs.Tree.{Level, most_fine}
use Rattle.definition.specs.Record.{whole_of, float_of, record_of, nodes_in}
use Rattle.definition.proofs.Steps.{fine_of}
use Rattle.levels_loop.specs.After.{level_settings, levels_after}
use Rattle.levels_loop.specs.Records.{level_nodes, RecordRoom}
use Rattle.levels_loop.proofs.Records.{Taken, taken-first, taken-fits, taken_next, taken-end, levels-some}

-- THE INVARIANT of both lists, after `built` fine levels: the record of the next goes from `node` on
pub record Noted (d : ℕ) (cs : List Float) (leaf q c k n : ℕ) (P P₁ : List ℕ) (built at a : ℕ)
    (C : List ℕ) (Q : List Float) (C₁ : List ℕ) (Q₁ : List Float) (node : ℕ) : Type 0 where
  pub cuts : Taken whole_of (level_settings d leaf q) cs (levels_after d cs leaf q c k 0 (part P 0 n)) (levels_after d cs leaf q c k built (part P₁ at a)) a (most_fine - built) C C₁ node
  pub planes : Taken float_of (level_settings d leaf q) cs (levels_after d cs leaf q c k 0 (part P 0 n)) (levels_after d cs leaf q c k built (part P₁ at a)) a (most_fine - built) Q Q₁ node

module _ {d : ℕ} {cs : List Float} {leaf q c k n : ℕ} {P : List ℕ} {C : List ℕ} {Q : List Float} where
  pub noted-first : RecordRoom n C Q → Noted d cs leaf q c k n P P 0 0 n C Q C Q 0
  noted-first h = record {
    cuts = taken-first whole_of (level_settings d leaf q) cs _ n most_fine C h.0;
    planes = taken-first float_of (level_settings d leaf q) cs _ n most_fine Q h.1;
  }

  module _ {P₁ : List ℕ} {built at a : ℕ} {C₁ : List ℕ} {Q₁ : List Float} {node : ℕ} (v : Noted d cs leaf q c k n P P₁ built at a C Q C₁ Q₁ node) where
    -- ---- one more fine level
    module _ (left : most_fine - built ≡ suc (most_fine - (built + 1))) where
      pub noted-fits : (node + level_nodes a ≤ length C₁) × (node + level_nodes a ≤ length Q₁)
      noted-fits = (
        taken-fits whole_of (level_settings d leaf q) cs _ v.cuts (omega (arith, left)),
        taken-fits float_of (level_settings d leaf q) cs _ v.planes (omega (arith, left)),
      )

      pub noted-next : (size : ℕ) {P₂ : List ℕ} {b m : ℕ}
          → levels_after d cs leaf q c k built (part P₁ at a) ≡ fine_of (level_settings d leaf q) cs size (part P₁ at a) ∷ levels_after d cs leaf q c k (built + 1) (part P₂ (at + a) b)
          → b ≤ a → m ≡ length (record_of d cs leaf (part P₁ at a)) → m ≤ level_nodes a
          → {C₂ : List ℕ} {Q₂ : List Float} → C₂ ≡ put C₁ node (map whole_of (record_of d cs leaf (part P₁ at a))) → Q₂ ≡ put Q₁ node (map float_of (record_of d cs leaf (part P₁ at a)))
          → Noted d cs leaf q c k n P P₂ (built + 1) (at + a) b C Q C₂ Q₂ (node + m)
      noted-next size {P₂ = P₂} {b = b} {m = m} rest hb em hm {C₂ = C₂} {Q₂ = Q₂} eC eQ =
          let s = level_settings d leaf q in
          let some = levels-some s cs c k (most_fine - (built + 1)) (built + 1) (part P₂ (at + a) b) in
          record {
            cuts = taken_next whole_of s cs _ v.cuts (most_fine - (built + 1)) left size (part P₁ at a) _ rest some b m hb em hm C₂ eC;
            planes = taken_next float_of s cs _ v.planes (most_fine - (built + 1)) left size (part P₁ at a) _ rest some b m hb em hm Q₂ eQ;
          }

    -- ---- after the last
    pub noted-end : {l : Level} → levels_after d cs leaf q c k built (part P₁ at a) ≡ l ∷ []
        → (C₁ ≡ put C 0 (map whole_of (nodes_in (level_settings d leaf q) cs (levels_after d cs leaf q c k 0 (part P 0 n)))))
        × (Q₁ ≡ put Q 0 (map float_of (nodes_in (level_settings d leaf q) cs (levels_after d cs leaf q c k 0 (part P 0 n)))))
    noted-end {l = l} e = (
      taken-end whole_of (level_settings d leaf q) cs _ v.cuts l e,
      taken-end float_of (level_settings d leaf q) cs _ v.planes l e,
    )
