-- A row's own bit changes, and no other. Assumes nothing.
-- Holds: marked-own, marked_other, unmarked-own, unmarked-other, length-marking, length-unmarking
use mathlib.Core.Path.{◌≡◌, sym, ap, ◌∙◌}
use mathlib.Core.Logic.{⊎_elim}
use Prim.Native.Nat.{ℕ, ◌+◌, ◌-◌, ◌*◌, ◌/◌, ◌%◌, ◌^◌, ◌<◌}
use native.Mathlib.Omega.{arith}
use mathlib.Core.List.{List}
use lib.ListN.{length, get_or, set, length-set}
use lib.Seq.{get_or-set_same, get_or-set_other}
use Rattle.lists.proofs.Tests.{same_or}
use Rattle.marks.specs.Bits.{bit_at, marking, unmarking}
use Rattle.marks.proofs.Words.{other-bit, bit-set, bit-cleared, other-cleared}

-- ---- one bit changed: the row's own bit, and the bits of the same word; those of other words stay
module _ (ws : List ℕ) (i : ℕ) (h : i < 64 * length ws) where
  abbrev word : ℕ
  word = get_or ws (i / 64) 0

  own-word : (x : ℕ) → bit_at (set ws (i / 64) x) i ≡ x / 2 ^ (i % 64) % 2
  unfolding bit_at
  own-word x = ap (λ (y : ℕ). y / 2 ^ (i % 64) % 2) (get_or-set_same ws (i / 64) x 0 (omega arith))

  other_word : (x j : ℕ) → ((j % 64 ≡ i % 64 → ⊥) → x / 2 ^ (j % 64) % 2 ≡ word / 2 ^ (j % 64) % 2) → (j ≡ i → ⊥) → bit_at (set ws (i / 64) x) j ≡ bit_at ws j
  unfolding bit_at
  other_word x j same n = ⊎_elim here there (same_or (j / 64) (i / 64))
    where
      here : j / 64 ≡ i / 64 → get_or (set ws (i / 64) x) (j / 64) 0 / 2 ^ (j % 64) % 2 ≡ get_or ws (j / 64) 0 / 2 ^ (j % 64) % 2
      here e =
          ap (λ (y : ℕ). get_or (set ws (i / 64) x) y 0 / 2 ^ (j % 64) % 2) e
          ∙ ap (λ (y : ℕ). y / 2 ^ (j % 64) % 2) (get_or-set_same ws (i / 64) x 0 (omega arith))
          ∙ same (λ f. n (omega (arith, e, f)))
          ∙ ap (λ (y : ℕ). get_or ws y 0 / 2 ^ (j % 64) % 2) (sym e)

      there : (j / 64 ≡ i / 64 → ⊥) → get_or (set ws (i / 64) x) (j / 64) 0 / 2 ^ (j % 64) % 2 ≡ get_or ws (j / 64) 0 / 2 ^ (j % 64) % 2
      there f = ap (λ (y : ℕ). y / 2 ^ (j % 64) % 2) (get_or-set_other ws (i / 64) (j / 64) x 0 f)

  module _ (clear : bit_at ws i ≡ 0) where
    pub marked-own : bit_at (marking ws i) i ≡ 1
    unfolding bit_at marking
    marked-own = own-word (word + 2 ^ (i % 64)) ∙ bit-set word (i % 64) clear

    pub marked_other : (j : ℕ) → (j ≡ i → ⊥) → bit_at (marking ws i) j ≡ bit_at ws j
    unfolding bit_at marking
    marked_other j n = other_word (word + 2 ^ (i % 64)) j (other-bit word (i % 64) (j % 64) clear) n

  module _ (set_there : bit_at ws i ≡ 1) where
    pub unmarked-own : bit_at (unmarking ws i) i ≡ 0
    unfolding bit_at unmarking
    unmarked-own = own-word (word - 2 ^ (i % 64)) ∙ bit-cleared word (i % 64) set_there

    pub unmarked-other : (j : ℕ) → (j ≡ i → ⊥) → bit_at (unmarking ws i) j ≡ bit_at ws j
    unfolding bit_at unmarking
    unmarked-other j n = other_word (word - 2 ^ (i % 64)) j (other-cleared word (i % 64) set_there (j % 64)) n

-- ---- the words stay as many
pub length-marking : (ws : List ℕ) (i : ℕ) → length (marking ws i) ≡ length ws
unfolding marking
length-marking ws i = simp length-set

pub length-unmarking : (ws : List ℕ) (i : ℕ) → length (unmarking ws i) ≡ length ws
unfolding unmarking
length-unmarking ws i = simp length-set
