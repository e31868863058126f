-- Sets of rows as bits: no row, one row more, one less, and sets that agree. Assumes nothing.
-- Holds: bit-tells, marked-within, marked-bit, unmarked-bit, marked-same, mark-adds, unmark-takes, held, bits-marked,
--   marked-held, unmark-none, marked-none, marked-zeros
use mathlib.Core.Path.{◌≡◌, refl, sym, ap, ◌∙◌}
use mathlib.Core.Logic.{⊎_elim}
use mathlib.Core.Bool.{Bool, true, false, not, ◌&&◌, ◌||◌, and-false}
use Prim.Native.Nat.{ℕ, zero, suc, ◌*◌, ◌/◌, ◌%◌, ◌^◌, ◌≤◌, ◌<◌}
use native.Mathlib.Nat.{zero-div, mod-lt}
use native.Mathlib.Omega.{arith}
use mathlib.Core.List.{List}
use lib.Dec.{eqb}
use lib.ListN.{length, get_or, replicate, length-replicate, get_or-replicate, get_or-eq_default}
use borrow.Author.Tests.{eq-eqb, ne_eqb}
use Rattle.lists.specs.Lists.{one_if}
use Rattle.lists.proofs.Tests.{clash, le-or-lt, same_or, or-true, or-false, and-true}
use Rattle.marks.specs.Bits.{bit_at, marking, unmarking, Marked}
use Rattle.marks.proofs.Bits.{marked-own, marked_other, unmarked-own, unmarked-other, length-marking, length-unmarking}

-- ---- the bit as a test
one-is : (b : Bool) → eqb (one_if b) 1 ≡ b
one-is true = refl
one-is false = refl

module _ {ws : List ℕ} {p : ℕ → Bool} (m : Marked ws p) where
  pub bit-tells : (i : ℕ) → i < 64 * length ws → eqb (bit_at ws i) 1 ≡ p i
  bit-tells i h = ap (λ (x : ℕ). eqb x 1) (m.bit i h) ∙ one-is (p i)

  -- a row of the set lies in the words, and its bit is 1
  pub marked-within : (i : ℕ) → p i ≡ true → i < 64 * length ws
  marked-within i e = ⊎_elim (λ h. clash e (m.beyond i h)) (λ h. h) (le-or-lt (64 * length ws) i)

  pub marked-bit : (i : ℕ) → p i ≡ true → bit_at ws i ≡ 1
  marked-bit i e = m.bit i (marked-within i e) ∙ ap one_if e

  pub unmarked-bit : (i : ℕ) → i < 64 * length ws → p i ≡ false → bit_at ws i ≡ 0
  unmarked-bit i h e = m.bit i h ∙ ap one_if e

  -- ---- sets that agree
  pub marked-same : (q : ℕ → Bool) → ((i : ℕ) → p i ≡ q i) → Marked ws q
  marked-same q f = record { bit = λ i h. m.bit i h ∙ ap one_if (f i); beyond = λ i h. sym (f i) ∙ m.beyond i h }

  -- ---- one row more
  module _ (i : ℕ) (h : i < 64 * length ws) where
    abbrev more : ℕ → Bool
    more j = p j || eqb j i

    abbrev less : ℕ → Bool
    less j = p j && not (eqb j i)

    more_same : (j : ℕ) → j ≡ i → more j ≡ true
    more_same j e = ap (λ (b : Bool). p j || b) (eq-eqb j i e) ∙ or-true (p j)

    more-other : (j : ℕ) → (j ≡ i → ⊥) → more j ≡ p j
    more-other j n = ap (λ (b : Bool). p j || b) (ne_eqb j i n) ∙ or-false (p j)

    less-same : (j : ℕ) → j ≡ i → less j ≡ false
    less-same j e = ap (λ (b : Bool). p j && not b) (eq-eqb j i e) ∙ and-false (p j)

    less_other : (j : ℕ) → (j ≡ i → ⊥) → less j ≡ p j
    less_other j n = ap (λ (b : Bool). p j && not b) (ne_eqb j i n) ∙ and-true (p j)

    pub mark-adds : bit_at ws i ≡ 0 → Marked (marking ws i) (λ j. p j || eqb j i)
    mark-adds clear = record { bit = bits; beyond = past }
      where
        bits : (j : ℕ) → j < 64 * length (marking ws i) → bit_at (marking ws i) j ≡ one_if (more j)
        bits j g = ⊎_elim
            (λ (e : j ≡ i). rw e (marked-own ws i h clear ∙ sym (ap one_if (more_same i refl))))
            (λ (n : j ≡ i → ⊥). marked_other ws i h clear j n ∙ m.bit j (omega (arith, length-marking ws i)) ∙ sym (ap one_if (more-other j n)))
            (same_or j i)

        past : (j : ℕ) → 64 * length (marking ws i) ≤ j → more j ≡ false
        past j g =
            let k : 64 * length ws ≤ j = omega (arith, length-marking ws i) in
            more-other j (λ e. omega arith) ∙ m.beyond j k

    -- ---- one row less
    pub unmark-takes : bit_at ws i ≡ 1 → Marked (unmarking ws i) (λ j. p j && not (eqb j i))
    unmark-takes there = record { bit = bits; beyond = past }
      where
        bits : (j : ℕ) → j < 64 * length (unmarking ws i) → bit_at (unmarking ws i) j ≡ one_if (less j)
        bits j g = ⊎_elim
            (λ (e : j ≡ i). rw e (unmarked-own ws i h there ∙ sym (ap one_if (less-same i refl))))
            (λ (n : j ≡ i → ⊥). unmarked-other ws i h there j n ∙ m.bit j (omega (arith, length-unmarking ws i)) ∙ sym (ap one_if (less_other j n)))
            (same_or j i)

        past : (j : ℕ) → 64 * length (unmarking ws i) ≤ j → less j ≡ false
        past j g =
            let k : 64 * length ws ≤ j = omega (arith, length-unmarking ws i) in
            less_other j (λ e. omega arith) ∙ m.beyond j k

-- ---- any words mark the rows whose bit is 1
abbrev pub held : List ℕ → ℕ → Bool
held ws i = eqb (bit_at ws i) 1

pub bits-marked : (ws : List ℕ) → Marked ws (held ws)
unfolding bit_at
bits-marked ws = record { bit = λ i h. one_of (bit_at ws i) (mod-lt (get_or ws (i / 64) 0 / 2 ^ (i % 64)) (omega arith)); beyond = past }
  where
    one_of : (b : ℕ) → b < 2 → b ≡ one_if (eqb b 1)
    one_of zero h = refl
    one_of (suc zero) h = refl
    one_of (suc (suc b)) h = absurd (omega arith)

    past : (i : ℕ) → 64 * length ws ≤ i → held ws i ≡ false
    past i h = ap (λ (x : ℕ). eqb (x / 2 ^ (i % 64) % 2) 1) (get_or-eq_default ws 0 (omega arith)) ∙ ap (λ (x : ℕ). eqb (x % 2) 1) (zero-div (2 ^ (i % 64)))

-- and no other set is marked by them
pub marked-held : {ws : List ℕ} {p : ℕ → Bool} → Marked ws p → (i : ℕ) → held ws i ≡ p i
marked-held {ws} {p} m i = ⊎_elim (λ (h : 64 * length ws ≤ i). (bits-marked ws).beyond i h ∙ sym (m.beyond i h)) (λ (h : i < 64 * length ws). bit-tells m i h) (le-or-lt (64 * length ws) i)

-- a row without a mark is taken out of the set
pub unmark-none : {ws : List ℕ} {p : ℕ → Bool} → Marked ws p → (i : ℕ) → (bit_at ws i ≡ 1 → ⊥) → Marked ws (λ j. p j && not (eqb j i))
unmark-none {ws} {p} m i none = marked-same m (λ j. p j && not (eqb j i)) (λ j. ⊎_elim (here j) (there j) (same_or j i))
  where
    out : p i ≡ false
    out = sym (marked-held m i) ∙ ne_eqb (bit_at ws i) 1 none

    here : (j : ℕ) → j ≡ i → p j ≡ p j && not (eqb j i)
    here j e = ap p e ∙ out ∙ sym (ap (λ (b : Bool). b && not (eqb j i)) (ap p e ∙ out))

    there : (j : ℕ) → (j ≡ i → ⊥) → p j ≡ p j && not (eqb j i)
    there j n = sym (ap (λ (b : Bool). p j && not b) (ne_eqb j i n) ∙ and-true (p j))

-- ---- no row
none-bit : (i : ℕ) → 0 / 2 ^ (i % 64) % 2 ≡ 0
none-bit i = rw zero-div

pub marked-none : (ws : List ℕ) → ((j : ℕ) → j < length ws → get_or ws j 0 ≡ 0) → Marked ws (λ i. false)
unfolding bit_at
marked-none ws z = record { bit = λ i h. ap (λ (x : ℕ). x / 2 ^ (i % 64) % 2) (z (i / 64) (omega arith)) ∙ none-bit i; beyond = λ i h. refl }

pub marked-zeros : (k : ℕ) → Marked (replicate k 0) (λ i. false)
marked-zeros k = marked-none (replicate k 0) (λ j h. get_or-replicate k j 0 0 (omega (arith, length-replicate {A = ℕ} k 0)))
