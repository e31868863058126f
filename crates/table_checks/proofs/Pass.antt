-- The pass over the flags: what it knows of those that it has passed, at its start, at each turn and at its end. Assumes nothing.
-- Holds: Passed, starts, turn-live, turn-first, turn-later, ends-live, ends_next
use mathlib.Core.Path.{◌≡◌, sym, ◌∙◌}
use mathlib.Core.Bool.{Bool, true, false, not}
use mathlib.Core.List.{List}
use Prim.Native.Nat.{ℕ, ◌+◌, ◌≤◌, ◌<◌}
use native.Mathlib.Omega.{arith}
use borrow.Author.Count.{below_more}
use borrow.Author.Tests.{eq-eqb, ne_eqb}
use lib.ListN.{length, get_or}
use Rattle.lists.specs.Lists.{keep, count, from, least}
use Rattle.lists.proofs.Count.{length-keep}
use Rattle.lists.proofs.From.{count-below-nil, count-below-yes, count-below-no}
use Rattle.lists.proofs.Least.{least-is}
use Rattle.definition.specs.Table.{flagged}

-- slot k is retired
abbrev retired_at : List ℕ → ℕ → Bool
retired_at flags k = not (flagged flags k)

-- after i of the slots: how many are live, and the lowest retired one, or the slot count
pub record Passed (flags : List ℕ) (slots live next i : ℕ) : Type 0 where
  pub counted : live ≡ count (flagged flags) (from 0 i)
  pub few : live ≤ i
  pub low : next ≤ slots
  pub none : (k : ℕ) → k < i → k < next → retired_at flags k ≡ false
  pub one : next < slots → (next < i) × (retired_at flags next ≡ true)

module _ (flags : List ℕ) (slots : ℕ) where
  pub starts : Passed flags slots 0 slots 0
  starts = record {
    counted = sym (count-below-nil (flagged flags));
    few = omega arith;
    low = omega arith;
    none = λ k h g. absurd (omega arith);
    one = λ h. absurd (omega arith);
  }

  module _ (live next i : ℕ) (p : Passed flags slots live next i) where
    -- ---- a turn
    pub turn-live : (get_or flags i 0 ≡ 0 → ⊥) → Passed flags slots (live + 1) next (i + 1)
    turn-live h =
        let l : flagged flags i ≡ true = simp (ne_eqb (get_or flags i 0) 0 h) in
        record {
          counted = omega (arith, p.counted, count-below-yes (flagged flags) i l);
          few = omega (arith, p.few);
          low = p.low;
          none = below_more (λ k. k < next → retired_at flags k ≡ false) i p.none (λ g. simp l);
          one = λ g. let o = p.one g in (omega (arith, o.0), o.1);
        }

    module _ (z : get_or flags i 0 ≡ 0) where
      retired-here : retired_at flags i ≡ true
      retired-here = simp (eq-eqb (get_or flags i 0) 0 z)

      not_live : flagged flags i ≡ false
      not_live = simp (eq-eqb (get_or flags i 0) 0 z)

      -- the first that is retired
      pub turn-first : i < next → Passed flags slots live i (i + 1)
      turn-first h =
          record {
            counted = omega (arith, p.counted, count-below-no (flagged flags) i not_live);
            few = omega (arith, p.few);
            low = omega (arith, p.low);
            none = λ k g l. p.none k l (omega arith);
            one = λ g. (omega arith, retired-here);
          }

      -- a later one
      pub turn-later : next ≤ i → Passed flags slots live next (i + 1)
      turn-later h =
          record {
            counted = omega (arith, p.counted, count-below-no (flagged flags) i not_live);
            few = omega (arith, p.few);
            low = p.low;
            none = λ k g l. p.none k (omega arith) l;
            one = λ g. let o = p.one g in (omega (arith, o.0), o.1);
          }

  -- ---- the end
  module _ (live next : ℕ) (p : Passed flags slots live next slots) where
    pub ends-live : live ≡ length (keep (flagged flags) (from 0 slots))
    ends-live = p.counted ∙ sym (length-keep (flagged flags) (from 0 slots))

    pub ends_next : next ≡ least (λ i. not (flagged flags i)) slots
    ends_next = sym (least-is (retired_at flags) slots next p.low (λ k h. p.none k (omega (arith, p.low)) h) (λ h. (p.one h).1))
