-- The rows of an ascending list below a row, and where they end. Assumes nothing.
use mathlib.Core.Path.{◌≡◌, ap, ◌∙◌}
use mathlib.Core.Bool.{true, false}
use mathlib.Core.List.{List, Memᴰ}
use Prim.Native.Nat.{ℕ, ◌≤◌, ◌<◌}
use native.Mathlib.Omega.{arith}
use native.Mathlib.Nat.{eq-or-lt_of_le}
use mathlib.Core.Logic.{⊎_elim}
use borrow.Author.Tests.{lt-ltb, ltb-true}
use Rattle.std.proofs.lemmas.List.Sorted.{IsNonDecreasingBy-from_default, IsPartitionedBy-ltb}
use Rattle.lists.proofs.Tests.{clash, le-or-lt}
use lib.Dec.{ltb}
use lib.ListN.{length, get_or}
use Rattle.std.specs.List.Sorted.{IsPartitionedBy, IsPartitionPoint}
use Rattle.lists.specs.Ascends.{Ascends}
use Rattle.lists.proofs.Members.{mem_index}
use Rattle.lists.proofs.Ascends.{ascends-at}

module _ (l : List ℕ) (up : Ascends l) (row : ℕ) where
  rising : (i j : ℕ) → i ≤ j → j < length l → get_or l i 0 ≤ get_or l j 0
  rising i j h g = ⊎_elim (λ (e : i ≡ j). rw e (omega arith)) (λ (b : i < j). let a = ascends-at l i j up b g in omega arith) (eq-or-lt_of_le h)

  -- those below the row come first
  pub lower-first : IsPartitionedBy (λ y. ltb y row) l
  lower-first = IsPartitionedBy-ltb (λ y. y) l row (IsNonDecreasingBy-from_default (λ y. y) l 0 rising)

  -- and they end at the row
  pub lower-end : Memᴰ row l → (n : ℕ) → IsPartitionPoint (λ y. ltb y row ≡ true) (λ y. ltb y row ≡ false) l n → (n < length l) × (get_or l n 0 ≡ row)
  lower-end i n p = let e = same in (omega (arith, r.1), ap (λ (k : ℕ). get_or l k 0) e ∙ r.2)
    where
      r : (k : ℕ) × (k < length l) × (get_or l k 0 ≡ row)
      r = let m = mem_index l 0 i in (m.0, m.1, m.2)

      same : n ≡ r.0
      same = ⊎_elim
          (λ (h : n ≤ r.0). ⊎_elim (λ (e : n ≡ r.0). e) (λ (b : n < r.0).
          let a = ascends-at l n r.0 up b r.1 in
          absurd (clash (lt-ltb (get_or l n 0) row (omega (arith, r.2))) (p.1 n 0 (omega arith) (omega (arith, r.1))))) (eq-or-lt_of_le h))
          (λ (b : r.0 < n). absurd (let t = ltb-true (get_or l r.0 0) row (p.0 r.0 0 (omega arith) b) in omega (arith, r.2)))
          (le-or-lt n r.0)
