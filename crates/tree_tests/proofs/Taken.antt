-- The loop that tests rows against a set and takes each of them out of that set, and out of another one around it. A row that is taken is below
-- the least number that the next row may be, so what is left of the set answers as the set did. Assumes nothing.
-- Holds: Taken, take-start, take_left, take_step, take-low, take_out, take-end
use mathlib.Core.Path.{◌≡◌, sym, ◌∙◌}
use mathlib.Core.Logic.{⊎_elim}
use Prim.Native.Nat.{ℕ, ◌+◌, ◌≤◌, ◌<◌}
use native.Mathlib.Omega.{arith}
use native.Mathlib.Numerals.{add-one}
use mathlib.Core.Bool.{Bool, true, false}
use mathlib.Core.List.Memᴰ
use mathlib.Core.List.{List, [], ◌∷◌, ◌++◌, Memᴰ}
use lib.ListN.{length, get_or, take}
use lib.Seq.{take-suc}
use Rattle.lists.proofs.Members.{not-member}
use Rattle.tree_tests.specs.InTurn.{in_order_lem, without}
use Rattle.tree_tests.proofs.Sets.{without_other}
use Rattle.tree_tests.proofs.Checked.{Checked, check-start, check-step, check-low, check-out, check-end}

-- i rows passed and are taken out, each of them below `least`
pub record Taken (p : ℕ → Bool) (rows : List ℕ) (i least : ℕ) : Type 0 where
  pub checked : Checked p rows i least
  pub below : (x : ℕ) → Memᴰ x (take i rows) → x < least

pub take-start : (p : ℕ → Bool) (rows : List ℕ) → Taken p rows 0 0
take-start p rows = record { checked = check-start p rows; below = λ x m. absurd (Memᴰ.not-nil m) }

module _ {p : ℕ → Bool} {rows : List ℕ} {i least : ℕ} (c : Taken p rows i least) where
  -- what is left of the set, and of one around it, is as before from `least` on
  pub take_left : (q : ℕ → Bool) (x : ℕ) → least ≤ x → without (take i rows) q x ≡ q x
  take_left q x l = without_other (take i rows) q x (not-member (take i rows) x (λ m. omega (arith, c.below x m)))

  module _ (x : ℕ) (h : i < length rows) (e : x ≡ get_or rows i 0) where
    -- the row at i passes
    pub take_step : least ≤ x → without (take i rows) p x ≡ true → Taken p rows (i + 1) (x + 1)
    take_step l k =
        record {
          checked = check-step c.checked x h e l (sym (take_left p x l) ∙ k);
          below = λ y m. ⊎_elim (λ n. omega (arith, c.below y n)) (λ n. omega (arith, Memᴰ.eq_of_singleton n)) (Memᴰ.append_cases (take i rows) (shown y m));
        }
      where
        shown : (y : ℕ) → Memᴰ y (take (i + 1) rows) → Memᴰ y (take i rows ++ x ∷ [])
        shown y m = rw (e, ← take-suc rows i 0 h, ← add-one i) m

    -- it is below the least one, or not in what is left of the set
    pub take-low : x < least → in_order_lem 0 p rows ≡ false
    take-low l = check-low c.checked x h e l

    pub take_out : least ≤ x → without (take i rows) p x ≡ false → in_order_lem 0 p rows ≡ false
    take_out l k = check-out c.checked x h e (sym (take_left p x l) ∙ k)

  pub take-end : length rows ≤ i → in_order_lem 0 p rows ≡ true
  take-end h = check-end c.checked h
