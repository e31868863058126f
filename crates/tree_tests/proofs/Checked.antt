-- The loop that tests rows against a set. It goes over the rows by index and keeps the least number that the next row may be: the last row's
-- and one more. Assumes nothing.
-- Holds: Checked, check-start, check-step, check-low, check-out, check-end
use mathlib.Core.Path.{◌≡◌, refl, ◌∙◌}
use Prim.Native.Nat.{ℕ, suc, ◌+◌, ◌≤◌, ◌<◌}
use native.Mathlib.Numerals.{add-one}
use mathlib.Core.Bool.{Bool, true, false, ◌&&◌, and-false}
use mathlib.Core.List.{List}
use lib.ListN.{length, get_or, drop, drop_of_length-le}
use lib.Seq.{drop-cons}
use lib.Dec.{leb}
use borrow.Author.Tests.{le-leb, lt-leb}
use Rattle.tree_tests.specs.InTurn.{in_order_lem}
use Rattle.tree_tests.proofs.Rows.{in-order-nil, in-order-cons}

-- i rows passed, and the next one has to be at or above `least`
pub record Checked (p : ℕ → Bool) (rows : List ℕ) (i least : ℕ) : Type 0 where
  pub rest : in_order_lem 0 p rows ≡ in_order_lem least p (drop i rows)

pub check-start : (p : ℕ → Bool) (rows : List ℕ) → Checked p rows 0 0
check-start p rows = record { rest = refl }

module _ {p : ℕ → Bool} {rows : List ℕ} {i least : ℕ} (c : Checked p rows i least) where
  -- the row at i, and those behind it
  module _ (x : ℕ) (h : i < length rows) (e : x ≡ get_or rows i 0) where
    next : in_order_lem 0 p rows ≡ leb least x && p x && in_order_lem (suc x) p (drop (suc i) rows)
    next = c.rest ∙ rw (drop-cons rows i 0 h, ← e) (in-order-cons least p x (drop (suc i) rows))

    -- it passes
    pub check-step : least ≤ x → p x ≡ true → Checked p rows (i + 1) (x + 1)
    check-step l k = record { rest = next ∙ rw (le-leb least x l, k, add-one x, add-one i) }

    -- it is below the least one, or not in the set
    pub check-low : x < least → in_order_lem 0 p rows ≡ false
    check-low l = next ∙ rw (lt-leb least x l)

    pub check-out : p x ≡ false → in_order_lem 0 p rows ≡ false
    check-out k = next ∙ rw (k, and-false (leb least x))

  pub check-end : length rows ≤ i → in_order_lem 0 p rows ≡ true
  check-end h = c.rest ∙ rw (drop_of_length-le rows h) (in-order-nil least p)
