-- The cut of the rows, step by step. Assumes nothing.
use mathlib.Core.Path.{◌≡◌, refl, ap, ap₂, ◌∙◌}
use mathlib.Core.Bool.{Bool, true, not}
use mathlib.Core.List.{List, ◌++◌}
use Prim.Native.Nat.{ℕ, ◌+◌, ◌-◌, ◌*◌, ◌/◌, ◌≤◌, ◌<◌}
use native.Mathlib.Omega.{arith}
use lib.ListN.{length, length-append}
use lib.Ieee.{Float}
use Rattle.lists.specs.Lists.{keep, part, put}
use Rattle.lists.proofs.Count.{length_both}
use Rattle.lists.proofs.Put.{put_whole, length-put, put-next-at, part-put-same}
use Rattle.rows.specs.Rows.{GoodRows}
use Rattle.middle_row.specs.Middle.{on_side, MiddleRow}
use Rattle.halving.specs.Cuts.{halved}
use Rattle.rows.proofs.Good.{good-once, good-finite, good-place}
use Rattle.middle_row.proofs.Ranks.{middle-ranked, lefts-are, rights-are}

module _ {d : ℕ} {cs : List Float} {axis : ℕ} {l : List ℕ} {m : ℕ} (M : MiddleRow d cs axis l m) where
  -- the two sides of the middle row
  abbrev low : ℕ → Bool
  low = on_side d cs axis m true

  abbrev L : List ℕ
  L = keep low l

  abbrev R : List ℕ
  R = keep (λ i. not (low i)) l

  pub low-most : {lo : ℕ} → lo ≡ length L → lo ≤ length l
  low-most u = omega (arith, length_both low l)

  module _ (A : axis < d) (g : GoodRows d cs l) where
    pub middle-inside : m * d + axis < length cs
    middle-inside = good-place l g axis A m M.inside

    sides-are : L ++ R ≡ halved d cs axis l
    unfolding halved
    sides-are =
        let f = good-finite l g axis A in
        let o = good-once l g in
        let r = middle-ranked d cs axis l m M in
        ap₂ (λ (x y : List ℕ). x ++ y) (lefts-are d cs axis l f o (length l / 2) m r) (rights-are d cs axis l f o (length l / 2) m r)

    -- the others are copied back behind those that come before; lo is how many these are
    pub rows_cut : {lo : ℕ} (s : List ℕ) {l₁ s₁ l₂ : List ℕ} → length s ≡ length l → lo ≡ length L → l₁ ≡ put l 0 L → s₁ ≡ put s 0 R
        → l₂ ≡ put l₁ lo (part s₁ 0 (length l₁ - lo)) → l₂ ≡ halved d cs axis l
    rows_cut {lo} s {l₁} e u f h k =
        let b = length_both low l in
        let n : length l₁ - lo ≡ length R = omega (arith, ap length f, length-put l 0 L (omega arith)) in
        k
        ∙ rw (n, f, h, part-put-same s 0 R (length R) (omega arith) refl)
        (put-next-at l 0 L R lo (omega arith) (omega arith) ∙ put_whole l (L ++ R) (omega (arith, length-append L R)) ∙ sides-are)
