-- How many nodes are under a domain: with fuel for its rows, or more, as many; of large and of other domains; and less than four for each
-- row. Assumes nothing.
-- Holds: nodes-few, nodes-many, nodes-even, nodes-odd, nodes-most
use mathlib.Core.Path.{◌≡◌, refl, sym, ap₂, ◌∙◌}
use mathlib.Core.Logic.{⊎_elim}
use Prim.Native.Nat.{ℕ, zero, suc, ◌+◌, ◌-◌, ◌*◌, ◌/◌, ◌≤◌, ◌<◌}
use native.Mathlib.Omega.{arith}
use borrow.Author.Tests.{le-leb, lt-leb}
use Rattle.lists.proofs.Tests.{le-or-lt}
use Rattle.queue.specs.Nodes.{nodes_to, nodes_under_lem}

module _ (leaf : ℕ) where
  to-many : (fuel s : ℕ) → 2 * leaf ≤ s → nodes_to leaf (suc fuel) s ≡ suc (nodes_to leaf fuel (s / 2) + nodes_to leaf fuel (s - s / 2))
  unfolding nodes_to
  to-many fuel s h = rw (le-leb (2 * leaf) s h)

  to-few : (fuel s : ℕ) → s < 2 * leaf → nodes_to leaf fuel s ≡ 3
  unfolding nodes_to
  to-few zero s h = refl
  to-few (suc fuel) s h = rw (lt-leb (2 * leaf) s h)

  pub nodes-few : (s : ℕ) → s < 2 * leaf → nodes_under_lem s leaf ≡ 3
  unfolding nodes_under_lem
  nodes-few s h = to-few s s h

  module _ (lp : 1 ≤ leaf) where
    to-enough : (fuel more s : ℕ) → s ≤ fuel → s ≤ more → nodes_to leaf fuel s ≡ nodes_to leaf more s
    to-enough zero more s f m = to-few zero s (omega arith) ∙ sym (to-few more s (omega arith))
    to-enough (suc fuel) zero s f m = to-few (suc fuel) s (omega arith) ∙ sym (to-few zero s (omega arith))
    to-enough (suc fuel) (suc more) s f m =
        ⊎_elim
        (λ (big : 2 * leaf ≤ s).
        to-many fuel s big
        ∙ ap₂ (λ (x y : ℕ). suc (x + y)) (to-enough fuel more (s / 2) (omega arith) (omega arith)) (to-enough fuel more (s - s / 2) (omega arith) (omega arith))
        ∙ sym (to-many more s big))
        (λ (small : s < 2 * leaf). to-few (suc fuel) s small ∙ sym (to-few (suc more) s small))
        (le-or-lt (2 * leaf) s)

    pub nodes-many : (s : ℕ) → 2 * leaf ≤ s → nodes_under_lem s leaf ≡ suc (nodes_under_lem (s / 2) leaf + nodes_under_lem (s - s / 2) leaf)
    unfolding nodes_under_lem
    nodes-many s h =
        to-enough s (suc s) s (omega arith) (omega arith) ∙ to-many s s h
        ∙ ap₂ (λ (x y : ℕ). suc (x + y)) (to-enough s (s / 2) (s / 2) (omega arith) (omega arith)) (to-enough s (s - s / 2) (s - s / 2) (omega arith) (omega arith))

    -- by half the size, where that is as much as the threshold
    pub nodes-even : (s h : ℕ) → leaf ≤ h → s ≡ 2 * h → nodes_under_lem s leaf ≡ 1 + 2 * nodes_under_lem h leaf
    nodes-even s h g e =
        let a : s / 2 ≡ h = omega arith in
        let b : s - s / 2 ≡ h = omega arith in
        nodes-many s (omega arith) ∙ rw (b, a) (omega arith)

    pub nodes-odd : (s h : ℕ) → leaf ≤ h → s ≡ 2 * h + 1 → nodes_under_lem s leaf ≡ 1 + nodes_under_lem h leaf + nodes_under_lem (h + 1) leaf
    nodes-odd s h g e =
        let a : s / 2 ≡ h = omega arith in
        let b : s - s / 2 ≡ h + 1 = omega arith in
        nodes-many s (omega arith) ∙ rw (b, a) (omega arith)

    pub nodes-most : (s : ℕ) → nodes_under_lem s leaf ≤ 4 * s + 3
    nodes-most s = ⊎_elim (λ (some : 1 ≤ s). let h = go s s (omega arith) some in omega arith) (λ (none : s < 1). let h = nodes-few s (omega arith) in omega arith) (le-or-lt 1 s)
      where
        go : (n s : ℕ) → s ≤ n → 1 ≤ s → nodes_under_lem s leaf + 1 ≤ 4 * s
        go zero s f p = absurd (omega arith)
        go (suc n) s f p =
            ⊎_elim
            (λ (big : 2 * leaf ≤ s). let u = go n (s / 2) (omega arith) (omega arith) in let v = go n (s - s / 2) (omega arith) (omega arith) in let m = nodes-many s big in omega arith)
            (λ (small : s < 2 * leaf). let m = nodes-few s small in omega arith)
            (le-or-lt (2 * leaf) s)
