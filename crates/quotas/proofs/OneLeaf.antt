-- One leaf's product, share and remainder as the code forms them, and its quota. Assumes nothing.
-- Holds: same-leaves, top-cut, seat-cut-is, whole_is, remainder_is, whole-small, quota-is
use Prim.Native.Nat.{ℕ, ◌+◌, ◌-◌, ◌*◌, ◌/◌, ◌%◌, ◌≤◌, ◌<◌, min}
use mathlib.Core.Path.{◌≡◌, sym, ap, ◌∙◌}
use mathlib.Core.List.{List}
use native.Mathlib.Omega.{arith}
use lib.ListN.{length, length-map}
use Rattle.definition.specs.Quotas.{size_at, whole_at, remainder_at, leftover}
use Rattle.definition.specs.SeatCut.{ties, extra_by}
use Rattle.definition.proofs.Shares.{whole_by, remainder_by, seats-by-cut, share-small, cut_by, none_above}
use Rattle.definition.proofs.Fairness.{capacity-at}
use Rattle.quotas.specs.Sharing.{Sharing, capacities, remainders_above, RemaindersCut, quota_at}

-- as many capacities as sizes
pub same-leaves : (sizes : List ℕ) (first : ℕ) → length (capacities sizes first) ≡ length sizes
same-leaves sizes first = length-map sizes (λ w. w - first)

module _ (sizes : List ℕ) (first rest pool : ℕ) (k : Sharing sizes first rest pool) where
  -- none of the remainders is above the divisor
  pub top-cut : (left : ℕ) → remainders_above (capacities sizes first) rest pool ≤ left
  top-cut left = omega (arith, none_above (capacities sizes first) rest k.within pool (omega (arith, k.divisor)))

  pub seat-cut-is : (left t : ℕ) → left ≡ leftover (capacities sizes first) rest → remainders_above (capacities sizes first) rest t ≤ left
      → ((s : ℕ) → s < t → left < remainders_above (capacities sizes first) rest s) → RemaindersCut (capacities sizes first) rest left t
  seat-cut-is = cut_by (capacities sizes first) rest k.within

  module _ (i p : ℕ) (ep : p ≡ rest * (size_at sizes i - first)) where
    product_is : p ≡ rest * size_at (capacities sizes first) i
    product_is = ep ∙ ap (λ (x : ℕ). rest * x) (sym (capacity-at first sizes i))

    pub whole_is : p / pool ≡ whole_at (capacities sizes first) rest i
    whole_is = whole_by (capacities sizes first) rest k.within i p pool product_is k.divisor

    pub remainder_is : p % pool ≡ remainder_at (capacities sizes first) rest i
    remainder_is = remainder_by (capacities sizes first) rest k.within i p pool product_is k.divisor

    pub whole-small : p / pool ≤ 1099511627776
    whole-small =
        share-small (capacities sizes first) rest k.within i p pool product_is k.rest_fits
        (omega (arith, capacity-at first sizes i, k.sizes_fit i))

    pub quota-is : (left cut taken q x at_cut : ℕ) → RemaindersCut (capacities sizes first) rest left cut
        → taken ≡ remainders_above (capacities sizes first) rest cut → left ≡ leftover (capacities sizes first) rest → i < length sizes
        → q ≡ min first (size_at sizes i) → at_cut ≡ left - taken - ties i (remainder_at (capacities sizes first) rest) cut
        → x ≡ extra_by (p % pool) cut at_cut → q + p / pool + x ≡ quota_at sizes first rest i
    quota-is left cut taken q x at_cut c et el h eq ea ex =
        let s = seats-by-cut (capacities sizes first) rest k.within i p pool product_is k.divisor left cut taken x at_cut c et el
        (omega (arith, same-leaves sizes first)) ea ex in
        omega arith
