-- When a record's policy is one of the two, and which it is. Assumes nothing.
use mathlib.Core.Path.{◌≡◌, sym, ◌∙◌}
use mathlib.Core.Bool.{true, false}
use Prim.Native.Nat.{ℕ}
use mathlib.Core.List.{List}
use lib.Dec.{eqb}
use borrow.Author.Tests.{eq-eqb, ne_eqb}
use Rattle.formats.specs.Bytes.{value_at}
use Rattle.formats.specs.Stream.{policy_field, threshold_field, policy_fits_lem}

module _ (bs : List ℕ) (p : ℕ) (e : p ≡ value_at policy_field bs) where
  pub fits-fixed : p ≡ 1 → true ≡ policy_fits_lem bs
  unfolding policy_fits_lem
  fits-fixed g = rw (eq-eqb (value_at policy_field bs) 1 (sym e ∙ g))

  pub fits-auto : p ≡ 0 → (c : ℕ) → c ≡ value_at threshold_field bs → eqb c 0 ≡ policy_fits_lem bs
  unfolding policy_fits_lem
  fits-auto g c f =
      let z : value_at policy_field bs ≡ 0 = sym e ∙ g in
      rw (z, f)

  pub fits-neither : (p ≡ 1 → ⊥) → (p ≡ 0 → ⊥) → false ≡ policy_fits_lem bs
  unfolding policy_fits_lem
  fits-neither g k = rw (ne_eqb (value_at policy_field bs) 1 (λ q. g (e ∙ q)), ne_eqb (value_at policy_field bs) 0 (λ q. k (e ∙ q)))
