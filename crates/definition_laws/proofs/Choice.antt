-- The nearest and the farthest row, by what they are: better than those before it, and none behind it is better. Assumes
-- nothing.
use mathlib.Core.Path.{◌≡◌, ap, ◌∙◌}
use mathlib.Core.Bool.{Bool, true, false}
use mathlib.Core.List.{List, [], ◌∷◌, ◌++◌, map, map-append}
use Prim.Native.Nat.{ℕ}
use lib.Ieee.{Float, lt}
use Rattle.lists.specs.Lists.{best}
use Rattle.lists.specs.Ascends.{All}
use Rattle.lists.proofs.All.{all_map}
use Rattle.lists.proofs.Best.{best-stays, best-is}
use Rattle.definition.specs.Keys.{Key, keyed, nearest_row, farthest_row}

module _ (v : ℕ → Float) (better : Float → Float → Bool) where
  key : ℕ → Key
  key i = record { value = v i; row = i }

  keys-better : Key → Key → Bool
  keys-better p q = better p.value q.value

  -- r, better than those before it, where none behind it is better
  best-row : (x : ℕ) (ys : List ℕ) (r : ℕ) (zs : List ℕ) → better (v r) (v x) ≡ true → All (λ y. better (v r) (v y) ≡ true) ys → All (λ z. better (v z) (v r) ≡ false) zs
      → (best keys-better (key x) (map key (ys ++ r ∷ zs))).row ≡ r
  unfolding key keys-better
  best-row x ys r zs h f g =
      ap (λ (l : List Key). (best keys-better (key x) l).row) (map-append key ys (r ∷ zs))
      ∙ ap (λ (p : Key). p.row)
      (best-is keys-better (key x) (map key ys) (key r) (map key zs) h
      (all_map (λ p. better (v r) p.value ≡ true) key ys f) (all_map (λ p. better p.value (v r) ≡ false) key zs g))

  first-row : (r : ℕ) (zs : List ℕ) → All (λ z. better (v z) (v r) ≡ false) zs → (best keys-better (key r) (map key zs)).row ≡ r
  unfolding key keys-better
  first-row r zs g = ap (λ (p : Key). p.row) (best-stays keys-better (key r) (map key zs) (all_map (λ p. better p.value (v r) ≡ false) key zs g))

pub farthest-is : (v : ℕ → Float) (ys : List ℕ) (r : ℕ) (zs : List ℕ) → All (λ y. lt (v y) (v r) ≡ true) ys → All (λ z. lt (v r) (v z) ≡ false) zs → farthest_row (keyed v (ys ++ r ∷ zs)) ≡ r
unfolding farthest_row keyed All key keys-better
farthest-is v [] r zs f g = first-row v (λ a b. lt b a) r zs g
farthest-is v (y ∷ ys) r zs f g = best-row v (λ a b. lt b a) y ys r zs f.0 f.1 g

pub nearest-is : (v : ℕ → Float) (ys : List ℕ) (r : ℕ) (zs : List ℕ) → All (λ y. lt (v r) (v y) ≡ true) ys → All (λ z. lt (v z) (v r) ≡ false) zs → nearest_row (keyed v (ys ++ r ∷ zs)) ≡ r
unfolding nearest_row keyed All key keys-better
nearest-is v [] r zs f g = first-row v lt r zs g
nearest-is v (y ∷ ys) r zs f g = best-row v lt y ys r zs f.0 f.1 g
