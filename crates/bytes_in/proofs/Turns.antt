-- A loop over the numbers below a count: what it has tested. Assumes nothing.
-- Holds: none-tested, none_more, one_found, any-map
use mathlib.Core.Path.{◌≡◌, refl, ap₂}
use mathlib.Core.Bool.{Bool, true, false, ◌||◌}
use Prim.Native.Nat.{ℕ, ◌+◌, ◌<◌}
use native.Mathlib.Omega.{arith}
use mathlib.Core.List.{List, [], ◌∷◌, map}
use Rattle.lists.specs.Lists.{any_of, from}
use Rattle.lists.proofs.From.{mem-from, below_suc}
use Rattle.lists.proofs.Members.{mem-any, any_append}

module _ (p : ℕ → Bool) where
  pub none-tested : any_of p (from 0 0) ≡ false
  unfolding any_of from
  none-tested = refl

  pub none_more : (n : ℕ) → any_of p (from 0 n) ≡ false → p n ≡ false → any_of p (from 0 (n + 1)) ≡ false
  unfolding any_of
  none_more n h g = rw (below_suc n, any_append p (from 0 n) (n ∷ []), h, g)

  pub one_found : (n i : ℕ) → i < n → p i ≡ true → any_of p (from 0 n) ≡ true
  one_found n i h e = mem-any p (from 0 n) (mem-from 0 n (omega arith) (omega arith)) e

pub any-map : {A B : Type 0} (q : A → Bool) (p : B → Bool) (f : A → B) (xs : List A) → ((x : A) → q x ≡ p (f x)) → any_of q xs ≡ any_of p (map f xs)
unfolding any_of
any-map q p f [] h = refl
any-map q p f (x ∷ xs) h = ap₂ ◌||◌ (h x) (any-map q p f xs h)
