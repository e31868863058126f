-- `first_bad` by the library's `position`. Assumes nothing.
use Rattle.std.proofs.Common.{◌≡◌, refl, ℕ, suc, ◌+◌, ◌<◌, Bool, true, false, not, cond, List, [], ◌∷◌, length, Option, Some, None, MatchOption, position, nat_lt, arith}
use Rattle.std.specs.List.{position_or_len}
use Rattle.std.specs.Float.{float_is_finite}
use Rattle.std.proofs.lemmas.Bool.Decides.{nat_tests}
use Rattle.std.proofs.lemmas.List.Sums.{prefix_len-le-length}
use lib.Ieee.{Float, nan, inf, fin}
use lib.Ieee.Scale.{finite}
use Rattle.definition.specs.Refusals.{first_bad}

-- the library's test
abbrev pub bad : Float → Bool
bad x = not (float_is_finite x)

finite-library : (x : Float) → finite x ≡ float_is_finite x
unfolding float_is_finite
finite-library nan = refl
finite-library (inf s) = refl
finite-library (fin s m e) = refl

bad-from : (i : ℕ) (xs : List Float) → first_bad i xs ≡ i + position_or_len bad xs
unfolding first_bad
bad-from i [] = omega arith
bad-from i (x ∷ xs) = rw finite-library (go (float_is_finite x) (bad-from (suc i) xs))
  where
    go : (b : Bool) → first_bad (suc i) xs ≡ suc i + position_or_len bad xs → cond b (first_bad (suc i) xs) i ≡ i + cond (not (not b)) (1 + position_or_len bad xs) 0
    go true e = omega (arith, e)
    go false e = omega arith

-- what `position` finds is the first bad value
pub bad-found : (xs : List Float) (r : Option ℕ) → r ≡ position bad xs
    → MatchOption r (first_bad 0 xs ≡ length xs) (λ k. (k ≡ first_bad 0 xs) × (k < length xs))
bad-found xs r e = let at : first_bad 0 xs ≡ position_or_len bad xs = omega (arith, bad-from 0 xs) in rw e (rw at (go (nat_lt n (length xs)) refl))
  where
    n : ℕ
    n = position_or_len bad xs

    go : (b : Bool) → nat_lt n (length xs) ≡ b → MatchOption (cond b (Some n) None) (n ≡ length xs) (λ k. (k ≡ n) × (k < length xs))
    go true h = (refl, grind (arith, nat_tests))
    go false h = grind (arith, nat_tests, prefix_len-le-length (λ x. not (bad x)) xs)
