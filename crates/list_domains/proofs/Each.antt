-- What an iterator's `all` says of a list, whether each element passes the test; and a stretch of a list by its range. Assumes nothing.
use Rattle.std.specs.Bool.{MatchBool}
use Rattle.std.specs.List.{AllWithin, HoldsAt}
use mathlib.Core.Path.{◌≡◌, sym, ap}
use mathlib.Core.Bool.{Bool, true, false}
use mathlib.Core.List.{List}
use Prim.Native.Nat.{ℕ, ◌+◌, ◌-◌, ◌<◌}
use native.Mathlib.Omega.{arith}
use lib.ListN.{length, get_or, take, drop}
use Rattle.lists.specs.Lists.{part}
use Rattle.lists.proofs.Tests.{clash, fails}
use Rattle.lists.proofs.All.{mem-by-index}
use Rattle.lists.proofs.Members.{mem-at}
use Rattle.stored.specs.Sound.{all_of}
use Rattle.tree_tests.proofs.AllPass.{all-pass-each, each-all-pass}

pub all-told : {A : Type 0} (p : A → Bool) (xs : List A) (z : A) (r : Bool)
    → MatchBool r (AllWithin (λ x. p x ≡ true) xs 0 (length xs)) ((k : ℕ) × (k < length xs) × HoldsAt (λ x. p x ≡ false) xs k) → r ≡ all_of p xs
all-told p xs z true h = sym (each-all-pass p xs (mem-by-index (λ x. p x ≡ true) xs z (λ i l. h i z (omega arith) l)))
all-told p xs z false h = sym (fails (all_of p xs) (λ t. clash (all-pass-each p xs t (get_or xs h.0 z) (mem-at xs h.0 z h.1)) (h.2 z)))

pub stretch_is : {A : Type 0} (l : List A) (at n : ℕ) → take (at + n - at) (drop at l) ≡ part l at n
unfolding part
stretch_is l at n = let e : at + n - at ≡ n = omega arith in ap (λ (k : ℕ). take k (drop at l)) e
