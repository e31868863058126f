-- Tests of a call, group by group, and the test of the coordinates. Assumes nothing.
-- Holds: and_then, verdict-append, fault-first, fault-second, bad-test
use mathlib.Core.Path.{◌≡◌, refl, sym, ap, ◌∙◌}
use mathlib.Core.Bool.{Bool, true, false, not, ◌||◌, cond}
use mathlib.Core.List.{List, [], ◌∷◌, ◌++◌}
use Prim.Native.Nat.{ℕ, suc, ◌+◌}
use native.Mathlib.Omega.{arith}
use borrow.Author.Tests.{lt-ltb, le-ltb}
use lib.Dec.{ltb}
use lib.ListN.{length}
use lib.Ieee.{Float}
use lib.Ieee.Scale.{finite}
use Rattle.lists.specs.Lists.{any_of}
use Rattle.definition.specs.Refusals.{Refusal, Test, Verdict, accepted, refused, verdict, first_bad}

-- ---- groups of tests

-- the first verdict, or the second where the first is accepted
abbrev pub and_then : Verdict → Verdict → Verdict
and_then accepted v = v
and_then (refused r) v = refused r

pub verdict-append : (ts us : List Test) → verdict (ts ++ us) ≡ and_then (verdict ts) (verdict us)
unfolding verdict
verdict-append [] us = refl
verdict-append (t ∷ ts) us = go t.holds (verdict-append ts us)
  where
    go : (b : Bool) → verdict (ts ++ us) ≡ and_then (verdict ts) (verdict us)
        → cond b (refused t.refusal) (verdict (ts ++ us)) ≡ and_then (cond b (refused t.refusal) (verdict ts)) (verdict us)
    go true e = refl
    go false e = e

-- two groups: the first refuses, or the second decides
module _ (ts us : List Test) where
  pub fault-first : (r : Refusal) → refused r ≡ verdict ts → refused r ≡ verdict (ts ++ us)
  fault-first r e = ap (λ (u : Verdict). and_then u (verdict us)) e ∙ sym (verdict-append ts us)

  pub fault-second : accepted ≡ verdict ts → verdict us ≡ verdict (ts ++ us)
  fault-second e = ap (λ (u : Verdict). and_then u (verdict us)) e ∙ sym (verdict-append ts us)

-- ---- the coordinates

-- some coordinate is not finite exactly where the first such position is inside the list
pub bad-test : (i : ℕ) (cs : List Float) → any_of (λ x. not (finite x)) cs ≡ ltb (first_bad i cs) (i + length cs)
unfolding first_bad any_of
bad-test i [] = sym (le-ltb i (i + 0) (omega arith))
bad-test i (x ∷ xs) = go (finite x) (bad-test (suc i) xs)
  where
    go : (b : Bool) → any_of (λ x. not (finite x)) xs ≡ ltb (first_bad (suc i) xs) (suc i + length xs)
        → (not b || any_of (λ x. not (finite x)) xs) ≡ ltb (cond b (first_bad (suc i) xs) i) (i + length (x ∷ xs))
    go true e = let m : suc i + length xs ≡ i + length (x ∷ xs) = omega arith in e ∙ ap (λ (k : ℕ). ltb (first_bad (suc i) xs) k) m
    go false e = sym (lt-ltb i (i + length (x ∷ xs)) (omega arith))
