-- A key that comes before the key of a half comes before every row under it. Assumes nothing.
use mathlib.Core.Path.{◌≡◌, refl}
use mathlib.Core.Logic.{◌⊎◌, inl, inr, ⊎_elim}
use mathlib.Core.Bool.{Bool, true, false, ◌&&◌, ◌||◌}
use Prim.Native.Nat.{ℕ, ◌≤◌, ◌<◌}
use native.Mathlib.Omega.{arith}
use borrow.Author.Tests.{ltb-true, lt-ltb, le-ltb}
use lib.Dec.{T, ltb}
use lib.Ieee.{Float, lt, eq, le}
use Rattle.lists.proofs.Tests.{clash, and-of, and-fst, and-snd, or_cases, or_left, or_right}
use Rattle.definition.specs.Keys.{Key, before}
use Rattle.definition.proofs.Order.{before-trans}

-- a test that holds passes
of-T : (b : Bool) → T b → b ≡ true
of-T true h = refl
of-T false h = absurd h

abbrev key : Float → ℕ → Key
key x i = record { value = x; row = i }

module _ (x g v : Float) (up : (lt g v ≡ true) ⊎ (eq g v ≡ true)) where
  -- (g, i) comes before (v, j) for i < j
  onward : (i j : ℕ) → i < j → before (key g i) (key v j) ≡ true
  unfolding before
  onward i j h =
      ⊎_elim (λ a. or_left (lt g v) (eq g v && ltb i j) a) (λ b. or_right (lt g v) (eq g v && ltb i j) (and-of b (lt-ltb i j h))) up

  -- a smaller value stays smaller
  less-on : lt x g ≡ true → lt x v ≡ true
  unfolding before
  less-on a =
      let b = before-trans (key x 1) (key g 0) (key v 1) (or_left (lt x g) (eq x g && ltb 1 0) a) (onward 0 1 (omega arith)) in
      ⊎_elim (λ c. c) (λ c. clash (and-snd (eq x v) (ltb 1 1) c) (le-ltb 1 1 (omega arith))) (or_cases (lt x v) (eq x v && ltb 1 1) b)

  -- an equal one stays equal or becomes smaller
  equal-on : eq x g ≡ true → (lt x v ≡ true) ⊎ (eq x v ≡ true)
  unfolding before
  equal-on a =
      let b = before-trans (key x 0) (key g 1) (key v 2) (or_right (lt x g) (eq x g && ltb 0 1) (and-of a (lt-ltb 0 1 (omega arith)))) (onward 1 2 (omega arith)) in
      ⊎_elim (λ c. inl c) (λ c. inr (and-fst (eq x v) (ltb 0 2) c)) (or_cases (lt x v) (eq x v && ltb 0 2) b)

  half-on : (i l r : ℕ) → l ≤ r → before (key x i) (key g l) ≡ true → before (key x i) (key v r) ≡ true
  unfolding before
  half-on i l r h a =
      ⊎_elim (λ b. or_left (lt x v) (eq x v && ltb i r) (less-on b))
      (λ b. let c = ltb-true i l (and-snd (eq x g) (ltb i l) b) in
      let d = lt-ltb i r (omega arith) in
      ⊎_elim (λ e. or_left (lt x v) (eq x v && ltb i r) e) (λ e. or_right (lt x v) (eq x v && ltb i r) (and-of e d)) (equal-on (and-fst (eq x g) (ltb i l) b)))
      (or_cases (lt x g) (eq x g && ltb i l) a)

-- THE LAW: the key of a half is (gap of its box, least row under it)
pub half-before : (w half row : Key) → T (le half.value row.value) → half.row ≤ row.row → before w half ≡ true → before w row ≡ true
unfolding le
half-before w half row g h a =
    half-on w.value half.value row.value (or_cases (lt half.value row.value) (eq half.value row.value) (of-T (lt half.value row.value || eq half.value row.value) g))
    w.row half.row row.row h a
