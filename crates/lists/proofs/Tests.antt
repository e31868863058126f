-- Tests that pass or fail, and what follows from two of them. Assumes nothing.
-- Holds: clash, true-or-false, and-of, and-fst, and-snd, and-true, both-pass, three-pass, four-pass, five-pass, or_cases,
--   or-none, or_left, or_right, or_assoc, or-false, or-true, same_test, fails, cond-true, cond-false, eqb_comm, same_or, le-or-lt
use mathlib.Core.Path.{◌≡◌, refl, sym, ◌∙◌}
use mathlib.Core.Logic.{◌⊎◌, inl, inr, ⊎_elim}
use mathlib.Core.Bool.{Bool, true, false, ◌&&◌, ◌||◌, cond, true≢false}
use Prim.Native.Nat.{ℕ, ◌≤◌, ◌<◌}
use native.Mathlib.Decide.{ℕ_discrete}
use lib.Dec.{eqb, leb}
use borrow.Author.Tests.{eq-eqb, ne_eqb, leb-true, leb-false}

-- ---- no test both passes and fails, and each does one of the two
pub clash : {A : Type 0} {b : Bool} → b ≡ true → b ≡ false → A
clash p q = absurd (true≢false (sym p ∙ q))

pub true-or-false : (b : Bool) → (b ≡ true) ⊎ (b ≡ false)
true-or-false true = inl refl
true-or-false false = inr refl

-- ---- both, and one of two
pub and-of : {b c : Bool} → b ≡ true → c ≡ true → b && c ≡ true
and-of p q = rw (p, q)

pub and-fst : (b c : Bool) → b && c ≡ true → b ≡ true
and-fst true c h = refl
and-fst false c h = h

pub and-snd : (b c : Bool) → b && c ≡ true → c ≡ true
and-snd true c h = h
and-snd false c h = absurd (true≢false (sym h))

pub and-true : (b : Bool) → b && true ≡ b
and-true true = refl
and-true false = refl

-- several
pub both-pass : {b c : Bool} → b && c ≡ true → (b ≡ true) × (c ≡ true)
both-pass {b} {c} h = (and-fst b c h, and-snd b c h)

pub three-pass : (a b c : Bool) → a && b && c ≡ true → (a ≡ true) × (b ≡ true) × (c ≡ true)
three-pass a b c h = let g = and-fst (a && b) c h in (and-fst a b g, and-snd a b g, and-snd (a && b) c h)

pub four-pass : (a b c d : Bool) → a && b && c && d ≡ true → (a ≡ true) × (b ≡ true) × (c ≡ true) × (d ≡ true)
four-pass a b c d h = let g = three-pass a b c (and-fst (a && b && c) d h) in (g.0, g.1, g.2, and-snd (a && b && c) d h)

pub five-pass : (a b c d e : Bool) → a && b && c && d && e ≡ true → (a ≡ true) × (b ≡ true) × (c ≡ true) × (d ≡ true) × (e ≡ true)
five-pass a b c d e h = let g = four-pass a b c d (and-fst (a && b && c && d) e h) in (g.0, g.1, g.2, g.3, and-snd (a && b && c && d) e h)

pub or_cases : (b c : Bool) → b || c ≡ true → (b ≡ true) ⊎ (c ≡ true)
or_cases true c h = inl refl
or_cases false c h = inr h

pub or-none : (b c : Bool) → b || c ≡ false → (b ≡ false) × (c ≡ false)
or-none true c h = absurd (true≢false h)
or-none false c h = (refl, h)

pub or_left : (b c : Bool) → b ≡ true → b || c ≡ true
or_left b c h = rw h

pub or_right : (b c : Bool) → c ≡ true → b || c ≡ true
or_right true c h = refl
or_right false c h = h

pub or_assoc : (a b c : Bool) → (a || b) || c ≡ a || (b || c)
or_assoc true b c = refl
or_assoc false b c = refl

pub or-false : (b : Bool) → b || false ≡ b
or-false true = refl
or-false false = refl

pub or-true : (b : Bool) → b || true ≡ true
or-true true = refl
or-true false = refl

-- ---- two tests are equal where each gives the other, and a test fails where its passing gives what is not
pub same_test : (b c : Bool) → (b ≡ true → c ≡ true) → (c ≡ true → b ≡ true) → b ≡ c
same_test true c f g = sym (f refl)
same_test false true f g = g refl
same_test false false f g = refl

pub fails : (b : Bool) → (b ≡ true → ⊥) → b ≡ false
fails true h = absurd (h refl)
fails false h = refl

-- ---- a choice by a test
pub cond-true : {A : Type 0} (t : Bool) (a b : A) → t ≡ true → cond t a b ≡ a
cond-true t a b e = rw e

pub cond-false : {A : Type 0} (t : Bool) (a b : A) → t ≡ false → cond t a b ≡ b
cond-false t a b e = rw e

-- ---- numbers
pub eqb_comm : (a b : ℕ) → eqb a b ≡ eqb b a
eqb_comm a b = elim (ℕ_discrete a b) [
  | yes e ↦ eq-eqb a b e ∙ sym (eq-eqb b a (sym e))
  | no n ↦ ne_eqb a b n ∙ sym (ne_eqb b a (λ e. n (sym e)))
]

pub same_or : (a b : ℕ) → (a ≡ b) ⊎ (a ≡ b → ⊥)
same_or a b = elim (ℕ_discrete a b) [ yes e ↦ inl e | no n ↦ inr n ]

pub le-or-lt : (m n : ℕ) → (m ≤ n) ⊎ (n < m)
le-or-lt m n = ⊎_elim (λ t. inl (leb-true m n t)) (λ f. inr (leb-false m n f)) (true-or-false (leb m n))
