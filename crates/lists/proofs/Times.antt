-- How often a number stands in a list, and lists without repeats. Assumes nothing.
-- Holds: times-nil, times-one, times-other, times-cons, times-append, mem-times, times-mem, member-some, member-times,
--   member-none, from-times, to-times, times-keep-in, times-keep-out, times-keep-le, once-tail, once-head, once-keep,
--   members-count, others-count, members-length, members-times, once-short, once-length, members-few, member-zero, times_more,
--   once-differ
use mathlib.Core.Path.{◌≡◌, refl, sym, ap, ◌∙◌, subst}
use mathlib.Core.Bool.{Bool, true, false, not, ◌||◌}
use mathlib.Core.List.{List, [], ◌∷◌, ◌++◌, Memᴰ}
use Prim.Native.Nat.{ℕ, suc, ◌+◌, ◌≤◌, ◌<◌}
use native.Mathlib.Omega.{arith}
use native.Mathlib.Decide.{dec_lt, ℕ_discrete}
use borrow.Author.Tests.{eqb-true, eq-eqb, ne_eqb}
use lib.Dec.{eqb}
use lib.ListN.{length, get_or, take, drop, length-drop}
use lib.Seq.{get_or-take, get_or-drop, length-take-le}
use Rattle.lists.specs.Lists.{one_if, cons_if, keep, count, member}
use Rattle.lists.specs.Ascends.{All}
use Rattle.lists.specs.Times.{times, Once}
use Rattle.lists.proofs.Tests.{clash, eqb_comm}
use Rattle.lists.proofs.All.{all-of, all-mem}
use Rattle.lists.proofs.Count.{count-append, count_none, count-or, count_same, count-not, count-len, length-keep, count-or-le, count-halves}
use Rattle.lists.proofs.Members.{member-mem, mem-member, not-member, member-cons, none_any, mem-at}

-- ---- element by element
pub times-nil : (r : ℕ) → times r [] ≡ 0
unfolding count
times-nil r = refl

pub times-one : (r : ℕ) (xs : List ℕ) → times r (r ∷ xs) ≡ suc (times r xs)
unfolding count
times-one r xs = rw (eq-eqb r r refl) (omega arith)

pub times-other : (r x : ℕ) (xs : List ℕ) → (x ≡ r → ⊥) → times r (x ∷ xs) ≡ times r xs
unfolding count
times-other r x xs n = rw (ne_eqb x r n) (omega arith)

pub times-cons : (r x : ℕ) (xs : List ℕ) → times r xs ≤ times r (x ∷ xs)
unfolding count
times-cons r x xs = omega arith

pub times-append : (r : ℕ) (xs ys : List ℕ) → times r (xs ++ ys) ≡ times r xs + times r ys
times-append r xs ys = count-append (λ x. eqb x r) xs ys

-- ---- a member stands in the list at least once
pub mem-times : (l : List ℕ) (z : ℕ) → Memᴰ z l → 0 < times z l
mem-times [] z x' = elim x' [ ]
mem-times (x ∷ l) z (mathlib.Core.List.Memᴰ.head e) = rw (← e) (omega (arith, times-one z l))
mem-times (x ∷ l) z (mathlib.Core.List.Memᴰ.tail m) = omega (arith, mem-times l z m, times-cons z x l)

pub times-mem : (l : List ℕ) (z : ℕ) → 0 < times z l → Memᴰ z l
times-mem [] z h = absurd (omega (arith, times-nil z))
times-mem (x ∷ l) z h = elim (ℕ_discrete x z) [
  | yes e ↦ mathlib.Core.List.Memᴰ.head (sym e)
  | no n ↦ mathlib.Core.List.Memᴰ.tail (times-mem l z (omega (arith, times-other z x l n)))
]

pub member-some : (r : ℕ) (xs : List ℕ) → 0 < times r xs → member r xs ≡ true
member-some r xs h = mem-member xs r (times-mem xs r h)

pub member-times : (r : ℕ) (xs : List ℕ) → member r xs ≡ true → 0 < times r xs
member-times r xs h = mem-times xs r (member-mem xs r h)

pub member-none : (r : ℕ) (xs : List ℕ) → times r xs ≡ 0 → member r xs ≡ false
member-none r xs h = not-member xs r (λ m. omega (arith, mem-times xs r m))

-- what holds of each number of a list
pub from-times : (P : ℕ → Type 0) (xs : List ℕ) → ((r : ℕ) → 0 < times r xs → P r) → All P xs
from-times P xs h = all-of P xs (λ r m. h r (mem-times xs r m))

pub to-times : (P : ℕ → Type 0) (xs : List ℕ) → All P xs → (r : ℕ) → 0 < times r xs → P r
to-times P xs h r m = all-mem P xs h r (times-mem xs r m)

-- ---- what is kept
cons_if-in : (b : Bool) (r x : ℕ) (xs : List ℕ) → (x ≡ r → b ≡ true) → times r (cons_if b x xs) ≡ one_if (eqb x r) + times r xs
unfolding count
cons_if-in true r x xs h = refl
cons_if-in false r x xs h = elim (ℕ_discrete x r) [
  | yes e ↦ clash (h e) refl
  | no n ↦ rw (ne_eqb x r n) (omega arith)
]

pub times-keep-in : (p : ℕ → Bool) (xs : List ℕ) (r : ℕ) → p r ≡ true → times r (keep p xs) ≡ times r xs
unfolding keep count
times-keep-in p [] r h = refl
times-keep-in p (x ∷ xs) r h =
    cons_if-in (p x) r x (keep p xs) (λ e. ap p e ∙ h) ∙ ap (λ (n : ℕ). one_if (eqb x r) + n) (times-keep-in p xs r h)

cons_if-out : (b : Bool) (r x : ℕ) (xs : List ℕ) → (x ≡ r → b ≡ false) → times r (cons_if b x xs) ≡ times r xs
unfolding count
cons_if-out false r x xs h = refl
cons_if-out true r x xs h = elim (ℕ_discrete x r) [
  | yes e ↦ clash refl (h e)
  | no n ↦ rw (ne_eqb x r n) (omega arith)
]

pub times-keep-out : (p : ℕ → Bool) (xs : List ℕ) (r : ℕ) → p r ≡ false → times r (keep p xs) ≡ 0
unfolding keep count
times-keep-out p [] r h = refl
times-keep-out p (x ∷ xs) r h = cons_if-out (p x) r x (keep p xs) (λ e. ap p e ∙ h) ∙ times-keep-out p xs r h

pub times-keep-le : (p : ℕ → Bool) (xs : List ℕ) (r : ℕ) → times r (keep p xs) ≤ times r xs
times-keep-le p xs r = go (p r) refl
  where
    go : (b : Bool) → p r ≡ b → times r (keep p xs) ≤ times r xs
    go true e = omega (arith, times-keep-in p xs r e)
    go false e = omega (arith, times-keep-out p xs r e)

-- ---- lists without repeats
pub once-tail : (x : ℕ) (xs : List ℕ) → Once (x ∷ xs) → Once xs
once-tail x xs o r = omega (arith, o r, times-cons r x xs)

pub once-head : (x : ℕ) (xs : List ℕ) → Once (x ∷ xs) → Memᴰ x xs → ⊥
once-head x xs o m = omega (arith, o x, times-one x xs, mem-times xs x m)

pub once-keep : (p : ℕ → Bool) (xs : List ℕ) → Once xs → Once (keep p xs)
once-keep p xs o r = omega (arith, o r, times-keep-le p xs r)

-- of a list without repeats, as many are members of ys as ys has, where ys has no repeats and holds only such numbers
pub members-count : (xs : List ℕ) → Once xs → (ys : List ℕ) → ((r : ℕ) → times r ys ≤ times r xs) → count (λ i. member i ys) xs ≡ length ys
members-count xs o [] h = count_none (λ i. member i []) xs (λ i m. member-none i [] (times-nil i))
members-count xs o (y ∷ ys) h =
    count_same (λ i. member i (y ∷ ys)) (λ i. eqb y i || member i ys) xs (λ i m. member-cons i y ys)
    ∙ count-or (λ i. eqb y i) (λ i. member i ys) xs (λ i m e. subst (λ (j : ℕ). member j ys ≡ false) (eqb-true y i e) (member-none y ys once))
    ∙ (let a : count (λ i. eqb y i) xs ≡ times y xs = count_same (λ i. eqb y i) (λ i. eqb i y) xs (λ i m. eqb_comm y i) in
    let b = members-count xs o ys (λ r. le r) in
    omega (arith, h y, o y, times-one y ys))
  where
    once : times y ys ≡ 0
    once = omega (arith, h y, o y, times-one y ys)

    le : (r : ℕ) → times r ys ≤ times r xs
    le r = omega (arith, h r, times-cons r y ys)

-- so the rest is as many as are left
pub others-count : (xs : List ℕ) → Once xs → (ys : List ℕ) → ((r : ℕ) → times r ys ≤ times r xs)
    → length ys + length (keep (λ i. not (member i ys)) xs) ≡ length xs
others-count xs o ys h =
    omega (arith, members-count xs o ys h, count-not (λ i. member i ys) xs, length-keep (λ i. not (member i ys)) xs)

pub members-length : (xs : List ℕ) → Once xs → (ys : List ℕ) → ((r : ℕ) → times r ys ≤ times r xs) → length (keep (λ i. member i ys) xs) ≡ length ys
members-length xs o ys h = length-keep (λ i. member i ys) xs ∙ members-count xs o ys h

-- the kept members are the numbers of ys, each as often
pub members-times : (xs : List ℕ) → Once xs → (ys : List ℕ) → ((r : ℕ) → times r ys ≤ times r xs) → (r : ℕ) → times r (keep (λ i. member i ys) xs) ≡ times r ys
members-times xs o ys h r = elim (dec_lt 0 (times r ys)) [
  | yes m ↦ omega (arith, times-keep-in (λ i. member i ys) xs r (member-some r ys m), h r, o r)
  | no n ↦ let z : times r ys ≡ 0 = omega arith in omega (arith, times-keep-out (λ i. member i ys) xs r (member-none r ys z))
]

-- a list is no longer than one without repeats that holds each of its numbers as often, and as long where they hold the same
pub once-short : (xs ys : List ℕ) → Once xs → ((r : ℕ) → times r ys ≤ times r xs) → length ys ≤ length xs
once-short xs ys o h = omega (arith, members-count xs o ys h, count-len (λ i. member i ys) xs)

pub once-length : (xs ys : List ℕ) → Once xs → ((r : ℕ) → times r ys ≡ times r xs) → length ys ≡ length xs
once-length xs ys o h =
    let a = once-short xs ys o (λ r. omega (arith, h r)) in
    let b = once-short ys xs (λ r. omega (arith, h r, o r)) (λ r. omega (arith, h r)) in
    omega arith

-- of a list without repeats, no more are members of ys than ys has elements
pub members-few : (xs : List ℕ) → Once xs → (ys : List ℕ) → count (λ i. member i ys) xs ≤ length ys
members-few xs o [] = omega (arith, count_none (λ i. member i []) xs (λ i m. member-none i [] (times-nil i)))
members-few xs o (y ∷ ys) =
    let a = count_same (λ i. member i (y ∷ ys)) (λ i. eqb y i || member i ys) xs (λ i m. member-cons i y ys) in
    let b = count-or-le (λ i. eqb y i) (λ i. member i ys) xs in
    let c : count (λ i. eqb y i) xs ≡ times y xs = count_same (λ i. eqb y i) (λ i. eqb i y) xs (λ i m. eqb_comm y i) in
    omega (arith, members-few xs o ys, o y)

-- a number that is no member stands nowhere
pub member-zero : (x : ℕ) (l : List ℕ) → member x l ≡ false → times x l ≡ 0
unfolding member
member-zero x l h = count_none (λ y. eqb y x) l (λ y m. none_any (λ y. eqb y x) l h m)

-- it is one of xs, and not yet in ys, whose numbers stand in xs as often
pub times_more : (xs ys : List ℕ) (x : ℕ) → ((r : ℕ) → times r ys ≤ times r xs) → 0 < times x xs → times x ys ≡ 0 → (r : ℕ) → times r (ys ++ x ∷ []) ≤ times r xs
times_more xs ys x h m n r = elim (ℕ_discrete x r) [
  | yes e ↦ subst (λ (y : ℕ). times y (ys ++ x ∷ []) ≤ times y xs) e (omega (arith, times-append x ys (x ∷ []), times-one x [], times-nil x))
  | no k ↦ omega (arith, times-append r ys (x ∷ []), times-other r x [] k, times-nil r, h r)
]

-- a list without repeats holds different numbers at different indices
pub once-differ : (l : List ℕ) → Once l → (i j : ℕ) → i < j → j < length l → get_or l i 0 ≡ get_or l j 0 → ⊥
once-differ l o i j h g e =
    let x = get_or l j 0 in
    let n : length (take j l) ≡ j = length-take-le j l (omega arith) in
    let a : Memᴰ x (take j l) = rw (← e, ← get_or-take j l i 0 h) (mem-at (take j l) i 0 (omega arith)) in
    let z : j + 0 ≡ j = omega arith in
    let b : get_or (drop j l) 0 0 ≡ x = get_or-drop j l 0 0 ∙ ap (λ (m : ℕ). get_or l m 0) z in
    let c : Memᴰ x (drop j l) = subst (λ (y : ℕ). Memᴰ y (drop j l)) b (mem-at (drop j l) 0 0 (omega (arith, length-drop j l))) in
    omega (arith, o x, count-halves (λ y. eqb y x) j l, mem-times (take j l) x a, mem-times (drop j l) x c)
