-- Strictly ascending lists: of what is kept, of stretches, by index, and that its members make such a list. Assumes nothing.
-- Holds: ascends-keep, ascends-from, ascends-append, ascends-map, ascends-at, ascends-by-index, ascends_same, ascends-unique,
--   ascends-unique-count, ascends-once, once-ascends, ascends-differ, ascends-few, ascends-full
use mathlib.Core.Path.{◌≡◌, refl, sym, ap₂, subst, ◌∙◌}
use mathlib.Core.Logic.{◌⊎◌, inl, inr, ⊎_elim}
use Prim.Native.Nat.{ℕ, zero, suc, ◌+◌, ◌≤◌, ◌<◌}
use native.Mathlib.Omega.{arith}
use native.Mathlib.Nat.{not-suc-le-zero}
use mathlib.Core.Bool.{Bool, true, false}
use mathlib.Core.List.Memᴰ
use mathlib.Core.List.{List, [], ◌∷◌, ◌++◌, map, Memᴰ}
use lib.ListN.{length, get_or}
use native.Mathlib.Decide.{ℕ_discrete, dec_lt}
use Rattle.lists.specs.Lists.{cons_if, keep, from}
use Rattle.lists.specs.Ascends.{All, Ascends}
use Rattle.lists.proofs.All.{all_append, all_keep, all-at, all-by-index, all-mem, all-of}
use Rattle.lists.proofs.Members.{map-mem}
use Rattle.lists.proofs.From.{from-mem, mem-from, length_from}
use Rattle.lists.specs.Times.{times, Once}
use Rattle.lists.proofs.Times.{times-nil, times-one, times-other, mem-times, times-mem, once-short, once-differ}
use Rattle.lists.proofs.Tests.{same_or}

-- ---- what is kept, stretches, and the numbers from a on
pub ascends-keep : (p : ℕ → Bool) (l : List ℕ) → Ascends l → Ascends (keep p l)
unfolding Ascends keep
ascends-keep p [] h = tt
ascends-keep p (x ∷ l) h = go (p x) (ascends-keep p l h.1)
  where
    go : (b : Bool) → Ascends (keep p l) → Ascends (cons_if b x (keep p l))
    go true k = (all_keep (λ y. x < y) p l h.0, k)
    go false k = k

pub ascends-from : (a n : ℕ) → Ascends (from a n)
unfolding from Ascends
ascends-from a zero = tt
ascends-from a (suc n) =
    (all-of (λ y. a < y) (from (suc a) n) (λ y m. omega (arith, from-mem (suc a) n m)), ascends-from (suc a) n)

-- ---- two lists together, of which each element of the first is below each of the second
pub ascends-append : (xs ys : List ℕ) → Ascends xs → Ascends ys → All (λ x. All (λ y. x < y) ys) xs → Ascends (xs ++ ys)
unfolding Ascends All
ascends-append [] ys h g k = g
ascends-append (x ∷ xs) ys h g k = (all_append (λ y. x < y) xs ys h.0 k.0, ascends-append xs ys h.1 g k.1)

-- a map that keeps the order of the elements
pub ascends-map : (f : ℕ → ℕ) (l : List ℕ) → ((a b : ℕ) → Memᴰ a l → Memᴰ b l → a < b → f a < f b) → Ascends l → Ascends (map f l)
unfolding Ascends
ascends-map f [] g h = tt
ascends-map f (x ∷ l) g h = (
  all-of (λ y. f x < y) (map f l) (λ y m.
      let r = map-mem f l m in
      rw r.2 (g x r.0 (Memᴰ.head refl) (Memᴰ.tail r.1) (all-mem (λ z. x < z) l h.0 r.0 r.1))),
  ascends-map f l (λ a b m n. g a b (Memᴰ.tail m) (Memᴰ.tail n)) h.1,
)

-- ---- by index
pub ascends-at : (l : List ℕ) (a b : ℕ) → Ascends l → a < b → b < length l → get_or l a 0 < get_or l b 0
unfolding Ascends
ascends-at [] a b h g k = absurd (not-suc-le-zero k)
ascends-at (x ∷ l) a zero h g k = absurd (not-suc-le-zero g)
ascends-at (x ∷ l) zero (suc b) h g k = all-at (λ y. x < y) l b 0 h.0 (omega arith)
ascends-at (x ∷ l) (suc a) (suc b) h g k = ascends-at l a b h.1 (omega arith) (omega arith)

pub ascends-by-index : (l : List ℕ) → ((a b : ℕ) → a < b → b < length l → get_or l a 0 < get_or l b 0) → Ascends l
unfolding Ascends
ascends-by-index [] f = tt
ascends-by-index (x ∷ l) f =
    (all-by-index (λ y. x < y) l 0 (λ i h. f 0 (suc i) (omega arith) (omega arith)), ascends-by-index l (λ a b g h. f (suc a) (suc b) (omega arith) (omega arith)))

pub ascends_same : (l : List ℕ) (a b : ℕ) → Ascends l → a < length l → b < length l → get_or l a 0 ≡ get_or l b 0 → a ≡ b
ascends_same l a b up h g e = elim (dec_lt a b) [
  | yes s ↦ absurd (omega (arith, ascends-at l a b up s g))
  | no s ↦ elim (dec_lt b a) [ yes t ↦ absurd (omega (arith, ascends-at l b a up t h)) | no t ↦ omega arith ]
]

-- ---- two strictly ascending lists with the same members are equal
heads : (x y : ℕ) (xs ys : List ℕ) → All (λ z. x < z) xs → All (λ z. y < z) ys
    → (x ≡ y) ⊎ Memᴰ x ys → (y ≡ x) ⊎ Memᴰ y xs → x ≡ y
heads x y xs ys h g (inl e) t = e
heads x y xs ys h g (inr m) (inl e) = sym e
heads x y xs ys h g (inr m) (inr n) = omega (arith, all-mem (λ z. y < z) ys g x m, all-mem (λ z. x < z) xs h y n)

behind : (x y : ℕ) (xs ys : List ℕ) → x ≡ y → All (λ z. x < z) xs → ((z : ℕ) → Memᴰ z (x ∷ xs) → Memᴰ z (y ∷ ys)) → (z : ℕ) → Memᴰ z xs → Memᴰ z ys
behind x y xs ys e h f z m =
    let g : x < z = all-mem (λ w. x < w) xs h z m in
    ⊎_elim (λ (q : z ≡ y). absurd (omega arith)) (λ n. n) (Memᴰ.cases_cons (f z (Memᴰ.tail m)))

pub ascends-unique : (xs ys : List ℕ) → Ascends xs → Ascends ys
    → ((z : ℕ) → Memᴰ z xs → Memᴰ z ys) → ((z : ℕ) → Memᴰ z ys → Memᴰ z xs) → xs ≡ ys
unfolding Ascends
ascends-unique [] [] h g f k = refl
ascends-unique [] (y ∷ ys) h g f k = absurd (Memᴰ.not-nil (k y (Memᴰ.head refl)))
ascends-unique (x ∷ xs) [] h g f k = absurd (Memᴰ.not-nil (f x (Memᴰ.head refl)))
ascends-unique (x ∷ xs) (y ∷ ys) h g f k =
    let e : x ≡ y = heads x y xs ys h.0 g.0 (Memᴰ.cases_cons (f x (Memᴰ.head refl))) (Memᴰ.cases_cons (k y (Memᴰ.head refl))) in
    rw (e, ascends-unique xs ys h.1 g.1 (behind x y xs ys e h.0 f) (behind y x ys xs (sym e) g.0 k))

-- the same, by how often each number stands in them
pub ascends-unique-count : (xs ys : List ℕ) → Ascends xs → Ascends ys → ((z : ℕ) → times z xs ≡ times z ys) → xs ≡ ys
ascends-unique-count xs ys h g f =
    ascends-unique xs ys h g
    (λ z m. times-mem ys z (omega (arith, f z, mem-times xs z m)))
    (λ z m. times-mem xs z (omega (arith, f z, mem-times ys z m)))

-- ---- a strictly ascending list holds no number twice
none_above : (l : List ℕ) (z : ℕ) → All (λ y. z < y) l → times z l ≡ 0
unfolding All
none_above [] z h = times-nil z
none_above (x ∷ l) z h = times-other z x l (λ e. omega (arith, h.0)) ∙ none_above l z h.1

pub ascends-once : (l : List ℕ) → Ascends l → Once l
unfolding Ascends
ascends-once [] h z = omega (arith, times-nil z)
ascends-once (x ∷ l) h z = elim (ℕ_discrete x z) [
  | yes e ↦ rw (← e) (omega (arith, times-one x l, none_above l x h.0))
  | no n ↦ omega (arith, times-other z x l n, ascends-once l h.1 z)
]

-- ---- a strictly ascending list is no longer than one with all its members
-- a list without repeats whose numbers do not descend
pub once-ascends : (l : List ℕ) → Once l → ((i j : ℕ) → i < j → j < length l → get_or l i 0 ≤ get_or l j 0) → Ascends l
once-ascends l o s = ascends-by-index l (λ i j h g. less (s i j h g) (once-differ l o i j h g))
  where
    less : {x y : ℕ} → x ≤ y → (x ≡ y → ⊥) → x < y
    less {x} {y} a n = elim (same_or x y) [ inl e ↦ absurd (n e) | inr m ↦ omega arith ]

-- ---- ascending numbers at two places differ
pub ascends-differ : (l : List ℕ) (a b : ℕ) → Ascends l → a < length l → b < length l → (a ≡ b → ⊥) → get_or l a 0 ≡ get_or l b 0 → ⊥
ascends-differ l a b s h k n e = n (ascends_same l a b s h k e)

-- ---- numbers below n are no more than n; those from a on and below a + n are all of them where they are n
pub ascends-few : (n : ℕ) (l : List ℕ) → Ascends l → All (λ x. x < n) l → length l ≤ n
ascends-few n l up h = omega (arith, once-short (from 0 n) l (ascends-once (from 0 n) (ascends-from 0 n)) within, length_from 0 n)
  where
    within : (r : ℕ) → times r l ≤ times r (from 0 n)
    within r = elim (dec_lt 0 (times r l)) [
      | yes m ↦
          let below = all-mem (λ x. x < n) l h r (times-mem l r m) in
          omega (arith, ascends-once l up r, mem-times (from 0 n) r (mem-from 0 n (omega arith) (omega (arith, below))))
      | no k ↦ omega arith
    ]

lowest : (a x n : ℕ) → a ≤ x → x < a + suc n → All (λ y. x < y) (from (suc a) n) → x ≡ a
unfolding from All
lowest a x zero h g k = omega arith
lowest a x (suc n) h g k = omega (arith, k.0)

pub ascends-full : (a n : ℕ) (xs : List ℕ) → Ascends xs → ((x : ℕ) → Memᴰ x xs → (a ≤ x) × (x < a + n)) → length xs ≡ n → xs ≡ from a n
unfolding from Ascends
ascends-full a zero [] up h e = refl
ascends-full a zero (x ∷ xs) up h e = absurd (omega arith)
ascends-full a (suc n) [] up h e = absurd (omega arith)
ascends-full a (suc n) (x ∷ xs) up h e =
    let b = h x (Memᴰ.head refl) in
    let t : xs ≡ from (suc a) n = ascends-full (suc a) n xs up.1 (λ y m. omega (arith, b, all-mem (λ z. x < z) xs up.0 y m, h y (Memᴰ.tail m))) (omega arith) in
    let z : x ≡ a = lowest a x n b.0 b.1 (subst (λ (l : List ℕ). All (λ y. x < y) l) t up.0) in
    ap₂ (λ (y : ℕ) (ys : List ℕ). y ∷ ys) z t
