-- Lists one after the other: their length and counts, one more list, and each list found again as a stretch. Assumes nothing.
-- Holds: joined-nil, joined-cons, joined-one, joined-append, joined_snoc, length-joined, count-joined, joined_at, joined-fits,
--   get_d-joined, even-lengths, joined-even, joined-map-append, joined-map-snoc, joined-map-more, joined-map-even, parts-front,
--   two-lists, sum-joined
use mathlib.Core.Path.{◌≡◌, refl, sym, ap, ◌∙◌}
use Prim.Native.Nat.{ℕ, zero, suc, ◌+◌, ◌*◌, ◌≤◌, ◌<◌}
use native.Mathlib.Nat.{zero-add, add_assoc, mul-suc, not-suc-le-zero, mul-zero}
use native.Mathlib.Numerals.{add-one}
use native.Mathlib.Omega.{arith}
use mathlib.Core.Bool.{Bool}
use mathlib.Core.List.{List, [], ◌∷◌, ◌++◌, map, map-append, append_assoc, append-nil, Memᴰ}
use lib.ListN.{length, get_or, take, length-append, length-map, get_or-append}
use lib.Seq.{take_at, take-add, take-suc, drop-append-add, get_or-append-add}
use lib.Dec.{eqb}
use Rattle.lists.specs.Lists.{count, total, from, joined, part}
use Rattle.lists.specs.Ascends.{All}
use Rattle.lists.proofs.All.{all_map, all-of}
use Rattle.lists.proofs.Count.{count-append}
use Rattle.lists.proofs.Members.{mem-at, mem-joined}
use Rattle.lists.specs.Times.{times}
use Rattle.lists.proofs.Times.{mem-times}
use Rattle.lists.proofs.Sums.{sum-append}
use Rattle.lists.proofs.From.{below-snoc}

module _ {A : Type 0} where
  -- ---- list by list
  pub joined-nil : joined {A = A} [] ≡ []
  unfolding joined
  joined-nil = refl

  pub joined-cons : (l : List A) (ls : List (List A)) → joined (l ∷ ls) ≡ l ++ joined ls
  unfolding joined
  joined-cons l ls = refl

  pub joined-one : (l : List A) → joined (l ∷ []) ≡ l
  unfolding joined
  joined-one l = append-nil l

  pub joined-append : (xs ys : List (List A)) → joined (xs ++ ys) ≡ joined xs ++ joined ys
  unfolding joined
  joined-append [] ys = refl
  joined-append (x ∷ xs) ys = rw (joined-append xs ys) (sym (append_assoc x (joined xs) (joined ys)))

  -- one more list: the turn of a loop that writes one list after the other
  pub joined_snoc : (ls : List (List A)) (l : List A) → joined (ls ++ l ∷ []) ≡ joined ls ++ l
  joined_snoc ls l = joined-append ls (l ∷ []) ∙ ap (λ (r : List A). joined ls ++ r) (joined-one l)

  -- ---- the length, the counts, and what is kept
  pub length-joined : (ls : List (List A)) → length (joined ls) ≡ total (map length ls)
  unfolding joined total
  length-joined [] = refl
  length-joined (l ∷ ls) = omega (arith, length-append l (joined ls), length-joined ls)

  pub count-joined : (p : A → Bool) (ls : List (List A)) → count p (joined ls) ≡ total (map (count p) ls)
  unfolding joined total count
  count-joined p [] = refl
  count-joined p (l ∷ ls) = omega (arith, count-append p l (joined ls), count-joined p ls)

  -- ---- the list at k starts where the lists before it end
  pub joined_at : (ls : List (List A)) (rest : List A) (k : ℕ) → k < length ls
      → part (joined ls ++ rest) (total (map length (take k ls))) (length (get_or ls k [])) ≡ get_or ls k []
  unfolding joined total part
  joined_at [] rest k h = absurd (not-suc-le-zero h)
  joined_at (l ∷ ls) rest zero h = rw append_assoc (take_at l (joined ls ++ rest) (length l) refl)
  joined_at (l ∷ ls) rest (suc k) h =
      rw (append_assoc, drop-append-add l (joined ls ++ rest) (total (map length (take k ls)))) (joined_at ls rest k (omega arith))

  pub joined-fits : (ls : List (List A)) (k : ℕ) → k < length ls → total (map length (take k ls)) + length (get_or ls k []) ≤ length (joined ls)
  unfolding joined total
  joined-fits [] k h = absurd (not-suc-le-zero h)
  joined-fits (l ∷ ls) zero h = omega (arith, length-append l (joined ls))
  joined-fits (l ∷ ls) (suc k) h = omega (arith, length-append l (joined ls), joined-fits ls k (omega arith))

  -- the element at i of the list at k
  pub get_d-joined : (ls : List (List A)) (k i : ℕ) (d : A) → k < length ls → i < length (get_or ls k [])
      → get_or (joined ls) (total (map length (take k ls)) + i) d ≡ get_or (get_or ls k []) i d
  unfolding joined total
  get_d-joined [] k i d h g = absurd (not-suc-le-zero h)
  get_d-joined (l ∷ ls) zero i d h g = rw zero-add (get_or-append l (joined ls) d i g)
  get_d-joined (l ∷ ls) (suc k) i d h g =
      rw (add_assoc, get_or-append-add l (joined ls) (total (map length (take k ls)) + i) d) (get_d-joined ls k i d (omega arith) g)

  -- lists of one length
  pub even-lengths : (n : ℕ) (ls : List (List A)) → All (λ l. length l ≡ n) ls → (k : ℕ) → k ≤ length ls → total (map length (take k ls)) ≡ n * k
  unfolding total All
  even-lengths n [] h zero g = omega arith
  even-lengths n [] h (suc k) g = absurd (not-suc-le-zero g)
  even-lengths n (l ∷ ls) h zero g = omega arith
  even-lengths n (l ∷ ls) h (suc k) g = omega (arith, mul-suc n k, h.0, even-lengths n ls h.1 k (omega arith))

  pub joined-even : (w : ℕ) (ls : List (List A)) → All (λ l. length l ≡ w) ls → length (joined ls) ≡ w * length ls
  unfolding joined All
  joined-even w [] h = sym (mul-zero w)
  joined-even w (l ∷ ls) h = length-append l (joined ls) ∙ omega (arith, h.0, joined-even w ls h.1, mul-suc w (length ls))

-- ---- the lists f x of a list's elements, one after the other
module _ {A B : Type 0} (f : A → List B) where
  pub joined-map-append : (xs ys : List A) → joined (map f (xs ++ ys)) ≡ joined (map f xs) ++ joined (map f ys)
  joined-map-append xs ys = ap joined (map-append f xs ys) ∙ joined-append (map f xs) (map f ys)

  pub joined-map-snoc : (xs : List A) (x : A) → joined (map f (xs ++ x ∷ [])) ≡ joined (map f xs) ++ f x
  joined-map-snoc xs x = ap joined (map-append f xs (x ∷ [])) ∙ joined_snoc (map f xs) (f x)

  -- the same with the code's i + 1
  pub joined-map-more : (xs : List A) (i : ℕ) (d : A) → i < length xs → joined (map f (take (i + 1) xs)) ≡ joined (map f (take i xs)) ++ f (get_or xs i d)
  joined-map-more xs i d h = rw (add-one i, take-suc xs i d h) (joined-map-snoc (take i xs) (get_or xs i d))

-- each of one length
pub joined-map-even : {A B : Type 0} (f : A → List B) (w : ℕ) → ((x : A) → length (f x) ≡ w) → (xs : List A) → length (joined (map f xs)) ≡ w * length xs
joined-map-even f w even xs =
    joined-even w (map f xs) (all_map (λ l. length l ≡ w) f xs (all-of (λ x. length (f x) ≡ w) xs (λ x m. even x))) ∙ ap (λ (n : ℕ). w * n) (length-map xs f)

-- stretches of one length are the list's front
pub parts-front : {A : Type 0} (l : List A) (w n : ℕ) → joined (map (λ j. part l (w * j) w) (from 0 n)) ≡ take (w * n) l
unfolding joined from part
parts-front l w zero = ap (λ (k : ℕ). take k l) (sym (mul-zero w))
parts-front l w (suc n) =
    ap (λ (js : List ℕ). joined (map (λ j. part l (w * j) w) js)) (below-snoc n) ∙ joined-map-snoc (λ j. part l (w * j) w) (from 0 n) n
    ∙ ap (λ (r : List _). r ++ part l (w * n) w) (parts-front l w n)
    ∙ sym (take-add (w * n) w l) ∙ ap (λ (k : ℕ). take k l) (sym (mul-suc w n))

-- ---- a number in two of the lists stands twice in the whole
pub two-lists : (z : ℕ) (ls : List (List ℕ)) (j k : ℕ) → j < k → k < length ls → Memᴰ z (get_or ls j []) → Memᴰ z (get_or ls k []) → 2 ≤ times z (joined ls)
unfolding joined
two-lists z [] j k h g a b = absurd (not-suc-le-zero g)
two-lists z (l ∷ ls) j zero h g a b = absurd (not-suc-le-zero h)
two-lists z (l ∷ ls) zero (suc k) h g a b =
    omega (arith, count-append (λ y. eqb y z) l (joined ls), mem-times l z a, mem-times (joined ls) z (mem-joined ls (mem-at ls k [] (omega arith)) b))
two-lists z (l ∷ ls) (suc j) (suc k) h g a b =
    omega (arith, count-append (λ y. eqb y z) l (joined ls), two-lists z ls j k (omega arith) (omega arith) a b)

-- ---- a sum over lists together
pub sum-joined : {A : Type 0} (f : A → ℕ) (ls : List (List A)) → total (map f (joined ls)) ≡ total (map (λ l. total (map f l)) ls)
unfolding total joined
sum-joined f [] = refl
sum-joined f (l ∷ ls) = omega (arith, sum-append f l (joined ls), sum-joined f ls)
