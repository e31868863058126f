-- Choices, counts, sums and stretches of lists, which the definition of the build is written in. Definitions only.
use Rattle.std.specs.Prelude.{ℕ, zero, suc, ◌+◌, Bool, true, false, ◌||◌, cond, List, [], ◌∷◌, ◌++◌, eqb, length, take, drop}

-- ---- tests

-- 1 where the test passes, and 0 otherwise
abbrev pub one_if : Bool → ℕ
one_if true = 1
one_if false = 0

-- x in front of xs where the test passes, and xs otherwise
abbrev pub cons_if : {A : Type 0} → Bool → A → List A → List A
cons_if true x xs = x ∷ xs
cons_if false x xs = xs

-- the elements that pass the test, in their order
unfoldable pub keep : {A : Type 0} → (A → Bool) → List A → List A
keep p [] = []
keep p (x ∷ xs) = cons_if (p x) x (keep p xs)

-- how many elements pass the test
unfoldable pub count : {A : Type 0} → (A → Bool) → List A → ℕ
count p [] = 0
count p (x ∷ xs) = one_if (p x) + count p xs

-- whether some element passes the test
unfoldable pub any_of : {A : Type 0} → (A → Bool) → List A → Bool
any_of p [] = false
any_of p (x ∷ xs) = p x || any_of p xs

-- whether the number i is in the list
unfoldable pub member : ℕ → List ℕ → Bool
member i xs = any_of (λ x. eqb x i) xs

-- Of x and the elements of the list, the first that no other is better than: a later one takes the place of an
-- earlier one only where it is better.
unfoldable pub best : {A : Type 0} → (A → A → Bool) → A → List A → A
best better x [] = x
best better x (y ∷ ys) = best better (cond (better y x) y x) ys

-- the first of k, k + 1, .., k + d - 1 that passes the test p, or k + d where none does
unfoldable pub least_from : (ℕ → Bool) → ℕ → ℕ → ℕ
least_from p k zero = k
least_from p k (suc d) = let later = least_from p (suc k) d in cond (p k) k later

-- the least number that passes the test p, or b where none below b does
abbrev pub least : (ℕ → Bool) → ℕ → ℕ
least p b = least_from p 0 b

-- ---- numbers

-- the sum of the numbers
unfoldable pub total : List ℕ → ℕ
total [] = 0
total (x ∷ xs) = x + total xs

-- the n numbers from a on
unfoldable pub from : ℕ → ℕ → List ℕ
from a zero = []
from a (suc n) = a ∷ from (suc a) n

-- ---- lists of lists, and stretches

-- the lists one after the other
unfoldable pub joined : {A : Type 0} → List (List A) → List A
joined [] = []
joined (l ∷ ls) = l ++ joined ls

-- the n elements of l from index `at` on
unfoldable pub part : {A : Type 0} → List A → ℕ → ℕ → List A
part l at n = take n (drop at l)

-- l with xs written from index `at` on: what stands before and past the stretch stays
unfoldable pub put : {A : Type 0} → List A → ℕ → List A → List A
put l at xs = take at l ++ xs ++ drop (at + length xs) l
