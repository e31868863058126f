-- An ascending list of n numbers below n is all of them. Assumes nothing.
-- Holds: same-is, same_self, same-equal, all_rows
use mathlib.Core.Path.{◌≡◌, refl, sym, ap, ap₂, ◌∙◌, subst}
use Prim.Native.Nat.{ℕ}
use native.Mathlib.Omega.{arith}
use mathlib.Core.Bool.{true, ◌&&◌, true≢false}
use mathlib.Core.List.{List, [], ◌∷◌, Memᴰ}
use lib.ListN.{length}
use lib.Dec.{ltb, eqb}
use borrow.Author.Tests.{ltb-true, lt-ltb, eqb-true, eq-eqb}
use Rattle.lists.specs.Lists.{from}
use Rattle.lists.specs.Ascends.{Ascends}
use Rattle.lists.proofs.Tests.{and-of, and-fst, and-snd, same_test}
use Rattle.lists.proofs.From.{from-mem, length_from}
use Rattle.lists.proofs.Ascends.{ascends-full}
use Rattle.stored.specs.Sound.{all_of, same}
use Rattle.tree_tests.proofs.AllPass.{all-pass-each, each-all-pass}

-- ---- the same numbers in the same order: an equal list
pub same-is : (xs ys : List ℕ) → same xs ys ≡ true → xs ≡ ys
unfolding same
same-is [] [] h = refl
same-is [] (y ∷ ys) h = absurd (true≢false (sym h))
same-is (x ∷ xs) [] h = absurd (true≢false (sym h))
same-is (x ∷ xs) (y ∷ ys) h =
    ap₂ (λ (z : ℕ) (zs : List ℕ). z ∷ zs) (eqb-true x y (and-fst (eqb x y) (same xs ys) h)) (same-is xs ys (and-snd (eqb x y) (same xs ys) h))

pub same_self : (xs : List ℕ) → same xs xs ≡ true
unfolding same
same_self [] = refl
same_self (x ∷ xs) = and-of (eq-eqb x x refl) (same_self xs)

pub same-equal : (xs ys : List ℕ) → xs ≡ ys → same xs ys ≡ true
same-equal xs ys e = subst (λ (l : List ℕ). same xs l ≡ true) e (same_self xs)

-- ---- n ascending numbers below n
pub all_rows : (n : ℕ) (rows : List ℕ) → Ascends rows → eqb (length rows) n && all_of (λ i. ltb i n) rows ≡ same rows (from 0 n)
all_rows n rows up =
    let a = eqb (length rows) n in
    let b = all_of (λ i. ltb i n) rows in
    same_test (a && b) (same rows (from 0 n))
    (λ h. let e : rows ≡ from 0 n =
    ascends-full 0 n rows up (λ x m. omega (arith, ltb-true x n (all-pass-each (λ i. ltb i n) rows (and-snd a b h) x m))) (eqb-true (length rows) n (and-fst a b h)) in
    rw (← e) (same_self rows))
    (λ h. let e = same-is rows (from 0 n) h in
    and-of (eq-eqb (length rows) n (ap length e ∙ length_from 0 n))
    (each-all-pass (λ i. ltb i n) rows (λ x m. lt-ltb x n (omega (arith, from-mem 0 n (subst (λ (l : List ℕ). Memᴰ x l) e m))))))
