-- Rows tested one after the other: the rows ascend, and each is in the set. Assumes nothing.
-- Holds: in-order-nil, in-order-cons, in-order-from, in-order-is, in-order-ascends, in-order-in, in-order-same
use mathlib.Core.Path.{◌≡◌, refl, sym, ◌∙◌}
use Prim.Native.Nat.{ℕ, suc, ◌≤◌}
use native.Mathlib.Omega.{arith}
use mathlib.Core.Bool.{Bool, true, false, ◌&&◌, and_assoc, and_comm, and-false}
use mathlib.Core.List.{List, [], ◌∷◌, Memᴰ}
use lib.Dec.{leb, ltb, leb-zero}
use borrow.Author.Tests.{leb-true, le-leb}
use Rattle.lists.specs.Ascends.{Ascends}
use Rattle.lists.proofs.Tests.{and-fst, and-snd}
use Rattle.stored.specs.Sound.{all_of, ascending}
use Rattle.tree_tests.specs.InTurn.{in_order_lem}
use Rattle.tree_tests.proofs.AllPass.{all-pass-nil, all-pass-cons, all-pass-each, each-all-pass, ascending-ascends}

-- ---- row by row
pub in-order-nil : (least : ℕ) (p : ℕ → Bool) → in_order_lem least p [] ≡ true
unfolding in_order_lem
in-order-nil least p = refl

pub in-order-cons : (least : ℕ) (p : ℕ → Bool) (x : ℕ) (xs : List ℕ) → in_order_lem least p (x ∷ xs) ≡ leb least x && p x && in_order_lem (suc x) p xs
unfolding in_order_lem
in-order-cons least p x xs = refl

-- ---- the whole: each row is at or above the least one, the rows ascend, and each is in the set

-- above a row that is at or above the least one
above : (least x : ℕ) (xs : List ℕ) → least ≤ x → all_of (ltb x) xs ≡ true → all_of (leb least) xs ≡ true
above least x xs h e = each-all-pass (leb least) xs (λ y m. le-leb least y (omega (arith, h, leb-true (suc x) y (all-pass-each (ltb x) xs e y m))))

-- the tests in two orders, of which one has a test more that follows from others
regroup : (a b c d e f : Bool) → (a ≡ true → c ≡ true → f ≡ true) → a && b && (c && d && e) ≡ a && f && (c && d) && (b && e)
regroup false b c d e f h = refl
regroup true b false d e f h = and-false b ∙ rw (and-false f)
regroup true b true d e f h = rw (h refl refl) (sym (and_assoc b d e) ∙ rw (and_comm b d) (and_assoc d b e))

pub in-order-from : (least : ℕ) (p : ℕ → Bool) (rows : List ℕ) → in_order_lem least p rows ≡ all_of (leb least) rows && ascending rows && all_of p rows
unfolding in_order_lem ascending
in-order-from least p [] = rw (all-pass-nil (leb least), all-pass-nil p)
in-order-from least p (x ∷ xs) =
    rw (in-order-from (suc x) p xs, all-pass-cons (leb least) x xs, all-pass-cons p x xs)
    (regroup (leb least x) (p x) (all_of (ltb x) xs) (ascending xs) (all_of p xs) (all_of (leb least) xs) (λ h e. above least x xs (leb-true least x h) e))

-- THE ROWS: from the first one on
pub in-order-is : (p : ℕ → Bool) (rows : List ℕ) → in_order_lem 0 p rows ≡ ascending rows && all_of p rows
in-order-is p rows =
    in-order-from 0 p rows ∙ rw (each-all-pass (leb 0) rows (λ x m. leb-zero x))

-- ---- what holds of rows that pass
module _ (least : ℕ) (p : ℕ → Bool) (rows : List ℕ) (h : in_order_lem least p rows ≡ true) where
  tests : all_of (leb least) rows && ascending rows && all_of p rows ≡ true
  tests = sym (in-order-from least p rows) ∙ h

  pub in-order-ascends : Ascends rows
  in-order-ascends =
      ascending-ascends rows (and-snd (all_of (leb least) rows) (ascending rows) (and-fst (all_of (leb least) rows && ascending rows) (all_of p rows) tests))

  pub in-order-in : (x : ℕ) → Memᴰ x rows → p x ≡ true
  in-order-in x m = all-pass-each p rows (and-snd (all_of (leb least) rows && ascending rows) (all_of p rows) tests) x m

-- ---- sets that agree at and above the least row give the same answer
pub in-order-same : (least : ℕ) (p q : ℕ → Bool) (rows : List ℕ) → ((i : ℕ) → least ≤ i → p i ≡ q i) → in_order_lem least p rows ≡ in_order_lem least q rows
unfolding in_order_lem
in-order-same least p q [] h = refl
in-order-same least p q (x ∷ xs) h = go (leb least x) refl (λ (a : least ≤ x). in-order-same (suc x) p q xs (λ i k. h i (omega arith)))
  where
    go : (b : Bool) → leb least x ≡ b → (least ≤ x → in_order_lem (suc x) p xs ≡ in_order_lem (suc x) q xs) → b && p x && in_order_lem (suc x) p xs ≡ b && q x && in_order_lem (suc x) q xs
    go false e f = refl
    go true e f = let a = leb-true least x e in rw (h x a, f a)
