-- How many elements of a list have fewer than m elements before them: m, or all where there are fewer.
-- Over any strict order by which each two of the list's elements compare. The cut's halves, the neighbours and the leftover seats
-- are such selections. Assumes nothing.
-- Holds: Compared, ahead, first_count, first-length, other_length, ahead-lt
use mathlib.Core.Path.{◌≡◌, refl, sym, ap, ◌∙◌}
use mathlib.Core.Logic.{◌⊎◌, inl, inr}
use mathlib.Core.Bool.{Bool, true, false, not}
use mathlib.Core.List.{List, [], ◌∷◌, Memᴰ}
use Prim.Native.Nat.{ℕ, zero, suc, ◌+◌, ◌-◌, ◌≤◌, ◌<◌, min}
use native.Mathlib.Omega.{arith}
use native.Mathlib.Decide.{dec_le}
use borrow.Author.Tests.{lt-ltb, le-ltb}
use lib.Dec.{ltb}
use lib.ListN.{length}
use Rattle.lists.specs.Lists.{one_if, keep, count}
use Rattle.lists.specs.Ascends.{All}
use Rattle.lists.proofs.Tests.{clash}
use Rattle.lists.proofs.All.{all-mem}
use Rattle.lists.proofs.Count.{count_same, count-le, count-lt, count-len, count-not, length-keep}

-- each two elements compare
abbrev pub Compared : {A : Type 0} → (A → A → Bool) → List A → Type 0
Compared before [] = Unit {0}
Compared before (x ∷ xs) = All (λ p. (before x p ≡ true) ⊎ (before p x ≡ true)) xs × Compared before xs

-- how many come before p
abbrev pub ahead : {A : Type 0} → (A → A → Bool) → List A → A → ℕ
ahead before xs p = count (λ q. before q p) xs

module _ {A : Type 0} (before : A → A → Bool) (irr : (a : A) → before a a ≡ false)
    (trans : (a b c : A) → before a b ≡ true → before b c ≡ true → before a c ≡ true) where
  not_back : (a b : A) → before a b ≡ true → before b a ≡ false
  not_back a b h = go (before b a) refl
    where
      go : (t : Bool) → before b a ≡ t → t ≡ false
      go true e = clash (trans a b a h e) (irr a)
      go false e = refl

  -- an element below x has fewer before it than x has, and one above x has no fewer
  under : (xs : List A) (x p : A) → Memᴰ p xs → before p x ≡ true → ahead before xs p < ahead before xs x
  under xs x p m h = count-lt (λ q. before q p) (λ q. before q x) xs (λ q n e. trans q p x e h) p m (irr p) h

  above : (xs : List A) (x p : A) → before x p ≡ true → ahead before xs x ≤ ahead before xs p
  above xs x p h = count-le (λ q. before q x) (λ q. before q p) xs (λ q n e. trans q x p e h)

  -- the test at p after x has joined the list: x has m or more before it, or fewer
  late : (xs : List A) (x p : A) (m : ℕ) → Memᴰ p xs → (before x p ≡ true) ⊎ (before p x ≡ true) → m ≤ ahead before xs x
      → ltb (one_if (before x p) + ahead before xs p) m ≡ ltb (ahead before xs p) m
  late xs x p m i (inl h) l =
      let a = above xs x p h in le-ltb (one_if (before x p) + ahead before xs p) m (omega arith) ∙ sym (le-ltb (ahead before xs p) m (omega arith))
  late xs x p m i (inr h) l = ap (λ (n : ℕ). ltb n m) (rw (not_back p x h) (omega arith))

  early : (xs : List A) (x p : A) (m : ℕ) → Memᴰ p xs → (before x p ≡ true) ⊎ (before p x ≡ true) → ahead before xs x ≤ m
      → ltb (one_if (before x p) + ahead before xs p) (suc m) ≡ ltb (ahead before xs p) m
  early xs x p m i (inl h) l = go (dec_le (suc (ahead before xs p)) m)
    where
      one : one_if (before x p) ≡ 1
      one = rw h

      go : Dec (suc (ahead before xs p) ≤ m) → ltb (one_if (before x p) + ahead before xs p) (suc m) ≡ ltb (ahead before xs p) m
      go (yes d) = lt-ltb (one_if (before x p) + ahead before xs p) (suc m) (omega (arith, one)) ∙ sym (lt-ltb (ahead before xs p) m d)
      go (no d) = le-ltb (one_if (before x p) + ahead before xs p) (suc m) (omega (arith, one)) ∙ sym (le-ltb (ahead before xs p) m (omega arith))
  early xs x p m i (inr h) l =
      let u = under xs x p i h in
      let z : one_if (before x p) ≡ 0 = rw (not_back p x h) in
      lt-ltb (one_if (before x p) + ahead before xs p) (suc m) (omega arith) ∙ sym (lt-ltb (ahead before xs p) m (omega arith))

  -- THE LAW: fewer than m come before exactly m of them, or all
  pub first_count : (xs : List A) → Compared before xs → (m : ℕ) → count (λ p. ltb (ahead before xs p) m) xs ≡ min m (length xs)
  unfolding count
  first_count [] c m = omega arith
  first_count (x ∷ xs) c m = go m (first_count xs c.1) (dec_le m (ahead before xs x))
    where
      met : (p : A) → Memᴰ p xs → (before x p ≡ true) ⊎ (before p x ≡ true)
      met p i = all-mem (λ q. (before x q ≡ true) ⊎ (before q x ≡ true)) xs c.0 p i

      self : one_if (before x x) ≡ 0
      self = rw (irr x)

      go : (m : ℕ) → ((n : ℕ) → count (λ p. ltb (ahead before xs p) n) xs ≡ min n (length xs)) → Dec (m ≤ ahead before xs x)
          → one_if (ltb (one_if (before x x) + ahead before xs x) m) + count (λ p. ltb (one_if (before x p) + ahead before xs p) m) xs ≡ min m (suc (length xs))
      go m ih (yes l) =
          let s = count_same (λ p. ltb (one_if (before x p) + ahead before xs p) m) (λ p. ltb (ahead before xs p) m) xs (λ p i. late xs x p m i (met p i) l) in
          let b = count-len (λ q. before q x) xs in
          let t : one_if (ltb (one_if (before x x) + ahead before xs x) m) ≡ 0 = rw (le-ltb (one_if (before x x) + ahead before xs x) m (omega (arith, self))) in
          omega (arith, ih m)
      go zero ih (no l) = absurd (omega arith)
      go (suc m) ih (no l) =
          let s = count_same (λ p. ltb (one_if (before x p) + ahead before xs p) (suc m)) (λ p. ltb (ahead before xs p) m) xs (λ p i. early xs x p m i (met p i) (omega arith)) in
          let t : one_if (ltb (one_if (before x x) + ahead before xs x) (suc m)) ≡ 1 = rw (lt-ltb (one_if (before x x) + ahead before xs x) (suc m) (omega (arith, self))) in
          omega (arith, ih m)

  -- so those with fewer than m before them are m, or all, and the others are the rest
  pub first-length : (xs : List A) → Compared before xs → (m : ℕ) → length (keep (λ p. ltb (ahead before xs p) m) xs) ≡ min m (length xs)
  first-length xs c m = length-keep (λ p. ltb (ahead before xs p) m) xs ∙ first_count xs c m

  pub other_length : (xs : List A) → Compared before xs → (m : ℕ) → length (keep (λ p. not (ltb (ahead before xs p) m)) xs) ≡ length xs - m
  other_length xs c m =
      length-keep (λ p. not (ltb (ahead before xs p) m)) xs
      ∙ (let a = count-not (λ p. ltb (ahead before xs p) m) xs in
      let b = first_count xs c m in
      omega arith)

  -- ---- the order of two elements is that of how many come before them
  pub ahead-lt : (xs : List A) (p q : A) → Memᴰ p xs → before p q ≡ true → ahead before xs p < ahead before xs q
  ahead-lt xs p q m h = under xs q p m h
