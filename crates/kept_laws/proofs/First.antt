-- The first m of a list: what they depend on, what is passed over, and the first of the first. Assumes nothing.
-- Holds: first-ahead, first-same, first-past, first-full, first-first, rows-same
use mathlib.Core.Path.{◌≡◌, refl, sym, ap, ap₂, ◌∙◌}
use mathlib.Core.Logic.{◌⊎◌, inl, inr, ⊎_elim}
use mathlib.Core.Bool.{Bool, true, false, not, ◌&&◌}
use mathlib.Core.List.Memᴰ
use mathlib.Core.List.{List, [], ◌∷◌, ◌++◌, append-nil, Memᴰ}
use Prim.Native.Nat.{ℕ, ◌≤◌, ◌<◌}
use native.Mathlib.Omega.{arith}
use borrow.Author.Tests.{lt-ltb, le-ltb, ltb-true, ltb-false}
use lib.Dec.{ltb}
use Rattle.lists.specs.Lists.{keep, count}
use Rattle.lists.proofs.Tests.{clash, same_test, fails, and-snd}
use Rattle.lists.proofs.All.{all-mem}
use Rattle.lists.proofs.Count.{count-append, count-keep, count_same, count-le, count-all, count_none, count-len, count-sides, count_map, keep_append, keep_same, keep-none}
use Rattle.lists.proofs.Members.{keep-mem}
use Rattle.lists.proofs.Rank.{Compared, ahead, first-length}
use Rattle.lists.specs.Same.{Same}
use Rattle.definition.specs.Keys.{Key, before, rank, first_rows_lem}
use Rattle.kept_laws.specs.First.{first_of}

module _ {A : Type 0} (bef : A → A → Bool) (m : ℕ) where
  -- how many of the first come before x: no more than of all
  pub first-ahead : (xs : List A) (x : A) → ahead bef (first_of bef m xs) x ≤ ahead bef xs x
  unfolding first_of
  first-ahead xs x =
      let t : A → Bool = λ p. ltb (ahead bef xs p) m in
      let a = count-keep (λ q. bef q x) t xs in
      let b = count-le (λ q. t q && bef q x) (λ q. bef q x) xs (λ q i e. and-snd (t q) (bef q x) e) in
      omega arith

  -- LAW 1: lists of the same elements have the same first
  pub first-same : (xs ys : List A) → Same xs ys → Same (first_of bef m xs) (first_of bef m ys)
  unfolding first_of
  first-same xs ys s p =
      let t : A → Bool = λ q. ltb (ahead bef xs q) m in
      let u : A → Bool = λ q. ltb (ahead bef ys q) m in
      count-keep p t xs
      ∙ count_same (λ q. t q && p q) (λ q. u q && p q) xs (λ q i. ap (λ (n : ℕ). ltb n m && p q) (s (λ r. bef r q)))
      ∙ s (λ q. u q && p q) ∙ sym (count-keep p u ys)

  module _ (trans : (a b c : A) → bef a b ≡ true → bef b c ≡ true → bef a c ≡ true) where
    -- LAW 3: elements that each come after m others are passed over
    pub first-past : (xs ws : List A) → ((w : A) → Memᴰ w ws → m ≤ ahead bef xs w) → first_of bef m (xs ++ ws) ≡ first_of bef m xs
    unfolding first_of
    first-past xs ws h =
        keep_append (λ p. ltb (ahead bef (xs ++ ws) p) m) xs ws
        ∙ ap₂ (λ (a b : List A). a ++ b)
        (keep_same (λ p. ltb (ahead bef (xs ++ ws) p) m) (λ p. ltb (ahead bef xs p) m) xs (λ p i. old p))
        (keep-none (λ p. ltb (ahead bef (xs ++ ws) p) m) ws (λ w i.
        let a = count-append (λ q. bef q w) xs ws in
        let b = h w i in
        le-ltb (ahead bef (xs ++ ws) w) m (omega arith)))
        ∙ append-nil (keep (λ p. ltb (ahead bef xs p) m) xs)
      where
        none : (p : A) → ahead bef xs p < m → ahead bef ws p ≡ 0
        none p l =
            count_none (λ q. bef q p) ws (λ w i. fails (bef w p) (λ e.
            let a = count-le (λ q. bef q w) (λ q. bef q p) xs (λ q j k. trans q w p k e) in
            let b = h w i in
            omega arith))

        old : (p : A) → ltb (ahead bef (xs ++ ws) p) m ≡ ltb (ahead bef xs p) m
        old p =
            let a = count-append (λ q. bef q p) xs ws in
            same_test (ltb (ahead bef (xs ++ ws) p) m) (ltb (ahead bef xs p) m)
            (λ e. let l = ltb-true (ahead bef (xs ++ ws) p) m e in lt-ltb (ahead bef xs p) m (omega arith))
            (λ e. let l = ltb-true (ahead bef xs p) m e in let z = none p l in lt-ltb (ahead bef (xs ++ ws) p) m (omega arith))

    module _ (irr : (a : A) → bef a a ≡ false) where
      -- two elements of a list of which each two compare: the same, or one comes before the other
      either : (xs : List A) → Compared bef xs → (x y : A) → Memᴰ x xs → Memᴰ y xs → (x ≡ y) ⊎ ((bef x y ≡ true) ⊎ (bef y x ≡ true))
      either [] c x y i j = absurd (Memᴰ.not-nil i)
      either (z ∷ xs) c x y (Memᴰ.head e) (Memᴰ.head f) = inl (e ∙ sym f)
      either (z ∷ xs) c x y (Memᴰ.head e) (Memᴰ.tail j) =
          inr (rw e (all-mem (λ p. (bef z p ≡ true) ⊎ (bef p z ≡ true)) xs c.0 y j))
      either (z ∷ xs) c x y (Memᴰ.tail i) (Memᴰ.head f) =
          inr (⊎_elim (λ h. inr (rw f h)) (λ h. inl (rw f h)) (all-mem (λ p. (bef z p ≡ true) ⊎ (bef p z ≡ true)) xs c.0 x i))
      either (z ∷ xs) c x y (Memᴰ.tail i) (Memᴰ.tail j) = either xs c.1 x y i j

      -- one that is not of the first comes after m of the first
      pub first-full : (xs : List A) → Compared bef xs → (r : A) → Memᴰ r xs → m ≤ ahead bef xs r → m ≤ ahead bef (first_of bef m xs) r
      unfolding first_of
      first-full xs c r i h =
          let t : A → Bool = λ p. ltb (ahead bef xs p) m in
          let a = count-all (λ q. bef q r) (keep t xs) (λ q j.
          let k = keep-mem t xs j in
          let l = ltb-true (ahead bef xs q) m k.1 in
          sooner q k.0 l) in
          let b = first-length bef irr trans xs c m in
          let d = count-len (λ q. bef q r) xs in
          omega arith
        where
          sooner : (q : A) → Memᴰ q xs → ahead bef xs q < m → bef q r ≡ true
          sooner q j l = go (either xs c q r j i)
            where
              go : (q ≡ r) ⊎ ((bef q r ≡ true) ⊎ (bef r q ≡ true)) → bef q r ≡ true
              go (inl e) = let z : ahead bef xs q ≡ ahead bef xs r = ap (ahead bef xs) e in absurd (omega arith)
              go (inr (inl e)) = e
              go (inr (inr e)) = let z = count-le (λ p. bef p r) (λ p. bef p q) xs (λ p k f. trans p r q f e) in absurd (omega arith)

      -- the first, some others, and those that are not of the first: the same elements as the list and the others
      turned : (xs ws : List A) → Same ((first_of bef m xs ++ ws) ++ keep (λ q. not (ltb (ahead bef xs q) m)) xs) (xs ++ ws)
      unfolding first_of
      turned xs ws q =
          let t : A → Bool = λ q. ltb (ahead bef xs q) m in
          let r = keep (λ q. not (t q)) xs in
          omega (
            arith,
            count-append q (keep t xs ++ ws) r,
            count-append q (keep t xs) ws,
            count-append q xs ws,
            count-sides q t xs,
            count-append q (keep t xs) r,
          )

      -- LAW 2, first part: of what was visited only the first m matter
      pub first-first : (xs ws : List A) → Compared bef xs → Same (first_of bef m (first_of bef m xs ++ ws)) (first_of bef m (xs ++ ws))
      first-first xs ws c p =
          let f = first_of bef m xs in
          let t : A → Bool = λ q. ltb (ahead bef xs q) m in
          let r = keep (λ q. not (t q)) xs in
          ap (count p) (sym (first-past (f ++ ws) r (λ q i. late q i)))
          ∙ first-same ((f ++ ws) ++ r) (xs ++ ws) (turned xs ws) p
        where
          late : (q : A) → Memᴰ q (keep (λ q. not (ltb (ahead bef xs q) m)) xs) → m ≤ ahead bef (first_of bef m xs ++ ws) q
          late q i =
              let k = keep-mem (λ q. not (ltb (ahead bef xs q) m)) xs i in
              let g = first-full xs c q k.0 (ltb-false (ahead bef xs q) m (no (ltb (ahead bef xs q) m) k.1)) in
              let a = count-append (λ z. bef z q) (first_of bef m xs) ws in
              omega arith
            where
              no : (b : Bool) → not b ≡ true → b ≡ false
              no true h = clash h refl
              no false h = refl

-- ---- the definition's rows
pub rows-same : (m : ℕ) (ks ls : List Key) → Same ks ls → Same (first_rows_lem m ks) (first_rows_lem m ls)
unfolding first_rows_lem rank first_of
rows-same m ks ls s p =
    count_map (λ (k : Key). k.row) p (first_of before m ks) ∙ first-same before m ks ls s (λ k. p k.row) ∙ sym (count_map (λ (k : Key). k.row) p (first_of before m ls))
