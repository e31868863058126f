-- The turns of the loops that mark positions with leaves. Assumes nothing.
-- Holds: stretch-none, stretch-more, MarkedUpTo, leaf-inside, leaf-more, marked-owned
use mathlib.Core.Path.{◌≡◌, refl, sym, ap, ◌∙◌, subst}
use mathlib.Core.Logic.{⊎_elim}
use mathlib.Core.Bool.{Bool, true, false, cond, ◌||◌}
use mathlib.Core.List.{List, [], Memᴰ}
use Prim.Native.Nat.{ℕ, ◌+◌, ◌≤◌, ◌<◌}
use native.Mathlib.Omega.{arith}
use native.Mathlib.Nat.{eq-or-lt_of_le}
use borrow.Author.Tests.{eqb-true, eqb-false, eq-eqb}
use lib.Dec.{eqb}
use lib.ListN.{length, get_or, set, take}
use lib.Seq.{get_or-set_same, get_or-set_other}
use Rattle.lists.specs.Lists.{any_of, member}
use Rattle.std.proofs.lemmas.List.{take_more}
use Rattle.lists.specs.Ascends.{Ascends}
use Rattle.lists.proofs.Tests.{same_test, cond-true, cond-false, or-false, or-true}
use Rattle.lists.proofs.Members.{mem-at, member-mem, mem-member, not-member, member-snoc}
use Rattle.lists.proofs.Ascends.{ascends_same}
use Rattle.packed.specs.Reading.{own_at, read_own}
use Rattle.packed.proofs.OwnRows.{read_length, read_at}
use Rattle.overlap_owners.specs.Own.{Leaves, Written, Owned}
use Rattle.overlap_owners.proofs.Read.{shared-active, shared-held, shared-apart}

-- ---- one row more
module _ (active : List ℕ) (up : Ascends active) (rows : List ℕ) (leaf : ℕ) (old : List ℕ) where
  pub stretch-none : Written active (take 0 rows) leaf old old
  unfolding member any_of
  stretch-none p h = refl

  module _ (new : List ℕ) (k : ℕ) (w : Written active (take k rows) leaf old new) (here : k < length rows)
      (q : ℕ) (q-in : q < length active) (q-is : get_or active q 0 ≡ get_or rows k 0) (room : length active ≤ length new) where
    tested : (p : ℕ) → member (get_or active p 0) (take (k + 1) rows) ≡ member (get_or active p 0) (take k rows) || eqb (get_or active q 0) (get_or active p 0)
    tested p = ap (member (get_or active p 0)) (take_more rows k 0 here) ∙ member-snoc (get_or active p 0) (take k rows) (get_or rows k 0)
        ∙ ap (λ (x : ℕ). member (get_or active p 0) (take k rows) || eqb x (get_or active p 0)) (sym q-is)

    pub stretch-more : Written active (take (k + 1) rows) leaf old (set new q leaf)
    stretch-more p h = go (eqb (get_or active q 0) (get_or active p 0)) refl
      where
        go : (b : Bool) → eqb (get_or active q 0) (get_or active p 0) ≡ b → get_or (set new q leaf) p 0 ≡ cond (member (get_or active p 0) (take (k + 1) rows)) leaf (get_or old p 0)
        go true e =
            let s : q ≡ p = ascends_same active q p up q-in h (eqb-true (get_or active q 0) (get_or active p 0) e) in
            let t : member (get_or active p 0) (take (k + 1) rows) ≡ true = tested p ∙ ap (λ (b : Bool). member (get_or active p 0) (take k rows) || b) e ∙ or-true (member (get_or active p 0) (take k rows)) in
            ap (λ (i : ℕ). get_or (set new q leaf) i 0) (sym s) ∙ get_or-set_same new q leaf 0 (omega arith)
            ∙ sym (cond-true (member (get_or active p 0) (take (k + 1) rows)) leaf (get_or old p 0) t)
        go false e =
            let n : p ≡ q → ⊥ = λ s. eqb-false (get_or active q 0) (get_or active p 0) e (ap (λ (i : ℕ). get_or active i 0) (sym s)) in
            let t : member (get_or active p 0) (take (k + 1) rows) ≡ member (get_or active p 0) (take k rows) = tested p ∙ ap (λ (b : Bool). member (get_or active p 0) (take k rows) || b) e ∙ or-false (member (get_or active p 0) (take k rows)) in
            get_or-set_other new q p leaf 0 n ∙ w p h ∙ sym (ap (λ (b : Bool). cond b leaf (get_or old p 0)) t)

-- ---- the leaves one after the other

-- each row of the first leaves has its leaf
abbrev pub MarkedUpTo : List ℕ → List ℕ → List ℕ → ℕ → ℕ → ℕ → List ℕ → Type 0
MarkedUpTo active I D first m leaf wholes =
    (l p : ℕ) → l < leaf → p < length active → Memᴰ (get_or active p 0) (get_or (read_own I D first m) l []) → get_or wholes p 0 ≡ l

module _ (active I D : List ℕ) (first m : ℕ) (L : Leaves active I D first m) where
  abbrev own : List (List ℕ)
  own = read_own I D first m

  abbrev Marked : ℕ → List ℕ → Type 0
  Marked = MarkedUpTo active I D first m

  pub leaf-inside : (l : ℕ) → l < m → (row : ℕ) → Memᴰ row (own_at I D (first + l)) → Memᴰ row active
  leaf-inside l h row i =
      shared-active active own L.shared l (omega (arith, read_length I D first m)) row (subst (λ (z : List ℕ). Memᴰ row z) (sym (read_at I D first m l h)) i)

  pub leaf-more : (old new : List ℕ) (leaf : ℕ) → leaf < m → Marked leaf old → Written active (own_at I D (first + leaf)) leaf old new → Marked (leaf + 1) new
  leaf-more old new leaf h mk w l p k g i =
      ⊎_elim
      (λ (e : l ≡ leaf).
      let j : Memᴰ (get_or active p 0) (own_at I D (first + leaf)) = subst (λ (z : List ℕ). Memᴰ (get_or active p 0) z) (ap (λ (x : ℕ). get_or own x []) e ∙ read_at I D first m leaf h) i in
      w p g ∙ cond-true (member (get_or active p 0) (own_at I D (first + leaf))) leaf (get_or old p 0) (mem-member (own_at I D (first + leaf)) (get_or active p 0) j) ∙ sym e)
      (λ (o : l < leaf).
      let n = read_length I D first m in
      let a : member (get_or active p 0) (own_at I D (first + leaf)) ≡ false = not-member (own_at I D (first + leaf)) (get_or active p 0)
      (λ j. let q = shared-apart active own L.shared L.ascends l leaf (get_or active p 0) (omega arith) (omega arith) i
      (subst (λ (z : List ℕ). Memᴰ (get_or active p 0) z) (sym (read_at I D first m leaf h)) j) in omega arith) in
      w p g ∙ cond-false (member (get_or active p 0) (own_at I D (first + leaf))) leaf (get_or old p 0) a ∙ mk l p o g i)
      (eq-or-lt_of_le (below k))
    where
      below : l < leaf + 1 → l ≤ leaf
      below z = omega arith

  pub marked-owned : (wholes : List ℕ) (leaf : ℕ) → m ≤ leaf → Marked leaf wholes → Owned active own wholes
  marked-owned wholes leaf h mk =
      let n = read_length I D first m in
      record {
        leaf = λ p g.
            let t = shared-held active own L.shared (get_or active p 0) (mem-at active p 0 g) in
            let e = mk t.0 p (omega (arith, t.1)) g t.2 in omega (arith, t.1);
        mine = λ p l g k.
            let t = shared-held active own L.shared (get_or active p 0) (mem-at active p 0 g) in
            let e : get_or wholes p 0 ≡ t.0 = mk t.0 p (omega (arith, t.1)) g t.2 in
            same_test (member (get_or active p 0) (get_or own l [])) (eqb (get_or wholes p 0) l)
            (λ q. eq-eqb (get_or wholes p 0) l (e ∙ shared-apart active own L.shared L.ascends t.0 l (get_or active p 0) t.1 k t.2 (member-mem (get_or own l []) (get_or active p 0) q)))
            (λ q. mem-member (get_or own l []) (get_or active p 0)
            (subst (λ (z : ℕ). Memᴰ (get_or active p 0) (get_or own z [])) (sym e ∙ eqb-true (get_or wholes p 0) l q) t.2));
      }
