-- What a search keeps: nothing at first, one more position offered, positions passed over, in whatever order they were visited. Over any
-- strict order of positions. Assumes nothing.
-- Holds: once-same, members-same, once-compared, kept-none, kept-same, kept-mem, kept-past, kept-more
use mathlib.Core.Path.{◌≡◌, refl, sym, ap, ◌∙◌, subst}
use mathlib.Core.Logic.{◌⊎◌}
use mathlib.Core.Bool.{Bool, true, false}
use mathlib.Core.List.Memᴰ
use mathlib.Core.List.{List, [], ◌∷◌, ◌++◌, Memᴰ}
use Prim.Native.Nat.{ℕ, zero, suc, ◌-◌, ◌≤◌, ◌<◌}
use native.Mathlib.Omega.{arith}
use native.Mathlib.Decide.{dec_lt}
use lib.Dec.{ltb}
use lib.ListN.{length, get_or, take}
use Rattle.lists.specs.Lists.{keep, count}
use Rattle.lists.specs.Ascends.{All}
use Rattle.lists.proofs.All.{all-of}
use Rattle.lists.proofs.Count.{count-snoc, count-all, length-keep}
use Rattle.lists.proofs.Members.{keep-mem}
use Rattle.lists.proofs.Rank.{Compared, ahead}
use Rattle.lists.specs.Same.{Same}
use Rattle.lists.proofs.Same.{same_mem}
use Rattle.lists.specs.Times.{times, Once}
use Rattle.lists.proofs.Times.{once-tail, once-head, once-keep, once-length, times-keep-in, times-keep-out, mem-times, times-mem}
use Rattle.nearest_scan.specs.Near.{Ordered}
use Rattle.nearest_scan.proofs.Placed.{placed, count-placed, ordered-take, ordered-placed, first-kept}
use Rattle.kept_laws.specs.First.{first_of, Kept}
use Rattle.kept_laws.proofs.First.{first-ahead, first-same, first-past, first-first}

-- positions without repeats, each as often in two lists: the same elements
pub once-same : (xs ys : List ℕ) → Once xs → ((r : ℕ) → times r ys ≡ times r xs) → Same xs ys
once-same xs ys o h p =
    sym (length-keep p xs) ∙ sym (once-length (keep p xs) (keep p ys) (once-keep p xs o) (λ r. kept r (p r) refl)) ∙ length-keep p ys
  where
    kept : (r : ℕ) (b : Bool) → p r ≡ b → times r (keep p ys) ≡ times r (keep p xs)
    kept r true e = times-keep-in p ys r e ∙ h r ∙ sym (times-keep-in p xs r e)
    kept r false e = times-keep-out p ys r e ∙ sym (times-keep-out p xs r e)

-- for two lists without repeats it is enough that each position of one is in the other
pub members-same : (xs ys : List ℕ) → Once xs → Once ys → ((z : ℕ) → Memᴰ z xs → Memᴰ z ys) → ((z : ℕ) → Memᴰ z ys → Memᴰ z xs) → Same xs ys
members-same xs ys o u f g = once-same xs ys o (λ r. both r (dec_lt 0 (times r xs)) (dec_lt 0 (times r ys)))
  where
    both : (r : ℕ) → Dec (0 < times r xs) → Dec (0 < times r ys) → times r ys ≡ times r xs
    both r (yes a) (yes b) = omega (arith, o r, u r)
    both r (yes a) (no b) = absurd (omega (arith, mem-times ys r (f r (times-mem xs r a))))
    both r (no a) (yes b) = absurd (omega (arith, mem-times xs r (g r (times-mem ys r b))))
    both r (no a) (no b) = omega arith

-- positions without repeats of which each two different ones compare
pub once-compared : (bef : ℕ → ℕ → Bool) (l : List ℕ) → Once l
    → ((p q : ℕ) → Memᴰ p l → Memᴰ q l → (p ≡ q → ⊥) → (bef p q ≡ true) ⊎ (bef q p ≡ true)) → Compared bef l
once-compared bef [] o h = tt
once-compared bef (x ∷ l) o h = (
  all-of (λ p. (bef x p ≡ true) ⊎ (bef p x ≡ true)) l
      (λ p i. h x p (Memᴰ.head refl) (Memᴰ.tail i) (λ e. once-head x l o (subst (λ (z : ℕ). Memᴰ z l) (sym e) i))),
  once-compared bef l (once-tail x l o) (λ p q i j. h p q (Memᴰ.tail i) (Memᴰ.tail j)),
)

module _ (bef : ℕ → ℕ → Bool) (m : ℕ) where
  -- nothing visited, nothing kept
  pub kept-none : Kept bef m [] []
  unfolding Ordered first_of keep
  kept-none = record { ordered = tt; taken = λ p. refl }

  -- only which positions were visited matters, not in which order
  pub kept-same : (xs ys near : List ℕ) → Same xs ys → Kept bef m xs near → Kept bef m ys near
  kept-same xs ys near s k = record { ordered = k.ordered; taken = λ p. k.taken p ∙ first-same bef m xs ys s p }

  -- what is kept was visited
  pub kept-mem : (xs near : List ℕ) → Kept bef m xs near → (q : ℕ) → Memᴰ q near → Memᴰ q xs
  unfolding first_of
  kept-mem xs near k q i = (keep-mem (λ p. ltb (ahead bef xs p) m) xs (same_mem near (first_of bef m xs) k.taken q i)).0

  module _ (irr : (a : ℕ) → bef a a ≡ false) (trans : (a b c : ℕ) → bef a b ≡ true → bef b c ≡ true → bef a c ≡ true) where
    -- a position behind the last one kept comes after all of them
    behind : (near : List ℕ) → Ordered bef near → (w n : ℕ) → length near ≡ suc n → bef (get_or near n 0) w ≡ true → (q : ℕ) → Memᴰ q near → bef q w ≡ true
    unfolding Ordered All
    behind [] o w k n h q i = absurd (Memᴰ.not-nil i)
    behind (x ∷ []) o w zero n h q (Memᴰ.head e) = rw e h
    behind (x ∷ []) o w zero n h q (Memᴰ.tail i) = absurd (Memᴰ.not-nil i)
    behind (x ∷ []) o w (suc k) n h q i = absurd (omega arith)
    behind (x ∷ y ∷ l) o w zero n h q i = absurd (omega arith)
    behind (x ∷ y ∷ l) o w (suc k) n h q (Memᴰ.head e) = rw e (trans x y w o.0.0 (behind (y ∷ l) o.1 w k (omega arith) h y (Memᴰ.head refl)))
    behind (x ∷ y ∷ l) o w (suc k) n h q (Memᴰ.tail i) = behind (y ∷ l) o.1 w k (omega arith) h q i

    -- PASSING OVER: m are kept, and the worst of them comes before each of the positions
    pub kept-past : (xs ws near : List ℕ) → Kept bef m xs near → length near ≡ m
        → ((w : ℕ) → Memᴰ w ws → 0 < m → bef (get_or near (m - 1) 0) w ≡ true) → Kept bef m (xs ++ ws) near
    kept-past xs ws near k n h =
        record { ordered = k.ordered; taken = λ p. k.taken p ∙ ap (count p) (sym (first-past bef m trans xs ws far)) }
      where
        far : (w : ℕ) → Memᴰ w ws → m ≤ ahead bef xs w
        far w i = elim (dec_lt 0 m) [
          | yes z ↦
              let a = count-all (λ q. bef q w) near (behind near k.ordered w (m - 1) (omega arith) (h w i z)) in
              let b = k.taken (λ q. bef q w) in
              let c = first-ahead bef m xs w in
              omega arith
          | no z ↦ omega arith
        ]

    -- ONE MORE OFFERED: put in, and the first m of that
    pub kept-more : (xs near : List ℕ) (x : ℕ) → Compared bef xs → ((y : ℕ) → Memᴰ y xs → (bef x y ≡ true) ⊎ (bef y x ≡ true))
        → Kept bef m xs near → Kept bef m (xs ++ x ∷ []) (take m (placed bef x near))
    unfolding first_of
    kept-more xs near x c h k =
        let l = placed bef x near in
        let o = ordered-placed bef irr trans x near (all-of (λ y. (bef x y ≡ true) ⊎ (bef y x ≡ true)) near (λ y i. h y (kept-mem xs near k y i))) k.ordered in
        record {
          ordered = ordered-take bef m l o;
          taken = λ p.
              ap (count p) (first-kept bef irr trans l m o)
              ∙ first-same bef m l (first_of bef m xs ++ x ∷ []) (λ q.
              omega (arith, count-placed bef q x near, count-snoc q (first_of bef m xs) x, k.taken q)) p
              ∙ first-first bef m trans irr xs (x ∷ []) c p;
        }
