-- The cover, by what it is: the least distance of one of the unchosen rows, and none of them has a greater one. Assumes
-- nothing.
use mathlib.Core.Path.{◌≡◌, refl, sym, ap}
use mathlib.Core.Logic.{◌⊎◌, inl, inr}
use mathlib.Core.Bool.{Bool, true, false, not, cond}
use mathlib.Core.List.Memᴰ
use mathlib.Core.List.{List, [], ◌∷◌, map, Memᴰ}
use Prim.Native.Nat.{ℕ, ◌<◌}
use native.Mathlib.Omega.{arith}
use borrow.Author.Tests.{not-true}
use lib.ListN.{length, get_or}
use lib.Ieee.{Float, lt}
use Rattle.lists.specs.Lists.{keep, member, best}
use Rattle.lists.specs.Ascends.{All}
use Rattle.lists.proofs.Tests.{clash}
use Rattle.lists.proofs.All.{all_map, all-of, mem-by-index}
use Rattle.lists.proofs.Members.{mem-at, keep-mem, mem-keep, mem-map}
use Rattle.definition.specs.Points.{greatest_of}
use Rattle.definition.specs.Number.{plus_zero}
use Rattle.definition.specs.Sampling.{gap, unchosen, cover_of}
use Rattle.root_laws.specs.Sorts.{good}
use Rattle.sampling_rounds.proofs.Orders.{good-same}

-- ---- a value of some, none of which is greater, is the greatest of them
module _ (x : Float) where
  abbrev AtMost : Float → Type 0
  AtMost y = (good y ≡ true) × (lt x y ≡ false)

  best-greatest : (y : Float) (ys : List Float) → good x ≡ true → AtMost y → All AtMost ys → (y ≡ x) ⊎ Memᴰ x ys → best (λ a b. lt b a) y ys ≡ x
  unfolding best All
  best-greatest y [] g p h (inl e) = e
  best-greatest y [] g p h (inr m) = absurd (Memᴰ.not-nil m)
  best-greatest y (z ∷ zs) g p h s = best-greatest (cond (lt y z) z y) zs g (still (lt y z)) h.1 (go (lt y z) refl s)
    where
      still : (t : Bool) → AtMost (cond t z y)
      still true = h.0
      still false = p

      go : (t : Bool) → lt y z ≡ t → (y ≡ x) ⊎ Memᴰ x (z ∷ zs) → (cond t z y ≡ x) ⊎ Memᴰ x zs
      go true e (inl q) = clash e (rw q h.0.1)
      go false e (inl q) = inl q
      go true e (inr (Memᴰ.head r)) = inl (sym r)
      go false e (inr (Memᴰ.head r)) = inl (good-same y x p.0 g (rw r e) p.1)
      go true e (inr (Memᴰ.tail m)) = inr m
      go false e (inr (Memᴰ.tail m)) = inr m

  greatest-is : (ys : List Float) → good x ≡ true → All AtMost ys → Memᴰ x ys → greatest_of ys ≡ x
  unfolding greatest_of All
  greatest-is [] g h m = absurd (Memᴰ.not-nil m)
  greatest-is (y ∷ ys) g h (Memᴰ.head e) = best-greatest y ys g h.0 h.1 (inl (sym e))
  greatest-is (y ∷ ys) g h (Memᴰ.tail m) = best-greatest y ys g h.0 h.1 (inr m)

module _ (d : ℕ) (cs : List Float) (rows chosen : List ℕ) where
  pub cover_is : (b : ℕ) → b < length rows → member (get_or rows b 0) chosen ≡ false
      → ((j : ℕ) → j < length rows → member (get_or rows j 0) chosen ≡ false
      → (good (gap d cs chosen (get_or rows j 0)) ≡ true) × (lt (gap d cs chosen (get_or rows b 0)) (gap d cs chosen (get_or rows j 0)) ≡ false))
      → cover_of d cs rows chosen ≡ gap d cs chosen (get_or rows b 0)
  unfolding cover_of
  cover_is b h e f =
      let v = gap d cs chosen in
      let x = v (get_or rows b 0) in
      let free : ℕ → Bool = λ i. not (member i chosen) in
      greatest-is x (map v (keep free rows)) (f b h e).0
      (all_map (AtMost x) v (keep free rows)
      (all-of _ (keep free rows) (λ r m.
      let k = keep-mem free rows m in
      mem-by-index (λ y. member y chosen ≡ false → AtMost x (v y)) rows 0 f r k.0 (not-true (member r chosen) k.1))))
      (mem-map v (keep free rows) (mem-keep free rows (mem-at rows b 0 h) (ap not e)))

  none_left : (l : List ℕ) → length l ≡ 0 → plus_zero ≡ greatest_of (map (gap d cs chosen) l)
  unfolding greatest_of
  none_left [] h = refl
  none_left (i ∷ l) h = absurd (omega arith)

  -- where all are chosen
  pub cover-none : length (unchosen rows chosen) ≡ 0 → plus_zero ≡ cover_of d cs rows chosen
  unfolding cover_of
  cover-none h = none_left (unchosen rows chosen) h
