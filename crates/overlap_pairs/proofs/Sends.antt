-- The turns of the loop that sends pairs, and who sends a number. Assumes nothing.
-- Holds: pairs-length, pairs-mem, mem-pairs, Sent, send-none, send-stay, send-owner, send-small, send-skip, send-pair, send-end
use mathlib.Core.Path.{◌≡◌, refl, sym, ap, ◌∙◌, subst}
use mathlib.Core.Logic.{◌⊎◌, inl, inr, ⊎_elim}
use mathlib.Core.Bool.{Bool, true, false, cond}
use mathlib.Core.List.Memᴰ
use mathlib.Core.List.{List, [], ◌∷◌, ◌++◌, map, append_assoc, append-nil, Memᴰ}
use Prim.Native.Nat.{ℕ, ◌+◌, ◌*◌, ◌≤◌, ◌<◌}
use native.Mathlib.Omega.{arith}
use borrow.Author.Tests.{eqb-false, eq-eqb, ne_eqb}
use lib.Dec.{eqb}
use lib.ListN.{length, get_or, set, take, length-append, length-set}
use lib.Seq.{take-length, length-take-le}
use Rattle.lists.specs.Lists.{joined, put}
use Rattle.lists.proofs.Put.{put-nil, put-snoc, get_d-put-before}
use Rattle.lists.proofs.Joined.{joined-map-more}
use Rattle.lists.proofs.Members.{joined-mem, mem-joined, mem-map, map-mem}
use Rattle.rows.specs.Rows.{most_leaves}
use Rattle.overlap_pairs.specs.Pairs.{code, pair_of, pairs_of, PairRoom}

module _ (own : ℕ → ℕ) (p : ℕ) where
  pair-apart : (q : ℕ) → (own p ≡ own q → ⊥) → pair_of own p q ≡ code (own p) q ∷ code (own q) p ∷ []
  unfolding pair_of
  pair-apart q n = rw (ne_eqb (own p) (own q) n)

  pair_same : (q : ℕ) → own p ≡ own q → pair_of own p q ≡ []
  unfolding pair_of
  pair_same q e = rw (eq-eqb (own p) (own q) e)

  pair-length : (q : ℕ) → length (pair_of own p q) ≤ 2
  unfolding pair_of
  pair-length q = go (eqb (own p) (own q))
    where
      go : (b : Bool) → length (cond b [] (code (own p) q ∷ code (own q) p ∷ [])) ≤ 2
      go true = omega arith
      go false = omega arith

  pub pairs-length : (xs : List ℕ) → length (pairs_of own p xs) ≤ 2 * length xs
  unfolding pairs_of joined
  pairs-length [] = omega arith
  pairs-length (x ∷ xs) = rw length-append (omega (arith, pair-length x, pairs-length xs))

  -- ---- who sends a number
  pub pairs-mem : (z : ℕ) (xs : List ℕ) → Memᴰ z (pairs_of own p xs)
      → (q : ℕ) × Memᴰ q xs × (own p ≡ own q → ⊥) × ((z ≡ code (own p) q) ⊎ (z ≡ code (own q) p))
  unfolding pairs_of pair_of
  pairs-mem z xs i =
      let r = joined-mem (map (pair_of own p) xs) i in
      let u = map-mem (pair_of own p) xs r.1 in
      let t = go u.0 (eqb (own p) (own u.0)) refl (subst (λ (l : List ℕ). Memᴰ z l) u.2 r.2) in
      (u.0, u.1, t.0, t.1)
    where
      go : (q : ℕ) (b : Bool) → eqb (own p) (own q) ≡ b → Memᴰ z (cond b [] (code (own p) q ∷ code (own q) p ∷ []))
          → (own p ≡ own q → ⊥) × ((z ≡ code (own p) q) ⊎ (z ≡ code (own q) p))
      go q true e i = absurd (Memᴰ.not-nil i)
      go q false e i = (eqb-false (own p) (own q) e, ⊎_elim inl (λ j. ⊎_elim inr (λ k. absurd (Memᴰ.not-nil k)) (Memᴰ.cases_cons j)) (Memᴰ.cases_cons i))

  pub mem-pairs : (z : ℕ) (xs : List ℕ) (q : ℕ) → Memᴰ q xs → (own p ≡ own q → ⊥) → (z ≡ code (own p) q) ⊎ (z ≡ code (own q) p) → Memᴰ z (pairs_of own p xs)
  unfolding pairs_of
  mem-pairs z xs q i n e =
      mem-joined (map (pair_of own p) xs) (mem-map (pair_of own p) xs i) (rw (pair-apart q n) (⊎_elim (λ a. Memᴰ.head a) (λ a. Memᴰ.tail (Memᴰ.head a)) e))

-- ---- the turns: what the first k of the positions send stands from n to w
pub record Sent (near : List ℕ) (p : ℕ) (wholes₀ : List ℕ) (n : ℕ) (wholes : List ℕ) (w k : ℕ) : Type 0 where
  pub inside : k ≤ length near
  pub end : w ≡ n + length (pairs_of (λ i. get_or wholes₀ i 0) p (take k near))
  pub most : length (pairs_of (λ i. get_or wholes₀ i 0) p (take k near)) ≤ 2 * k
  pub long : length wholes ≡ length wholes₀
  pub list : wholes ≡ put wholes₀ n (pairs_of (λ i. get_or wholes₀ i 0) p (take k near))

module _ (near : List ℕ) (a p : ℕ) (wholes₀ : List ℕ) (n : ℕ) (R : PairRoom near a p wholes₀ n) where
  abbrev own : ℕ → ℕ
  own i = get_or wholes₀ i 0

  bound : (k : ℕ) → k ≤ length near → length (pairs_of own p (take k near)) ≤ 2 * k
  bound k h = omega (arith, pairs-length own p (take k near), length-take-le k near h)

  pub send-none : Sent near p wholes₀ n wholes₀ n 0
  unfolding pairs_of joined
  send-none = record { inside = omega arith; end = omega arith; most = omega arith; long = refl; list = sym (put-nil wholes₀ n) }

  module _ (wholes : List ℕ) (w k : ℕ) (s : Sent near p wholes₀ n wholes w k) where
    -- the owners stay
    pub send-stay : (i : ℕ) → i < a → get_or wholes i 0 ≡ get_or wholes₀ i 0
    send-stay i h =
        let b = R.start in let f = R.fits in
        rw s.list (get_d-put-before wholes₀ n (pairs_of own p (take k near)) i 0 (omega arith) (omega arith))

    module _ (here : k < length near) where
      abbrev q : ℕ
      q = get_or near k 0

      pub send-owner : get_or wholes q 0 ≡ own q
      send-owner = send-stay q (R.within k here)

      -- the numbers fit, and so does the room
      pub send-small : (own p < most_leaves) × (get_or wholes q 0 < most_leaves) × (q < a) × (a ≤ most_leaves) × (w + 2 ≤ length wholes)
      send-small =
          let f = R.fits in let e = s.end in let m = s.most in let l = s.long in
          (R.owners.small p R.here, rw send-owner (R.owners.small q (R.within k here)), R.within k here, R.owners.few, omega arith)

      more : pairs_of own p (take (k + 1) near) ≡ pairs_of own p (take k near) ++ pair_of own p q
      unfolding pairs_of
      more = joined-map-more (pair_of own p) near k 0 here

      pub send-skip : own p ≡ get_or wholes q 0 → Sent near p wholes₀ n wholes w (k + 1)
      send-skip e =
          let t : pairs_of own p (take (k + 1) near) ≡ pairs_of own p (take k near) = more ∙ rw (pair_same own p q (e ∙ send-owner), append-nil) in
          record { inside = omega arith; end = rw t s.end; most = bound (k + 1) (omega arith); long = s.long; list = rw t s.list }

      pub send-pair : (own p ≡ get_or wholes q 0 → ⊥)
          → Sent near p wholes₀ n (set (set wholes w (code (own p) q)) (w + 1) (code (get_or wholes q 0) p)) (w + 2) (k + 1)
      send-pair e =
          let xs = pairs_of own p (take k near) in
          let x = code (own p) q in
          let y = code (own q) p in
          let t : pairs_of own p (take (k + 1) near) ≡ (xs ++ x ∷ []) ++ y ∷ [] = more ∙ rw (pair-apart own p q (λ z. e (z ∙ sym send-owner)), append_assoc) in
          let r = s.most in
          let u = s.end in
          let f = R.fits in
          record {
            inside = omega arith;
            end = rw t (simp length-append (omega arith));
            most = bound (k + 1) (omega arith);
            long = simp length-set s.long;
            list =
                rw (send-owner, s.list, t, put-snoc wholes₀ n xs x w (omega arith) (omega arith))
                (put-snoc wholes₀ n (xs ++ x ∷ []) y (w + 1) (simp length-append (omega arith)) (omega arith));
          }

    pub send-end : length near ≤ k → (w ≡ n + length (pairs_of own p near)) × (wholes ≡ put wholes₀ n (pairs_of own p near))
    send-end h =
        let i = s.inside in
        let e : k ≡ length near = omega arith in
        let t : take k near ≡ near = ap (λ (j : ℕ). take j near) e ∙ take-length near in
        (s.end ∙ ap (λ (l : List ℕ). n + length (pairs_of own p l)) t, s.list ∙ ap (λ (l : List ℕ). put wholes₀ n (pairs_of own p l)) t)
