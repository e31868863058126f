-- The turns of the loop over the active rows. Assumes nothing.
-- Holds: collect-none, collect-room, collect-more, asked-none, asked-below, asked-room, asked-more, asked-all, row_room
use mathlib.Core.Path.{◌≡◌, refl, sym, ap, ◌∙◌, subst}
use mathlib.Core.Logic.{◌⊎◌, inl, inr, ⊎_elim}
use mathlib.Core.List.Memᴰ
use mathlib.Core.List.{List, [], ◌∷◌, ◌++◌, Memᴰ}
use Prim.Native.Nat.{ℕ, ◌+◌, ◌-◌, ◌*◌, ◌≤◌, ◌<◌}
use native.Mathlib.Omega.{arith}
use native.Mathlib.Nat.{add-mul, one-mul, mul-le-mul_right}
use lib.ListN.{length, get_or, take}
use lib.Ieee.{Float}
use Rattle.lists.specs.Lists.{from, put, part}
use Rattle.lists.specs.Same.{Same}
use Rattle.lists.specs.Ascends.{Ascends}
use Rattle.lists.proofs.Ascends.{ascends_same}
use Rattle.lists.proofs.All.{all-at}
use Rattle.lists.proofs.Put.{part-nil, get_d-put-before, part-grown}
use Rattle.lists.proofs.Members.{mem-left, mem-right, mem-at}
use Rattle.lists.proofs.From.{from-mem, mem-from, length_from}
use Rattle.lists.proofs.Same.{same_mem, same_length}
use Rattle.std.proofs.lemmas.List.{take_more}
use lib.Seq.{take_all}
use Rattle.definition.specs.Overlaps.{nearest}
use Rattle.nearest_scan.specs.Near.{Found}
use Rattle.nearest_scan.proofs.Takes.{found-taken, taken-found}
use Rattle.overlap_pairs.specs.Pairs.{code, pairs_of, Owners, PairRoom, Taken, PairCode, Gathered, Collected}
use Rattle.overlap_pairs.proofs.Sends.{pairs-length, pairs-mem, mem-pairs}

module _ (d : ℕ) (cs : List Float) (neighbours : ℕ) (active : List ℕ) (up : Ascends active) (old : List ℕ) where
  abbrev a : ℕ
  a = length active

  abbrev own : ℕ → ℕ
  own i = get_or old i 0

  pub collect-none : (asked : ℕ → Type 0) → ((i : ℕ) → asked i → ⊥) → Gathered d cs neighbours active old asked 0 old (length active)
  collect-none asked none =
      record {
        start = omega arith;
        few = omega arith;
        stay = λ i h. refl;
        only = λ z i. absurd (mathlib.Core.List.Memᴰ.not-nil (subst (λ (l : List ℕ). Memᴰ z l) (nothing a) i));
        all = λ z s. absurd (none s.from s.below);
      }
    where
      nothing : (k : ℕ) → part old k (k - k) ≡ []
      nothing k = let e : k - k ≡ 0 = omega arith in ap (part old k) e ∙ part-nil old k

  -- room for one more row
  pub collect-room : (k n : ℕ) → k < a → n ≤ a + k * (2 * neighbours) → n + 2 * neighbours ≤ a + a * (2 * neighbours)
  collect-room k n h g =
      let q = 2 * neighbours in
      let e : (k + 1) * q ≡ k * q + 1 * q = add-mul k 1 q in
      let m : (k + 1) * q ≤ a * q = mul-le-mul_right q (omega arith) in
      omega (arith, one-mul q)

  -- k positions were asked, and then p
  module _ (asked now : ℕ → Type 0) (wholes : List ℕ) (k p n : ℕ) (c : Gathered d cs neighbours active old asked k wholes n) (here : p < a) (room : n + 2 * neighbours ≤ length wholes)
      (wholes' : List ℕ) (r : ℕ) (t : Taken d cs neighbours active p wholes wholes' n r)
      (before : (i : ℕ) → asked i → now i) (last : now p) (each : (i : ℕ) → now i → asked i ⊎ (i ≡ p)) where
    xs : List ℕ
    xs = pairs_of (λ i. get_or wholes i 0) p t.near

    short : length xs ≤ 2 * neighbours
    unfolding xs
    short = omega (arith, pairs-length (λ i. get_or wholes i 0) p t.near, t.few)

    end : r ≡ n + length xs
    unfolding xs
    end = t.end

    list : wholes' ≡ put wholes n xs
    unfolding xs
    list = t.list

    longer : part wholes' a (r - a) ≡ part wholes a (n - a) ++ xs
    longer = let h = short in part-grown wholes wholes' xs a n r c.start (omega arith) end list

    own_at : (i : ℕ) → i < a → get_or wholes i 0 ≡ own i
    own_at i h = c.stay i h

    -- ---- what is new
    new-only : (z : ℕ) → Memᴰ z xs → PairCode d cs neighbours active own now z
    unfolding xs
    new-only z i =
        let s = pairs-mem (λ i. get_or wholes i 0) p z t.near i in
        let f = found-taken d cs active (get_or active p 0) neighbours t.near t.far t.found s.0 s.1 in
        let ep = own_at p here in
        let eq = own_at s.0 f.0 in
        record {
          from = p;
          to = s.0;
          below = last;
          within = f.0;
          takes = f.1;
          apart = λ e. s.2 (ep ∙ e ∙ sym eq);
          is = ⊎_elim (λ e. inl (e ∙ ap (λ (l : ℕ). code l s.0) ep)) (λ e. inr (e ∙ ap (λ (l : ℕ). code l p) eq)) s.3;
        }

    new-all : (z : ℕ) (s : PairCode d cs neighbours active own now z) → s.from ≡ p → Memᴰ z xs
    unfolding xs
    new-all z s e =
        let other : get_or active s.to 0 ≡ get_or active p 0 → ⊥ = λ q. s.apart (ap own (e ∙ sym (ascends_same active s.to p up s.within here q))) in
        let m : Memᴰ s.to t.near = taken-found d cs active (get_or active p 0) neighbours t.near t.far t.found up s.to s.within other
        (subst (λ (i : ℕ). Memᴰ (get_or active s.to 0) (nearest d cs neighbours active (get_or active i 0))) e s.takes) in
        let ef : own s.from ≡ get_or wholes p 0 = ap own e ∙ sym (own_at p here) in
        let et : own s.to ≡ get_or wholes s.to 0 = sym (own_at s.to s.within) in
        mem-pairs (λ i. get_or wholes i 0) p z t.near s.to m (λ q. s.apart (ef ∙ q ∙ sym et))
        (⊎_elim (λ q. inl (q ∙ ap (λ (l : ℕ). code l s.to) ef)) (λ q. inr (q ∙ ap (λ (l : ℕ). code l s.from) et ∙ ap (λ (j : ℕ). code (get_or wholes s.to 0) j) e)) s.is)

    pub collect-more : Gathered d cs neighbours active old now (k + 1) wholes' r
    collect-more =
        let q = 2 * neighbours in
        let s = c.start in
        let h = short in
        let e = end in
        record {
          start = omega arith;
          few = (let m : (k + 1) * q ≡ k * q + 1 * q = add-mul k 1 q in let f = c.few in omega (arith, one-mul q));
          stay = λ i g. ap (λ (l : List ℕ). get_or l i 0) list ∙ get_d-put-before wholes n xs i 0 (omega arith) (omega arith) ∙ c.stay i g;
          only = λ z i. ⊎_elim
              (λ j. let o = c.only z j in record { from = o.from; to = o.to; below = before o.from o.below; within = o.within; takes = o.takes; apart = o.apart; is = o.is })
              (λ j. new-only z j) (mathlib.Core.List.Memᴰ.append_cases (part wholes a (n - a)) (subst (λ (l : List ℕ). Memᴰ z l) longer i));
          all = λ z o. subst (λ (l : List ℕ). Memᴰ z l) (sym longer) (⊎_elim
              (λ (g : asked o.from). mem-left (part wholes a (n - a)) xs
              (c.all z (record { from = o.from; to = o.to; below = g; within = o.within; takes = o.takes; apart = o.apart; is = o.is })))
              (λ (g : o.from ≡ p). mem-right (part wholes a (n - a)) xs (new-all z o g))
              (each o.from o.below));
        }

  -- the same positions, told in other words
  gathered-same : (asked now : ℕ → Type 0) (k n : ℕ) → k ≡ n → ((i : ℕ) → asked i → now i) → ((i : ℕ) → now i → asked i) → (wholes : List ℕ) (r : ℕ)
      → Gathered d cs neighbours active old asked k wholes r → Gathered d cs neighbours active old now n wholes r
  gathered-same asked now k n e to back wholes r c =
      record {
        start = c.start;
        few = rw (← e) c.few;
        stay = c.stay;
        only = λ z i. let o = c.only z i in record { from = o.from; to = o.to; below = to o.from o.below; within = o.within; takes = o.takes; apart = o.apart; is = o.is };
        all = λ z o. c.all z (record { from = o.from; to = o.to; below = back o.from o.below; within = o.within; takes = o.takes; apart = o.apart; is = o.is });
      }

  -- ---- position by position: the first k of a list that has each position of an active row once
  module _ (positions : List ℕ) (same : Same positions (from 0 (length active))) where
    many : length positions ≡ length active
    many = same_length positions (from 0 (length active)) same ∙ length_from 0 (length active)

    position-below : (i : ℕ) → Memᴰ i positions → i < length active
    position-below i m = omega (arith, from-mem 0 (length active) (same_mem positions (from 0 (length active)) same i m))

    pub asked-none : Gathered d cs neighbours active old (λ i. Memᴰ i (take 0 positions)) 0 old (length active)
    asked-none = collect-none (λ i. Memᴰ i (take 0 positions)) (λ i m. mathlib.Core.List.Memᴰ.not-nil m)

    pub asked-below : (k : ℕ) → k < length positions → get_or positions k 0 < length active
    asked-below k h = position-below (get_or positions k 0) (mem-at positions k 0 h)

    module _ (wholes : List ℕ) (k n : ℕ) (c : Gathered d cs neighbours active old (λ i. Memᴰ i (take k positions)) k wholes n) (here : k < length positions) where
      pub asked-room : n + 2 * neighbours ≤ length active + length active * (2 * neighbours)
      asked-room = collect-room k n (omega (arith, many)) c.few

      pub asked-more : n + 2 * neighbours ≤ length wholes → (wholes' : List ℕ) (r : ℕ) → Taken d cs neighbours active (get_or positions k 0) wholes wholes' n r
          → Gathered d cs neighbours active old (λ i. Memᴰ i (take (k + 1) positions)) (k + 1) wholes' r
      asked-more room wholes' r t =
          let p = get_or positions k 0 in
          let s : take (k + 1) positions ≡ take k positions ++ p ∷ [] = take_more positions k 0 here in
          collect-more (λ i. Memᴰ i (take k positions)) (λ i. Memᴰ i (take (k + 1) positions)) wholes k p n c (asked-below k here) room wholes' r t
          (λ i m. subst (λ (l : List ℕ). Memᴰ i l) (sym s) (mem-left (take k positions) (p ∷ []) m))
          (subst (λ (l : List ℕ). Memᴰ p l) (sym s) (mem-right (take k positions) (p ∷ []) (Memᴰ.head refl)))
          (λ i m. ⊎_elim (λ j. inl j) (λ j. inr (only-one i p j)) (mathlib.Core.List.Memᴰ.append_cases (take k positions) (subst (λ (l : List ℕ). Memᴰ i l) s m)))
        where
          only-one : (i p : ℕ) → Memᴰ i (p ∷ []) → i ≡ p
          only-one i p (Memᴰ.head e) = e
          only-one i p (Memᴰ.tail m) = absurd (mathlib.Core.List.Memᴰ.not-nil m)

    -- all were asked
    pub asked-all : (wholes : List ℕ) (k r : ℕ) → length positions ≤ k → k ≤ length positions → Gathered d cs neighbours active old (λ i. Memᴰ i (take k positions)) k wholes r
        → Collected d cs neighbours active old (length active) wholes r
    asked-all wholes k r g h c =
        let all : take k positions ≡ positions = take_all k positions g in
        gathered-same (λ i. Memᴰ i (take k positions)) (λ i. i < length active) k (length active) (omega (arith, many))
        (λ i m. position-below i (subst (λ (l : List ℕ). Memᴰ i l) all m))
        (λ i b. subst (λ (l : List ℕ). Memᴰ i l) (sym all) (same_mem (from 0 (length active)) positions (λ p. sym (same p)) i (mem-from 0 (length active) (omega arith) (omega arith))))
        wholes r c

-- what is found of one row can be sent
pub row_room : (d : ℕ) (cs : List Float) (neighbours : ℕ) (active : List ℕ) (row p : ℕ) (wholes : List ℕ) (n : ℕ) (near : List ℕ) (far : List Float)
    → Owners (length active) wholes → length active ≤ n → n + 2 * neighbours ≤ length wholes → p < length active → length near ≤ neighbours
    → Found d cs active row neighbours near far → PairRoom near (length active) p wholes n
row_room d cs neighbours active row p wholes n near far o s r h l f =
    record { owners = o; start = s; fits = omega arith; here = h; within = λ k g. all-at (λ q. q < length active) near k 0 f.within g }
