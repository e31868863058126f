-- What is collected is what the leaves borrow by the definition. Assumes nothing.
-- Holds: positions_of, positions-rows, positions-are, collected-encoded
use mathlib.Core.Path.{◌≡◌, refl, sym, ap, ◌∙◌, subst}
use mathlib.Core.Logic.{inl, inr, ⊎_elim}
use mathlib.Core.Bool.{Bool, true, false, not, ◌&&◌}
use mathlib.Core.List.{List, [], map, map-map, Memᴰ}
use Prim.Native.Nat.{ℕ, ◌+◌, ◌-◌, ◌<◌}
use native.Mathlib.Omega.{arith}
use borrow.Author.Tests.{eqb-true, eq-eqb, ne_eqb, not-true}
use lib.ListN.{length, get_or, length-map}
use lib.Ieee.{Float}
use Rattle.lists.specs.Lists.{keep, any_of, member, from, joined, part}
use Rattle.lists.specs.Ascends.{All, Ascends}
use Rattle.lists.proofs.Tests.{and-of, and-fst, and-snd, or_cases, or_left, or_right}
use Rattle.lists.proofs.All.{all-of, all_map}
use Rattle.lists.proofs.Map.{map_same, get_d-map-in}
use Rattle.lists.proofs.Count.{keep-map}
use Rattle.lists.proofs.From.{list_at, from-mem, mem-from}
use Rattle.lists.proofs.Members.{mem-at, mem_index, mem-joined, any-mem, mem-any, keep-mem, mem-keep, member-mem, mem-member, member-not}
use Rattle.lists.proofs.Ascends.{ascends-keep, ascends-from}
use Rattle.definition.specs.Overlaps.{nearest, paired, borrowed_by}
use Rattle.overlap_owners.specs.Own.{Owned}
use Rattle.overlap_pairs.specs.Pairs.{code, PairCode, Collected}
use Rattle.overlaps.specs.Codes.{codes_from, Positions, Encoded}
use Rattle.overlaps.specs.Borrowed.{borrowed_lists}
use Rattle.overlaps.proofs.Codes.{codes-mem, mem-codes}

module _ (d : ℕ) (cs : List Float) (neighbours : ℕ) (active : List ℕ) (own : List (List ℕ)) where
  abbrev row : ℕ → ℕ
  row q = get_or active q 0

  -- one of the rows is paired with the row at q
  abbrev pairs : List ℕ → ℕ → Bool
  pairs rows q = any_of (λ i. paired d cs neighbours active i (row q)) rows

  -- the leaf with these own rows borrows the row at q
  abbrev borrows : List ℕ → ℕ → Bool
  borrows rows q = not (member (row q) rows) && pairs rows q

  -- the positions that each leaf borrows
  unfoldable pub positions_of : List (List ℕ)
  positions_of = map (λ rows. keep (borrows rows) (from 0 (length active))) own

  pub positions-rows : map (map (λ q. get_or active q 0)) positions_of ≡ borrowed_lists d cs neighbours active own
  unfolding positions_of borrowed_lists borrowed_by
  positions-rows =
      let borrowed : List ℕ → ℕ → Bool = λ rows j. not (member j rows) && any_of (λ i. paired d cs neighbours active i j) rows in
      map-map (map row) (λ rows. keep (borrows rows) (from 0 (length active))) own
      ∙ map_same (λ rows. map row (keep (borrows rows) (from 0 (length active)))) (borrowed_by d cs neighbours active) own
      (λ rows i. sym (keep-map row (borrowed rows) (from 0 (length active))) ∙ ap (keep (borrowed rows)) (sym (list_at active 0)))

  pub positions-are : Positions (length own) (length active) positions_of
  unfolding positions_of
  positions-are =
      record {
        number = length-map own (λ rows. keep (borrows rows) (from 0 (length active)));
        ascend = all_map Ascends (λ rows. keep (borrows rows) (from 0 (length active))) own
            (all-of (λ rows. Ascends (keep (borrows rows) (from 0 (length active)))) own (λ rows i. ascends-keep (borrows rows) (from 0 (length active)) (ascends-from 0 (length active))));
        below = all_map (λ l. All (λ q. q < length active) l) (λ rows. keep (borrows rows) (from 0 (length active))) own
            (all-of (λ rows. All (λ q. q < length active) (keep (borrows rows) (from 0 (length active)))) own
            (λ rows i. all-of (λ q. q < length active) (keep (borrows rows) (from 0 (length active))) (λ q j. omega (arith, from-mem 0 (length active) (keep-mem (borrows rows) (from 0 (length active)) j).0))));
      }

  position_at : (l : ℕ) → l < length own → get_or positions_of l [] ≡ keep (borrows (get_or own l [])) (from 0 (length active))
  unfolding positions_of
  position_at l h = get_d-map-in (λ rows. keep (borrows rows) (from 0 (length active))) own l [] [] h

  -- the leaves own active rows, and `owner` says who owns which
  module _ (held : (i : ℕ) → Memᴰ i (joined own) → Memᴰ i active) (owner : List ℕ) (O : Owned active own owner) where
    abbrev leaf : ℕ → ℕ
    leaf p = get_or owner p 0

    -- own rows by their leaf
    is-own : (p l : ℕ) → p < length active → l < length own → leaf p ≡ l → Memᴰ (row p) (get_or own l [])
    is-own p l h g e = member-mem (get_or own l []) (row p) (O.mine p l h g ∙ eq-eqb (leaf p) l e)

    own_is : (p l : ℕ) → p < length active → l < length own → Memᴰ (row p) (get_or own l []) → leaf p ≡ l
    own_is p l h g i = eqb-true (leaf p) l (sym (O.mine p l h g) ∙ mem-member (get_or own l []) (row p) i)

    not_own : (p l : ℕ) → p < length active → l < length own → (leaf p ≡ l → ⊥) → member (row p) (get_or own l []) ≡ false
    not_own p l h g n = O.mine p l h g ∙ ne_eqb (leaf p) l n

    -- an own row has a position, and its leaf is the owner
    own_at : (i l : ℕ) → l < length own → Memᴰ i (get_or own l []) → (p : ℕ) × (p < length active) × (row p ≡ i) × (leaf p ≡ l)
    own_at i l g m =
        let r = mem_index active 0 (held i (mem-joined own (mem-at own l [] g) m)) in
        (r.0, r.1, r.2, own_is r.0 l r.1 g (subst (λ (k : ℕ). Memᴰ k (get_or own l [])) (sym r.2) m))

    -- a row that is paired with an own row of another leaf is borrowed by that leaf
    pair-borrowed : (p q l : ℕ) → p < length active → q < length active → l < length own → leaf p ≡ l → (leaf q ≡ l → ⊥)
        → paired d cs neighbours active (row p) (row q) ≡ true → borrows (get_or own l []) q ≡ true
    pair-borrowed p q l hp hq g e n t =
        and-of (ap not (not_own q l hq g n)) (mem-any (λ i. paired d cs neighbours active i (row q)) (get_or own l []) (is-own p l hp g e) t)

    sent-code : (l q : ℕ) → l < length own → q < length active → borrows (get_or own l []) q ≡ true → Memᴰ (code l q) (codes_from 0 positions_of)
    sent-code l q g h b =
        let n = positions-are.number in
        let i : Memᴰ q (get_or positions_of l []) = rw (position_at l g) (mem-keep (borrows (get_or own l [])) (from 0 (length active)) (mem-from 0 (length active) (omega arith) (omega arith)) b) in
        subst (λ (k : ℕ). Memᴰ (code k q) (codes_from 0 positions_of)) (zero-plus l) (mem-codes 0 positions_of l q (omega arith) i)
      where
        zero-plus : (k : ℕ) → 0 + k ≡ k
        zero-plus k = omega arith

    -- what is sent is borrowed: the taker's leaf borrows the row that it takes, and the other leaf borrows the taker
    sent-borrowed : (z : ℕ) → PairCode d cs neighbours active leaf (λ i. i < length active) z → Memᴰ z (codes_from 0 positions_of)
    unfolding paired
    sent-borrowed z s =
        let p = s.from in
        let q = s.to in
        let b = s.below in
        let w = s.within in
        let takes = mem-member (nearest d cs neighbours active (row p)) (row q) s.takes in
        ⊎_elim
        (λ e. subst (λ (y : ℕ). Memᴰ y (codes_from 0 positions_of)) (sym e)
        (sent-code (leaf p) q (O.leaf p b) w (pair-borrowed p q (leaf p) b w (O.leaf p b) refl (λ n. s.apart (sym n))
        (or_left (member (row q) (nearest d cs neighbours active (row p))) (member (row p) (nearest d cs neighbours active (row q))) takes))))
        (λ e. subst (λ (y : ℕ). Memᴰ y (codes_from 0 positions_of)) (sym e)
        (sent-code (leaf q) p (O.leaf q w) b (pair-borrowed q p (leaf q) w b (O.leaf q w) refl s.apart
        (or_right (member (row p) (nearest d cs neighbours active (row q))) (member (row q) (nearest d cs neighbours active (row p))) takes))))
        s.is

    -- what is borrowed is sent: of an own row and the borrowed one, either takes the other
    borrowed-sent : (l q : ℕ) → l < length own → q < length active → borrows (get_or own l []) q ≡ true → PairCode d cs neighbours active leaf (λ i. i < length active) (code l q)
    unfolding paired
    borrowed-sent l q g h b =
        let rows = get_or own l [] in
        let foreign : leaf q ≡ l → ⊥ = λ e. member-not rows (row q) (not-true (member (row q) rows) (and-fst (not (member (row q) rows)) (pairs rows q) b)) (is-own q l h g e) in
        let r = any-mem (λ i. paired d cs neighbours active i (row q)) rows (and-snd (not (member (row q) rows)) (pairs rows q) b) in
        let o = own_at r.0 l g r.1 in
        let p = o.0 in
        let takes = nearest d cs neighbours active (row p) in
        let taken = nearest d cs neighbours active (row q) in
        ⊎_elim
        (λ e. record {
          from = p;
          to = q;
          below = o.1;
          within = h;
          takes = member-mem takes (row q) e;
          apart = λ n. foreign (sym n ∙ o.3);
          is = inl (ap (λ (x : ℕ). code x q) (sym o.3));
        })
        (λ e. record {
          from = q;
          to = p;
          below = h;
          within = o.1;
          takes = member-mem taken (row p) e;
          apart = λ n. foreign (n ∙ o.3);
          is = inr (ap (λ (x : ℕ). code x q) (sym o.3));
        })
        (or_cases (member (row q) takes) (member (row p) taken) (subst (λ (i : ℕ). paired d cs neighbours active i (row q) ≡ true) (sym o.2) r.2))

    -- THE LAW: the numbers collected are those of the positions borrowed
    pub collected-encoded : (wholes : List ℕ) (r : ℕ) → Collected d cs neighbours active owner (length active) wholes r
        → Encoded (length own) (length active) (part wholes (length active) (r - length active)) positions_of
    collected-encoded wholes r c =
        record {
          lists = positions-are;
          more = λ z i. sent-borrowed z (c.only z i);
          less = λ z i.
              let k = codes-mem 0 positions_of z i in
              let n = positions-are.number in
              let g : k.0 < length own = omega (arith, k.2) in
              let j = keep-mem (borrows (get_or own k.0 [])) (from 0 (length active)) (rw (position_at k.0 g) at k.3) in
              c.all z (subst (λ (y : ℕ). PairCode d cs neighbours active leaf (λ i. i < length active) y) (sym (k.4 ∙ ap (λ (x : ℕ). code x k.1) (zero-plus k.0)))
              (borrowed-sent k.0 k.1 g (omega (arith, from-mem 0 (length active) j.0)) j.1));
        }
      where
        zero-plus : (k : ℕ) → 0 + k ≡ k
        zero-plus k = omega arith
