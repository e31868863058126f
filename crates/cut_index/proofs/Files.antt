-- A record whose index is made is filed. Assumes nothing.
use mathlib.Core.Path.{◌≡◌, refl, sym, ap, ◌∙◌}
use mathlib.Core.List.{List, [], ◌∷◌, ◌++◌}
use Prim.Native.Nat.{ℕ, suc, ◌+◌, ◌*◌, ◌≤◌, min}
use native.Mathlib.Omega.{arith}
use native.Mathlib.Nat.{add-zero}
use lib.ListN.{length, get_or, length-append}
use lib.Ieee.{Float}
use Rattle.lists.specs.Lists.{part}
use Rattle.lists.specs.Ascends.{All, Ascends}
use Rattle.lists.proofs.All.{all_append, all-imp}
use Rattle.lists.proofs.Put.{get_d_part}
use Rattle.definition.specs.Cut.{Domain}
use Rattle.definition.specs.Record.{Cuts, uncut, cut_at}
use Rattle.record_laws.specs.Table.{node_count, rows_under}
use Rattle.record_laws.proofs.Entries.{node-count-leaf, node-count-cut, rows-under-leaf, rows-under-cut, first_part, second-part}
use Rattle.cut_index.specs.Filed.{positions_of, positions_under, index_width, right_of_node, least_of_node, Filed}
use Rattle.cut_index.specs.Recorded.{Recorded, most_whole, least_under, index_of}
use Rattle.cut_index.proofs.Positions.{positions-append, first-least}
use Rattle.cut_index.proofs.Makes.{index-length}

-- ---- the least position is that

-- of ascending rows
pub least-first : (active rows : List ℕ) → Ascends rows → All (λ p. get_or (positions_of active rows) 0 most_whole ≤ p) (positions_of active rows)
unfolding positions_of All
least-first active [] up = tt
least-first active (x ∷ xs) up = first-least active x xs up

under-cut : (active : List ℕ) (a : ℕ) (x : Float) (l r : Cuts) → positions_under active (cut_at a x l r) ≡ positions_under active l ++ positions_under active r
unfolding positions_under
under-cut active a x l r = ap (positions_of active) (rows-under-cut a x l r) ∙ positions-append active (rows_under l) (rows_under r)

module _ (active : List ℕ) (cuts : List ℕ) (planes : List Float) (I D : List ℕ) (first m from : ℕ) (positions : List ℕ) where
  abbrev Stands : Cuts → ℕ → Type 0
  Stands = Recorded active cuts planes I D first m from positions

  pub least-all : (t : Cuts) (at : ℕ) → Stands t at → All (λ p. least_under active t ≤ p) (positions_under active t)
  unfolding Recorded least_under positions_under
  least-all (uncut q) at h = rw (rows-under-leaf q) (least-first active q.rows h.ascends)
  least-all (cut_at a x l r) at h =
      let ml = least_under active l in
      let mr = least_under active r in
      rw (under-cut active a x l r)
      (all_append (λ p. min ml mr ≤ p) (positions_under active l) (positions_under active r)
      (all-imp (λ p. ml ≤ p) (λ p. min ml mr ≤ p) (positions_under active l) (λ p b. omega arith) (least-all l (suc at) h.1))
      (all-imp (λ p. mr ≤ p) (λ p. min ml mr ≤ p) (positions_under active r) (λ p b. omega arith) (least-all r (suc at + node_count l) h.2)))

  least-leaf : (q : Domain) → Ascends q.rows → All (λ p. least_under active (uncut q) ≤ p) (positions_of active q.rows)
  unfolding least_under
  least-leaf q up = least-first active q.rows up

  -- ---- the entry of the first node
  module _ (index : List ℕ) where
    entry-first : (at n x y : ℕ) (zs : List ℕ) → 2 ≤ n → part index (index_width * at) n ≡ x ∷ y ∷ zs → (right_of_node index at ≡ x) × (least_of_node index at ≡ y)
    entry-first at n x y zs h e = (
      ap (λ (i : ℕ). get_or index i 0) (sym (add-zero (index_width * at))) ∙ sym (get_d_part index (index_width * at) n 0 0 (omega arith)) ∙ ap (λ (l : List ℕ). get_or l 0 0) e,
      sym (get_d_part index (index_width * at) n 1 0 (omega arith)) ∙ ap (λ (l : List ℕ). get_or l 1 0) e,
    )

    -- the rest of the stretch
    entry-rest : (at n x y : ℕ) (zs : List ℕ) → part index (index_width * at) (2 + n) ≡ x ∷ y ∷ zs → length zs ≡ n → part index (index_width * suc at) n ≡ zs
    entry-rest at n x y zs e l =
        let s : index_width * suc at ≡ index_width * at + 2 = omega arith in
        ap (λ (i : ℕ). part index i n) s ∙ second-part index (index_width * at) 2 n (x ∷ y ∷ []) zs refl l e

    -- THE LAW
    pub recorded-filed : (t : Cuts) (at : ℕ) → Stands t at → index_width * (at + node_count t) ≤ length index
        → part index (index_width * at) (index_width * node_count t) ≡ index_of active t at → Filed active cuts planes index I D first m from positions t at
    unfolding Recorded Filed index_of
    recorded-filed (uncut q) at h room e =
        let f = entry-first at (index_width * node_count (uncut q)) 0 (least_under active (uncut q)) [] (omega (arith, node-count-leaf q)) e in
        record {
          number = h.number;
          node = record { whole = h.here; plane = h.here_too; entry = omega (arith, room, node-count-leaf q) };
          whole = h.whole;
          known = h.known;
          row = h.row;
          inside = h.inside;
          start = h.start;
          end = h.end;
          rows = h.rows;
          places = h.places;
          least = rw f.1 (least-leaf q h.ascends);
        }
    recorded-filed (cut_at a x l r) at h room e =
        let nl = node_count l in
        let nr = node_count r in
        let il = index_of active l (suc at) in
        let ir = index_of active r (suc at + nl) in
        let ll = index-length active l (suc at) in
        let lr = index-length active r (suc at + nl) in
        let n = node-count-cut a x l r in
        let least = least_under active (cut_at a x l r) in
        let c : index_width * node_count (cut_at a x l r) ≡ 2 + (index_width * nl + index_width * nr) = omega arith in
        let e1 : part index (index_width * at) (2 + (index_width * nl + index_width * nr)) ≡ (suc at + nl) ∷ least ∷ (il ++ ir) =
        ap (part index (index_width * at)) (sym c) ∙ e in
        let f = entry-first at (2 + (index_width * nl + index_width * nr)) (suc at + nl) least (il ++ ir) (omega arith) e1 in
        let rest = entry-rest at (index_width * nl + index_width * nr) (suc at + nl) least (il ++ ir) e1 (omega (arith, length-append il ir)) in
        let s : index_width * (suc at + nl) ≡ index_width * suc at + index_width * nl = omega arith in
        let el : part index (index_width * suc at) (index_width * nl) ≡ il = first_part index (index_width * suc at) (index_width * nl) (index_width * nr) il ir ll lr rest in
        let er : part index (index_width * (suc at + nl)) (index_width * nr) ≡ ir =
        ap (λ (i : ℕ). part index i (index_width * nr)) s ∙ second-part index (index_width * suc at) (index_width * nl) (index_width * nr) il ir ll lr rest in (
          record {
            node = record { whole = h.0.here; plane = h.0.here_too; entry = omega arith };
            axis = h.0.axis;
            few = h.0.few;
            value = h.0.value;
            right = f.0;
            least = rw f.1 (least-all (cut_at a x l r) at h);
          },
          recorded-filed l (suc at) h.1 (omega arith) el,
          recorded-filed r (suc at + nl) h.2 (omega arith) er,
        )
