-- What the depth-first cut writes, put together: a leaf; two domains one after the other; a cut before its halves. Assumes nothing.
-- Holds: table-put, table_kept, leaf-written, written_on, written_of, two-of, written-two, written-cut
use mathlib.Core.Path.{◌≡◌, refl, sym, ap, subst, ◌∙◌}
use mathlib.Core.List.{List, [], ◌∷◌, ◌++◌, map, map-append}
use Prim.Native.Nat.{ℕ, suc, ◌+◌, ◌*◌, ◌≤◌, ◌<◌}
use native.Mathlib.Nat.{mul-add}
use native.Mathlib.Omega.{arith}
use lib.ListN.{length, take, drop, set, length-map, length-drop}
use lib.Seq.{length-take-le, drop_at}
use lib.Ieee.{Float}
use Rattle.lists.specs.Lists.{put, joined}
use Rattle.lists.specs.Found.{AsFoundFrom}
use Rattle.lists.proofs.Put.{put-next-at, put-tail, set-put}
use Rattle.lists.proofs.Found.{found-on}
use Rattle.lists.proofs.Joined.{joined-map-append, joined-map-even, joined-one}
use Rattle.definition.specs.Number.{plus_zero}
use Rattle.definition.specs.Points.{box_width_lem}
use Rattle.definition.specs.Cut.{Domain}
use Rattle.definition.specs.Record.{Cuts, uncut, cut_at, whole_of, float_of, nodes_from}
use Rattle.record_laws.specs.Table.{Entry, entry_width, entry_numbers, entries_under, boxes_under, unnumbered, node_count, leaf_count}
use Rattle.cut_nodes.specs.Written.{Written, WrittenTwo}
use Rattle.record_laws.proofs.Entries.{leaf-count-leaf, leaf-count-cut, node-count-at, node-count-leaf, node-count-cut, entries-count, boxes-under-leaf, boxes-under-cut}

-- ---- the table stands behind the ordering's room
pub table-put : (w : List ℕ) (base i : ℕ) (xs : List ℕ) → base ≤ length w → drop base (put w (base + i) xs) ≡ put (drop base w) i xs
table-put w base i xs h = rw (put-tail w base i xs h) (drop_at (take base w) (put (drop base w) i xs) base (length-take-le base w h))

pub table_kept : (w w₁ : List ℕ) (n base : ℕ) → AsFoundFrom n w w₁ → n ≤ base → drop base w₁ ≡ drop base w
table_kept w w₁ n base f h = found-on n base w w₁ f h

entries-long : (xs : List Entry) → length (joined (map entry_numbers xs)) ≡ entry_width * length xs
entries-long xs = joined-map-even entry_numbers entry_width (λ x. refl) xs

-- ---- a leaf
pub leaf-written : (d base : ℕ) (q : Domain) (place first next after : ℕ) (W W₁ : List ℕ) (F F₁ : List Float) (C C₁ : List ℕ) (P P₁ : List Float)
    → base ≤ length W → place < length C → place < length P
    → W₁ ≡ put W (base + entry_width * first) (q.depth ∷ length q.rows ∷ place ∷ []) → F₁ ≡ put F (box_width_lem d * first) q.box → C₁ ≡ set C place 3 → P₁ ≡ set P place plus_zero
    → next ≡ place + 1 → after ≡ first + 1 → Written d base (uncut q) place first next after W W₁ F F₁ C C₁ P P₁
unfolding entries_under nodes_from
leaf-written d base q place first next after W W₁ F F₁ C C₁ P P₁ hW hC hP eW eF eC eP en ea =
    record {
      table =
          ap (drop base) eW ∙ table-put W base (entry_width * first) (q.depth ∷ length q.rows ∷ place ∷ []) hW
          ∙ ap (put (drop base W) (entry_width * first)) (sym (joined-one (q.depth ∷ length q.rows ∷ place ∷ [])));
      boxes = eF ∙ ap (put F (box_width_lem d * first)) (sym (boxes-under-leaf q));
      cuts = eC ∙ set-put C place 3 hC;
      planes = eP ∙ set-put P place plus_zero hP;
      place_next = omega (arith, en, node-count-leaf q);
      leaves_next = omega (arith, ea, leaf-count-leaf q);
    }

-- the dimension by another name
pub written_on : {d₁ d₂ base : ℕ} {t : Cuts} {place first next after : ℕ} {W W₁ : List ℕ} {F F₁ : List Float} {C C₁ : List ℕ} {P P₁ : List Float}
    → d₁ ≡ d₂ → Written d₁ base t place first next after W W₁ F F₁ C C₁ P P₁ → Written d₂ base t place first next after W W₁ F F₁ C C₁ P P₁
written_on {base} {t} {place} {first} {next} {after} {W} {W₁} {F} {F₁} {C} {C₁} {P} {P₁} h x =
    subst (λ (d : ℕ). Written d base t place first next after W W₁ F F₁ C C₁ P P₁) h x

-- the dimension and the cuts by other names
pub written_of : {d₁ d₂ base : ℕ} {t₁ t₂ : Cuts} {place first next after : ℕ} {W W₁ : List ℕ} {F F₁ : List Float} {C C₁ : List ℕ} {P P₁ : List Float}
    → d₁ ≡ d₂ → t₁ ≡ t₂ → Written d₁ base t₁ place first next after W W₁ F F₁ C C₁ P P₁ → Written d₂ base t₂ place first next after W W₁ F F₁ C C₁ P P₁
written_of {d₂} {base} {t₁} {place} {first} {next} {after} {W} {W₁} {F} {F₁} {C} {C₁} {P} {P₁} h k x =
    subst (λ (t : Cuts). Written d₂ base t place first next after W W₁ F F₁ C C₁ P P₁) k (written_on h x)

pub two-of : {d₁ d₂ base : ℕ} {l₁ l₂ r₁ r₂ : Cuts} {place first next after : ℕ} {W W₁ : List ℕ} {F F₁ : List Float} {C C₁ : List ℕ} {P P₁ : List Float}
    → d₁ ≡ d₂ → l₁ ≡ l₂ → r₁ ≡ r₂ → WrittenTwo d₁ base l₁ r₁ place first next after W W₁ F F₁ C C₁ P P₁ → WrittenTwo d₂ base l₂ r₂ place first next after W W₁ F F₁ C C₁ P P₁
two-of {d₁} {d₂} {base} {l₁} {l₂} {r₁} {r₂} {place} {first} {next} {after} {W} {W₁} {F} {F₁} {C} {C₁} {P} {P₁} h k m x =
    subst (λ (d : ℕ). WrittenTwo d base l₂ r₂ place first next after W W₁ F F₁ C C₁ P P₁) h
    (subst (λ (l : Cuts). WrittenTwo d₁ base l r₂ place first next after W W₁ F F₁ C C₁ P P₁) k
    (subst (λ (r : Cuts). WrittenTwo d₁ base l₁ r place first next after W W₁ F F₁ C C₁ P P₁) m x))

-- ---- two domains, one after the other
module _ {d base : ℕ} {l r : Cuts} {place first n₁ k₁ n₂ k₂ : ℕ} {W W₁ W₂ : List ℕ} {F F₁ F₂ : List Float} {C C₁ C₂ : List ℕ} {P P₁ P₂ : List Float} where
  pub written-two : base + entry_width * first ≤ length W → box_width_lem d * first ≤ length F → place ≤ length C → place ≤ length P → length (boxes_under l) ≡ box_width_lem d * leaf_count l
      → Written d base l place first n₁ k₁ W W₁ F F₁ C C₁ P P₁ → Written d base r n₁ k₁ n₂ k₂ W₁ W₂ F₁ F₂ C₁ C₂ P₁ P₂
      → WrittenTwo d base l r place first n₂ k₂ W W₂ F F₂ C C₂ P P₂
  written-two hW hF hC hP wide a b =
      let n = a.place_next in
      let k = a.leaves_next in
      let xl = entries_under place l in
      let xr = entries_under (place + node_count l) r in
      let yl = nodes_from unnumbered first l in
      let yr = nodes_from unnumbered (first + leaf_count l) r in
      record {
        table =
            b.table
            ∙ rw (n, k, a.table)
            (put-next-at (drop base W) (entry_width * first) (joined (map entry_numbers xl)) (joined (map entry_numbers xr)) (entry_width * (first + leaf_count l))
            (omega (arith, hW, length-drop base W)) (omega (arith, entries-long xl, entries-count place l))
            ∙ ap (put (drop base W) (entry_width * first)) (sym (joined-map-append entry_numbers xl xr)));
        boxes =
            b.boxes
            ∙ rw (k, a.boxes)
            (put-next-at F (box_width_lem d * first) (boxes_under l) (boxes_under r) (box_width_lem d * (first + leaf_count l)) hF (omega (arith, wide, mul-add (box_width_lem d) first (leaf_count l))));
        cuts =
            b.cuts
            ∙ rw (n, k, a.cuts)
            (put-next-at C place (map whole_of yl) (map whole_of yr) (place + node_count l) hC (omega (arith, length-map yl whole_of, node-count-at unnumbered first l))
            ∙ ap (put C place) (sym (map-append whole_of yl yr)));
        planes =
            b.planes
            ∙ rw (n, k, a.planes)
            (put-next-at P place (map float_of yl) (map float_of yr) (place + node_count l) hP (omega (arith, length-map yl float_of, node-count-at unnumbered first l))
            ∙ ap (put P place) (sym (map-append float_of yl yr)));
        place_next = omega (arith, n, b.place_next);
        leaves_next = omega (arith, k, b.leaves_next);
      }

-- ---- a cut, and then its halves
module _ {d base : ℕ} {l r : Cuts} {place first next after : ℕ} {W W₁ W₂ : List ℕ} {F F₂ : List Float} {C C₁ C₂ : List ℕ} {P P₁ P₂ : List Float} where
  pub written-cut : (a : ℕ) (p : Float) → place < length C → place < length P → drop base W₁ ≡ drop base W → C₁ ≡ set C place a → P₁ ≡ set P place p
      → WrittenTwo d base l r (suc place) first next after W₁ W₂ F F₂ C₁ C₂ P₁ P₂ → Written d base (cut_at a p l r) place first next after W W₂ F F₂ C C₂ P P₂
  unfolding entries_under nodes_from leaf_count
  written-cut a p hC hP eW eC eP two =
      let ys = nodes_from unnumbered first l ++ nodes_from unnumbered (first + leaf_count l) r in
      record {
        table = two.table ∙ ap (λ (z : List ℕ). put z (entry_width * first) (joined (map entry_numbers (entries_under (suc place) l ++ entries_under (suc place + node_count l) r)))) eW;
        boxes = two.boxes ∙ ap (put F (box_width_lem d * first)) (sym (boxes-under-cut a p l r));
        cuts =
            two.cuts ∙ ap (λ (z : List ℕ). put z (suc place) (map whole_of ys)) (eC ∙ set-put C place a hC)
            ∙ put-next-at C place (a ∷ []) (map whole_of ys) (suc place) (omega arith) (omega arith);
        planes =
            two.planes ∙ ap (λ (z : List Float). put z (suc place) (map float_of ys)) (eP ∙ set-put P place p hP)
            ∙ put-next-at P place (p ∷ []) (map float_of ys) (suc place) (omega arith) (omega arith);
        place_next = omega (arith, two.place_next, node-count-cut a p l r);
        leaves_next = omega (arith, two.leaves_next, leaf-count-cut a p l r);
      }
