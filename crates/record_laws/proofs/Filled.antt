-- A list of the record while the queue fills it: what is written stands as it will in the end, and all else is under a domain that waits, for
-- which the end holds its nodes. Where that begins, its two turns, and where it ends. Assumes nothing.
-- Holds: nodes_below, Clear, HoldsCuts, Filled, filled-first, filled-end, filled-room, large-nodes, filled-wait, small-nodes,
--   filled-done
use mathlib.Core.Path.{◌≡◌, sym, ap, ◌∙◌}
use mathlib.Core.Logic.{◌⊎◌, inl, inr, ⊎_elim}
use mathlib.Core.List.{List, [], ◌∷◌, ◌++◌, map, map-append, head-eq_of_cons-eq, tail-eq_of_cons-eq}
use Prim.Native.Nat.{ℕ, suc, ◌+◌, ◌*◌, ◌≤◌, ◌<◌}
use native.Mathlib.Omega.{arith}
use lib.ListN.{length, get_or, set, length-map, length-set}
use lib.Seq.{get_or-set_same, get_or-set_other, ext_get_or}
use lib.Ieee.{Float}
use Rattle.lists.specs.Lists.{put, part}
use Rattle.lists.specs.Ascends.{All}
use Rattle.lists.proofs.Tests.{same_or, le-or-lt}
use Rattle.lists.proofs.All.{all_append, all_left, all_right}
use Rattle.lists.proofs.Put.{length-put, part-cons, part-put-same, get_d-put-before, get_d-put-after}
use Rattle.definition.specs.Cut.{Domain, longest_axis_lem, plane, left_of, right_of}
use Rattle.definition.specs.Record.{Cuts, uncut, cut_at, Node, cut_node, leaf_node, nodes_from}
use Rattle.definition.proofs.Cuts.{Good}
use Rattle.record_laws.specs.Table.{cuts_at, node_count, leaf_count}
use Rattle.record_laws.proofs.Steps.{cuts-more, cuts-done}
use Rattle.record_laws.proofs.Entries.{nodes-leaf, nodes-cut, node-count-at, node-count-leaf, node-count-cut, leaf-count-leaf, first_part, second-part}
use Rattle.record_laws.proofs.Placed.{Placed, half_cuts, half-more, placed_halves}

-- how many nodes are under a domain that waits
abbrev pub nodes_below : ℕ → List Float → ℕ → Placed → ℕ
nodes_below d cs leaf w = node_count (cuts_at d cs leaf w.domain)

-- the place i is not among those of the nodes under it
abbrev pub Clear : ℕ → List Float → ℕ → ℕ → Placed → Type 0
Clear d cs leaf i w = (i < w.place) ⊎ (w.place + nodes_below d cs leaf w ≤ i)

-- the list holds what f makes of the nodes of these cuts from a place on; k leaves stand to their left
abbrev pub HoldsCuts : {A : Type 0} → (ℕ → ℕ) → (Node → A) → List A → ℕ → ℕ → Cuts → Type 0
HoldsCuts number f final place k t = (place + node_count t ≤ length final) × (part final place (node_count t) ≡ map f (nodes_from number k t))

-- the list, which will be `final`, while the domains ws wait
pub record Filled {A : Type 0} (d : ℕ) (cs : List Float) (leaf : ℕ) (number : ℕ → ℕ) (f : Node → A) (z : A) (final list : List A) (ws : List Placed) : Type 0 where
  pub long : length list ≡ length final
  pub due : All (λ w. HoldsCuts number f final w.place w.index (cuts_at d cs leaf w.domain)) ws
  pub written : (i : ℕ) → All (Clear d cs leaf i) ws → get_or list i z ≡ get_or final i z

-- ---- what a list that holds cuts holds of their parts
module _ {A : Type 0} (number : ℕ → ℕ) (f : Node → A) (z : A) (final : List A) (place k : ℕ) where
  leaf-held : (q : Domain) → HoldsCuts number f final place k (uncut q) → (place < length final) × (get_or final place z ≡ f (leaf_node (number k)))
  leaf-held q h =
      let n = node-count-leaf q in
      let in_it : place < length final = omega (arith, h.0, n) in
      let e : get_or final place z ∷ part final (suc place) 0 ≡ f (leaf_node (number k)) ∷ [] =
      sym (part-cons final place 0 z in_it) ∙ ap (part final place) (sym n) ∙ h.1 ∙ ap (map f) (nodes-leaf number k q) in
      (in_it, head-eq_of_cons-eq e)

  module _ (a : ℕ) (x : Float) (l r : Cuts) (h : HoldsCuts number f final place k (cut_at a x l r)) where
    n : node_count (cut_at a x l r) ≡ suc (node_count l + node_count r)
    n = node-count-cut a x l r

    inside : place < length final
    inside = omega (arith, h.0, n)

    parts : get_or final place z ∷ part final (suc place) (node_count l + node_count r)
        ≡ f (cut_node a x) ∷ (map f (nodes_from number k l) ++ map f (nodes_from number (k + leaf_count l) r))
    parts =
        sym (part-cons final place (node_count l + node_count r) z inside) ∙ ap (part final place) (sym n) ∙ h.1 ∙ ap (map f) (nodes-cut a x l r number k)
        ∙ ap (λ (ys : List A). f (cut_node a x) ∷ ys) (map-append f (nodes_from number k l) (nodes_from number (k + leaf_count l) r))

    long : (k : ℕ) (t : Cuts) → length (map f (nodes_from number k t)) ≡ node_count t
    long k t = length-map (nodes_from number k t) f ∙ node-count-at number k t

    cut-held : (place < length final) × (get_or final place z ≡ f (cut_node a x))
        × HoldsCuts number f final (suc place) k l × HoldsCuts number f final (suc place + node_count l) (k + leaf_count l) r
    cut-held =
        let ls = map f (nodes_from number k l) in
        let rs = map f (nodes_from number (k + leaf_count l) r) in
        let rest = tail-eq_of_cons-eq parts in (
          inside,
          head-eq_of_cons-eq parts,
          (omega (arith, h.0, n), first_part final (suc place) (node_count l) (node_count r) ls rs (long k l) (long (k + leaf_count l) r) rest),
          (omega (arith, h.0, n), second-part final (suc place) (node_count l) (node_count r) ls rs (long k l) (long (k + leaf_count l) r) rest),
        )

-- ---- where it begins, with one domain, and where it ends
module _ {A : Type 0} (d : ℕ) (cs : List Float) (leaf : ℕ) (number : ℕ → ℕ) (f : Node → A) (z : A) where
  pub filled-first : (list : List A) (w : Placed) → w.place + nodes_below d cs leaf w ≤ length list
      → Filled d cs leaf number f z (put list w.place (map f (nodes_from number w.index (cuts_at d cs leaf w.domain)))) list (w ∷ [])
  unfolding All
  filled-first list w h =
      let t = cuts_at d cs leaf w.domain in
      let xs = map f (nodes_from number w.index t) in
      let many : length xs ≡ node_count t = length-map (nodes_from number w.index t) f ∙ node-count-at number w.index t in
      let kept : length (put list w.place xs) ≡ length list = length-put list w.place xs (omega (arith, many)) in
      record {
        long = sym kept;
        due = ((omega (arith, kept), part-put-same list w.place xs (node_count t) (omega arith) many), tt);
        written = λ i c.
            ⊎_elim
            (λ (before : i < w.place). sym (get_d-put-before list w.place xs i z (omega arith) before))
            (λ (behind : w.place + nodes_below d cs leaf w ≤ i). sym (get_d-put-after list w.place xs i z (omega arith) (omega (arith, many))))
            c.0;
      }

  pub filled-end : (final list : List A) → Filled d cs leaf number f z final list [] → list ≡ final
  unfolding All
  filled-end final list x = ext_get_or z list final x.long (λ i h. x.written i tt)

below : (i p : ℕ) → (i ≡ p → ⊥) → i < suc p → i < p
below i p h g = omega arith

outside : (i p n : ℕ) → n ≡ 3 → (i ≡ p → ⊥) → (i ≡ p + 1 → ⊥) → (i ≡ p + 1 + 1 → ⊥) → (i < p) ⊎ (p + n ≤ i)
outside i p n e a b c = ⊎_elim (λ (h : p ≤ i). inr (omega arith)) (λ (h : i < p). inl h) (le-or-lt p i)

-- ---- a turn, with the domain w that stands first
module _ {A : Type 0} {d : ℕ} {cs : List Float} {leaf : ℕ} {number : ℕ → ℕ} {f : Node → A} {z : A} {final list : List A} {w : Placed} {ws : List Placed}
    (x : Filled d cs leaf number f z final list (w ∷ ws)) (pos : 0 < d) (lp : 1 ≤ leaf) (good : Good d cs w.domain.rows) (some : 1 ≤ length w.domain.rows) where
  abbrev q : Domain
  q = w.domain

  abbrev l : Domain
  l = left_of d cs q

  abbrev r : Domain
  r = right_of d cs q

  abbrev p : ℕ
  p = w.place

  abbrev node : A
  node = f (cut_node (longest_axis_lem d cs q.rows) (plane d cs q.rows))

  held : HoldsCuts number f final p w.index (cuts_at d cs leaf q)
  unfolding All
  held = x.due.0

  pub filled-room : p + nodes_below d cs leaf w ≤ length list
  filled-room = omega (arith, held.0, x.long)

  -- its halves wait
  module _ (big : 2 * leaf ≤ length q.rows) where
    abbrev tl : Cuts
    tl = cuts_at d cs leaf l

    abbrev tr : Cuts
    tr = cuts_at d cs leaf r

    more : cuts_at d cs leaf q ≡ cut_at (longest_axis_lem d cs q.rows) (plane d cs q.rows) tl tr
    more = cuts-more d cs leaf pos lp q good some big

    pub large-nodes : nodes_below d cs leaf w ≡ suc (node_count tl + node_count tr)
    large-nodes = ap node_count more ∙ node-count-cut (longest_axis_lem d cs q.rows) (plane d cs q.rows) tl tr

    pub filled-wait : (list₁ : List A) → list₁ ≡ set list p node → Filled d cs leaf number f z final list₁ (ws ++ placed_halves d cs leaf w)
    unfolding All
    filled-wait list₁ e =
        let c = cut-held number f z final p w.index (longest_axis_lem d cs q.rows) (plane d cs q.rows) tl tr (rw more at held) in
        let half = half-more d cs leaf q l big in
        let P : Placed → Type 0 = λ w. HoldsCuts number f final w.place w.index (cuts_at d cs leaf w.domain) in
        let nh : node_count (half_cuts d cs leaf q l) ≡ node_count tl = ap node_count half in
        let n = large-nodes in
        record {
          long = ap length e ∙ length-set list p node ∙ x.long;
          due = all_append P ws (placed_halves d cs leaf w) x.due.1 (c.2, (rw half c.3, tt));
          written = λ i u.
              let rest = all_left (Clear d cs leaf i) ws (placed_halves d cs leaf w) u in
              let both = all_right (Clear d cs leaf i) ws (placed_halves d cs leaf w) u in
              ⊎_elim
              (λ (here : i ≡ p). rw (here, e) (get_or-set_same list p node z (omega (arith, held.0, x.long, n)) ∙ sym c.1))
              (λ (other : i ≡ p → ⊥).
              let clear : Clear d cs leaf i w =
              ⊎_elim
              (λ (a : i < suc p). inl (below i p other a))
              (λ (a : suc p + node_count tl ≤ i). ⊎_elim (λ (b : i < suc p + node_count (half_cuts d cs leaf q l)). absurd (omega (arith, nh))) (λ (b : suc p + node_count (half_cuts d cs leaf q l) + node_count tr ≤ i). inr (omega (arith, n, nh))) both.1.0)
              both.0 in
              ap (λ (m : List A). get_or m i z) e ∙ get_or-set_other list p i node z other ∙ x.written i (clear, rest))
              (same_or i p);
        }

  -- they are leaves
  module _ (small : length q.rows < 2 * leaf) where
    done : cuts_at d cs leaf q ≡ cut_at (longest_axis_lem d cs q.rows) (plane d cs q.rows) (uncut l) (uncut r)
    done = cuts-done d cs leaf pos lp q good some small

    pub small-nodes : nodes_below d cs leaf w ≡ 3
    small-nodes = ap node_count done ∙ node-count-cut (longest_axis_lem d cs q.rows) (plane d cs q.rows) (uncut l) (uncut r) ∙ omega (arith, node-count-leaf l, node-count-leaf r)

    -- with the numbers m and m + 1
    module _ (m : ℕ) (first : number w.index ≡ m) (second : number (suc w.index) ≡ suc m) where
      abbrev leaf-one : A
      leaf-one = f (leaf_node m)

      abbrev leaf-two : A
      leaf-two = f (leaf_node (suc m))

      pub filled-done : (list₁ : List A) → list₁ ≡ set (set (set list p node) (p + 1) leaf-one) (p + 1 + 1) leaf-two → Filled d cs leaf number f z final list₁ ws
      unfolding All
      filled-done list₁ e =
          let c = cut-held number f z final p w.index (longest_axis_lem d cs q.rows) (plane d cs q.rows) (uncut l) (uncut r) (rw done at held) in
          let a = leaf-held number f z final (suc p) w.index l c.2 in
          let b = leaf-held number f z final (suc p + node_count (uncut l)) (w.index + leaf_count (uncut l)) r c.3 in
          let at1 : suc p ≡ p + 1 = omega arith in
          let at2 : suc p + node_count (uncut l) ≡ p + 1 + 1 = omega (arith, node-count-leaf l) in
          let i2 : w.index + leaf_count (uncut l) ≡ suc w.index = omega (arith, leaf-count-leaf l) in
          let one : get_or final (p + 1) z ≡ leaf-one = ap (λ (i : ℕ). get_or final i z) (sym at1) ∙ a.1 ∙ ap (λ (k : ℕ). f (leaf_node k)) first in
          let two : get_or final (p + 1 + 1) z ≡ leaf-two =
          ap (λ (i : ℕ). get_or final i z) (sym at2) ∙ b.1 ∙ ap (λ (k : ℕ). f (leaf_node (number k))) i2 ∙ ap (λ (k : ℕ). f (leaf_node k)) second in
          let n = small-nodes in
          let list₂ = set list p node in
          let list₃ = set list₂ (p + 1) leaf-one in
          let long₂ : length list₂ ≡ length list = length-set list p node in
          let long₃ : length list₃ ≡ length list = length-set list₂ (p + 1) leaf-one ∙ long₂ in
          let h = held.0 in
          let g = x.long in
          record {
            long = ap length e ∙ length-set list₃ (p + 1 + 1) leaf-two ∙ long₃ ∙ x.long;
            due = x.due.1;
            written = λ i u.
                ap (λ (m : List A). get_or m i z) e
                ∙ ⊎_elim
                (λ (here : i ≡ p + 1 + 1). rw here (get_or-set_same list₃ (p + 1 + 1) leaf-two z (omega arith) ∙ sym two))
                (λ (o2 : i ≡ p + 1 + 1 → ⊥). get_or-set_other list₃ (p + 1 + 1) i leaf-two z o2
                ∙ ⊎_elim
                (λ (here : i ≡ p + 1). rw here (get_or-set_same list₂ (p + 1) leaf-one z (omega arith) ∙ sym one))
                (λ (o1 : i ≡ p + 1 → ⊥). get_or-set_other list₂ (p + 1) i leaf-one z o1
                ∙ ⊎_elim
                (λ (here : i ≡ p). rw here (get_or-set_same list p node z (omega arith) ∙ sym c.1))
                (λ (o : i ≡ p → ⊥). get_or-set_other list p i node z o ∙ x.written i (outside i p (nodes_below d cs leaf w) n o o1 o2, u))
                (same_or i p))
                (same_or i (p + 1)))
                (same_or i (p + 1 + 1));
          }
