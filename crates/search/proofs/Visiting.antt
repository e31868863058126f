-- The nodes that a search comes to: what stands there, a node passed over, a leaf, and a cut with its halves. Assumes nothing.
-- Holds: node-stands, node-passed, leaf-stands, half-asked, coordinate-asked, half-behind, first-asked, second-asked, both-done
use mathlib.Core.Path.{◌≡◌, refl, sym, ap, ap₂, ◌∙◌, subst}
use mathlib.Core.Bool.{Bool, true, false, not, cond, ◌&&◌}
use mathlib.Core.List.{List, ◌++◌, Memᴰ}
use Prim.Native.Nat.{ℕ, ◌+◌, ◌-◌, ◌*◌, ◌≤◌, ◌<◌}
use native.Mathlib.Omega.{arith}
use borrow.Author.Tests.{lt-ltb, le-ltb, ltb-false}
use lib.Dec.{T, ltb}
use lib.ListN.{length, get_or, set}
use lib.Ieee.{Float, nan, le}
use Rattle.lists.specs.Lists.{count}
use Rattle.lists.specs.Ascends.{All}
use Rattle.lists.specs.Same.{Same}
use Rattle.lists.proofs.Tests.{clash, and-fst, and-snd}
use Rattle.lists.proofs.All.{all-mem}
use Rattle.lists.proofs.Count.{count-append}
use Rattle.lists.proofs.Members.{keep-mem}
use Rattle.definition.specs.Keys.{before}
use Rattle.definition.specs.Points.{rows_sq}
use Rattle.definition.specs.Gap.{row_gap}
use Rattle.definition.specs.Overlaps.{others}
use Rattle.definition.specs.Record.{Cuts, uncut, cut_at, Node, cut_node, leaf_node}
use Rattle.rows.specs.Rows.{Inside}
use Rattle.rows.proofs.Good.{good-mem}
use Rattle.boxes.specs.Boxes.{floats_of}
use Rattle.record_laws.specs.Table.{rows_under}
use Rattle.record_laws.proofs.Entries.{rows-under-leaf, rows-under-cut}
use Rattle.node.specs.Nodes.{node_of}
use Rattle.gap_laws.specs.Boxed.{Holds, Boxed}
use Rattle.gap_laws.proofs.Gap.{row-gap-law}
use Rattle.cut_index.specs.Filed.{index_width, least_of_node, position_in, positions_of, positions_under, Filed}
use Rattle.cut_index.specs.Indexed.{FiledBy}
use Rattle.nearest_scan.specs.Near.{apart}
use Rattle.kept_laws.specs.First.{place_key, kept_key}
use Rattle.kept_laws.proofs.Searches.{state-past}
use Rattle.search.specs.declared.Search.{Search}
use Rattle.search.specs.declared.Place.{Place}
use Rattle.search.specs.Visits.{Offered, Offers, Stands, LeafStands, HalfOf}
use Rattle.search.proofs.Places.{place-known, place-mem, place-in}
use Rattle.search.proofs.Offering.{offered-first, offered-then, offers-both}

-- ---- what a node says
abbrev is_cut : Node → Bool
is_cut (cut_node a x) = true
is_cut (leaf_node k) = false

abbrev axis_in : Node → ℕ
axis_in (cut_node a x) = a
axis_in (leaf_node k) = 0

abbrev plane_in : Node → Float
plane_in (cut_node a x) = x
plane_in (leaf_node k) = nan

abbrev number_in : Node → ℕ
number_in (cut_node a x) = 0
number_in (leaf_node k) = k

leaf-said : (w k : ℕ) (x : Float) → w ≡ 3 + k → node_of w x ≡ leaf_node k
leaf-said w k x e =
    let n : w - 3 ≡ k = omega arith in
    ap (λ (b : Bool). cond b (cut_node w x) (leaf_node (w - 3))) (le-ltb w 3 (omega arith)) ∙ ap leaf_node n

cut-said : (w : ℕ) (x : Float) → w < 3 → node_of w x ≡ cut_node w x
cut-said w x h = ap (λ (b : Bool). cond b (cut_node w x) (leaf_node (w - 3))) (lt-ltb w 3 h)

module _ (s : Search) (p : Place) where
  abbrev d : ℕ
  d = s.points.dimensions

  abbrev cs : List Float
  cs = s.points.coordinates.now

  abbrev active : List ℕ
  active = s.active.now

  -- ---- what stands at a place
  pub node-stands : (t : Cuts) → Stands s p t
      → (p.at < length s.filed.cuts.now) × (p.at < length s.filed.planes.now) × (index_width * (p.at + 1) ≤ length s.filed.index.now)
  unfolding Filed
  node-stands (uncut q) st = let n = st.filed.node in (n.whole, n.plane, n.entry)
  node-stands (cut_at a x l r) st = let n = st.filed.0.node in (n.whole, n.plane, n.entry)

  node-holds : (t : Cuts) → Stands s p t → Holds d cs (floats_of p.whole) (rows_under t)
  unfolding Boxed
  node-holds (uncut q) st = subst (λ (l : List ℕ). Holds d cs (floats_of p.whole) l) (sym (rows-under-leaf q)) st.boxed
  node-holds (cut_at a x l r) st = st.boxed.0

  node-least : (t : Cuts) → Stands s p t → All (λ q. least_of_node s.filed.index.now p.at ≤ q) (positions_of active (rows_under t))
  unfolding Filed positions_under
  node-least (uncut q) st = subst (λ (l : List ℕ). All (λ q. least_of_node s.filed.index.now p.at ≤ q) (positions_of active l)) (sym (rows-under-leaf q)) st.filed.least
  node-least (cut_at a x l r) st = st.filed.0.least

  -- ---- a node passed over
  module _ (row : ℕ) (near : List ℕ) (far : List Float) (count : ℕ) where
    pub node-passed : (t : Cuts) → Stands s p t → 0 < s.neighbours → (b : Bool)
        → b ≡ (not (ltb count s.neighbours)
        && before (kept_key near far (count - 1)) (place_key (row_gap s.points.dimensions s.points.coordinates.now (floats_of p.whole) row) (least_of_node s.filed.index.now p.at)))
        → b ≡ true → Offers s row (rows_under t) near far count near far count
    node-passed t st some b is passes visited o =
        state-past d cs active row o.asked.good o.asked.whose s.neighbours visited near far count o.held (positions_of active (others (rows_under t) row)) gap low o.below full
        (λ z. subst (λ (k : ℕ). before (kept_key near far (k - 1)) (place_key gap low) ≡ true) full
        (and-snd (not (ltb count s.neighbours)) (before (kept_key near far (count - 1)) (place_key gap low)) (sym is ∙ passes)))
        under
      where
        gap : Float
        gap = row_gap s.points.dimensions s.points.coordinates.now (floats_of p.whole) row

        low : ℕ
        low = least_of_node s.filed.index.now p.at

        no : (b : Bool) → not b ≡ true → b ≡ false
        no true h = clash h refl
        no false h = refl

        full : count ≡ s.neighbours
        full =
            let m = o.held.most in
            let n = ltb-false count s.neighbours (no (ltb count s.neighbours) (and-fst (not (ltb count s.neighbours)) (before (kept_key near far (count - 1)) (place_key gap low)) (sym is ∙ passes))) in
            omega arith

        under : (w : ℕ) → Memᴰ w (positions_of s.active.now (others (rows_under t) row))
            → (w < length s.active.now) × (T (le gap (apart s.points.dimensions s.points.coordinates.now s.active.now row w)) × (low ≤ w))
        under w i =
            let r = place-mem active (others (rows_under t) row) w i in
            let m = (keep-mem (λ j. not (lib.Dec.eqb j row)) (rows_under t) r.1).0 in
            let a = all-mem (λ r. Memᴰ r active) (rows_under t) o.active r.0 m in
            let k = place-known active o.asked.good.ascends r.0 a in (
              subst (λ (q : ℕ). q < length active) (sym r.2) k.0,
              (
                subst (λ (q : ℕ). T (le gap (apart d cs active row q))) (sym r.2)
                    (subst (λ (j : ℕ). T (le gap (rows_sq d cs row j))) (sym k.1)
                    (row-gap-law d cs (floats_of p.whole) (rows_under t) row r.0 (node-holds t st) o.asked.whose.finite_row (good-mem active o.asked.good r.0 a).finite_row m)),
                subst (λ (q : ℕ). low ≤ q) (sym r.2) (all-mem (λ q. low ≤ q) (positions_of active (rows_under t)) (node-least t st) (position_in active r.0) (place-in active (rows_under t) r.0 m)),
              ),
            )

  -- ---- a leaf
  pub leaf-stands : (t : Cuts) (number : ℕ) → Stands s p t → leaf_node number ≡ node_of (get_or s.filed.cuts.now p.at 0) (get_or s.filed.planes.now p.at nan)
      → LeafStands s number (rows_under t)
  unfolding Filed
  leaf-stands (uncut q) number st e =
      let f = st.filed in
      let w = get_or s.filed.cuts.now p.at 0 in
      let k : f.number ≡ number = sym (ap number_in (e ∙ leaf-said w f.number (get_or s.filed.planes.now p.at nan) f.whole)) in
      let r = sym (rows-under-leaf q) in
      subst (λ (i : ℕ). LeafStands s i (rows_under (uncut q))) k
      (record { row = f.row; inside = f.inside; start = f.start; end = f.end; own = f.rows ∙ r; places = f.places ∙ ap (positions_of active) r })
  leaf-stands (cut_at a x l r) number st e =
      let f = st.filed.0 in
      let w = get_or s.filed.cuts.now p.at 0 in
      clash (ap is_cut (e ∙ cut-said w (get_or s.filed.planes.now p.at nan) (omega (arith, f.axis, f.few)))) refl

  -- ---- a cut
  cut-found : (t : Cuts) (axis : ℕ) (plane : Float) → Stands s p t → cut_node axis plane ≡ node_of (get_or s.filed.cuts.now p.at 0) (get_or s.filed.planes.now p.at nan)
      → (l r : Cuts) × (t ≡ cut_at axis plane l r)
  unfolding Filed
  cut-found (uncut q) axis plane st e =
      let f = st.filed in
      clash (sym (ap is_cut (e ∙ leaf-said (get_or s.filed.cuts.now p.at 0) f.number (get_or s.filed.planes.now p.at nan) f.whole))) refl
  cut-found (cut_at a x l r) axis plane st e =
      let f = st.filed.0 in
      let said = e ∙ cut-said (get_or s.filed.cuts.now p.at 0) (get_or s.filed.planes.now p.at nan) (omega (arith, f.axis, f.few)) in
      (l, r, ap₂ (λ (i : ℕ) (y : Float). cut_at i y l r) (sym (ap axis_in said ∙ f.axis)) (sym (ap plane_in said ∙ f.value)))

  abbrev half_under : Cuts → Cuts → Bool → Cuts
  half_under l r false = l
  half_under l r true = r

  module _ (a : ℕ) (x : Float) (l r : Cuts) where
    -- a half stands further behind
    half-stands : Stands s p (cut_at a x l r) → (b : Bool) (h : Place) → HalfOf s p a x b h → (p.at < h.at) × Stands s h (half_under l r b)
    unfolding Filed Boxed
    half-stands st false h o = (
      omega (arith, o.0),
      record {
        filed = subst (λ (i : ℕ). FiledBy s.filed active l i) (sym o.0) st.filed.1;
        boxed = subst (λ (b : List Float). Boxed d cs b l) (ap (λ (n : ℕ). set (floats_of p.whole) (n + a) x) (sym st.axes) ∙ sym o.2) st.boxed.2;
        axes = o.1 ∙ st.axes;
      },
    )
    half-stands st true h o = (
      omega (arith, o.0, st.filed.0.right),
      record {
        filed = subst (λ (i : ℕ). FiledBy s.filed active r i) (sym (o.0 ∙ st.filed.0.right)) st.filed.2;
        boxed = subst (λ (b : List Float). Boxed d cs b r) (sym o.2) st.boxed.3;
        axes = o.1 ∙ st.axes;
      },
    )

    -- both, in either order, have its rows
    halves-rows : (b : Bool) → Same (rows_under (half_under l r b) ++ rows_under (half_under l r (not b))) (rows_under (cut_at a x l r))
    halves-rows false q = ap (count q) (sym (rows-under-cut a x l r))
    halves-rows true q = omega (arith, count-append q (rows_under r) (rows_under l), count-append q (rows_under l) (rows_under r), ap (count q) (rows-under-cut a x l r))

    axis-below : Stands s p (cut_at a x l r) → a < d
    unfolding Boxed
    axis-below st = st.boxed.1

  module _ (t : Cuts) (axis : ℕ) (plane : Float) (st : Stands s p t)
      (e : cut_node axis plane ≡ node_of (get_or s.filed.cuts.now p.at 0) (get_or s.filed.planes.now p.at nan)) where
    one : Bool → Cuts
    one b = let k = cut-found t axis plane st e in half_under k.0 k.1 b

    one-stands : (b : Bool) (h : Place) → HalfOf s p axis plane b h → (p.at < h.at) × Stands s h (one b)
    unfolding one
    one-stands b h o = let k = cut-found t axis plane st e in half-stands axis plane k.0 k.1 (subst (Stands s p) k.2 st) b h o

    both-rows : (b : Bool) → Same (rows_under (one b) ++ rows_under (one (not b))) (rows_under t)
    unfolding one
    both-rows b q = let k = cut-found t axis plane st e in halves-rows axis plane k.0 k.1 b q ∙ ap (λ (u : Cuts). count q (rows_under u)) (sym k.2)

    -- its axis is one of those in use
    axis-in-use : axis < s.points.dimensions
    axis-in-use = let k = cut-found t axis plane st e in axis-below axis plane k.0 k.1 (subst (Stands s p) k.2 st)

    pub half-asked : s.points.dimensions ≤ 3 → (axis < p.whole.dimensions) × (p.whole.dimensions ≤ 3) × (index_width * (p.at + 1) ≤ length s.filed.index.now)
    half-asked few = (omega (arith, axis-in-use, st.axes), omega (arith, few, st.axes), (node-stands t st).2)

    -- and each row has a coordinate on it
    pub coordinate-asked : (row : ℕ) → Inside s.points.dimensions s.points.coordinates.now row → row * s.points.dimensions + axis < length s.points.coordinates.now
    coordinate-asked row i = omega (arith, i, axis-in-use)

    -- ---- both halves visited, one after the other
    module _ (row : ℕ) (near : List ℕ) (far : List Float) (n : ℕ) (b : Bool) (first : Place) (h : HalfOf s p axis plane b first) where
      pub half-behind : p.at < first.at
      half-behind = (one-stands b first h).0

      pub first-asked : (visited : List ℕ) → 0 < s.neighbours → Offered s row (rows_under t) visited near far n
          → (u : Cuts) × (v : List ℕ) × (0 < s.neighbours) × Stands s first u × Offered s row (rows_under u) v near far n
      first-asked visited some o =
          (one b, visited, some, (one-stands b first h).1, offered-first s row (rows_under (one b)) (rows_under (one (not b))) (rows_under t) (both-rows b) visited near far n o)

      module _ (near' : List ℕ) (far' : List Float) (n' : ℕ) (done : (u : Cuts) → Stands s first u → Offers s row (rows_under u) near far n near' far' n')
          (second : Place) (g : HalfOf s p axis plane (not b) second) where
        pub second-asked : (visited : List ℕ) → 0 < s.neighbours → Offered s row (rows_under t) visited near far n
            → (u : Cuts) × (v : List ℕ) × (0 < s.neighbours) × Stands s second u × Offered s row (rows_under u) v near' far' n'
        second-asked visited some o = (
          one (not b),
          visited ++ positions_of active (others (rows_under (one b)) row),
          some,
          (one-stands (not b) second g).1,
          offered-then s row (rows_under (one b)) (rows_under (one (not b))) (rows_under t) (both-rows b) near far n near' far' n' (done (one b) (one-stands b first h).1) visited o,
        )

        pub both-done : (near'' : List ℕ) (far'' : List Float) (n'' : ℕ) → ((u : Cuts) → Stands s second u → Offers s row (rows_under u) near' far' n' near'' far'' n'')
            → Offers s row (rows_under t) near far n near'' far'' n''
        both-done near'' far'' n'' two =
            offers-both s row (rows_under (one b)) (rows_under (one (not b))) (rows_under t) (both-rows b) near far n near' far' n' (done (one b) (one-stands b first h).1)
            near'' far'' n'' (two (one (not b)) (one-stands (not b) second g).1)
