-- A level's record, with its leaves and their positions, is one that the index is made of. Assumes nothing.
use mathlib.Core.Path.{◌≡◌, refl, sym, ap, ap₂, ◌∙◌, subst}
use mathlib.Core.Logic.{⊎_elim}
use mathlib.Core.List.{List, [], ◌∷◌, ◌++◌, map, map-append, head-eq_of_cons-eq, tail-eq_of_cons-eq}
use Prim.Native.Nat.{ℕ, zero, suc, ◌+◌, ◌-◌, ◌*◌, ◌≤◌, ◌<◌}
use native.Mathlib.Omega.{arith}
use native.Mathlib.Nat.{add-zero, zero-add, add_assoc}
use borrow.Author.Tests.{eq-eqb}
use lib.Dec.{eqb, ltb}
use lib.ListN.{length, get_or, take, length-map, get_or-append}
use lib.Seq.{get_or-append-add}
use lib.Ieee.{Float, nan}
use Rattle.lists.specs.Lists.{one_if, total, part, joined}
use Rattle.lists.specs.Ascends.{All, Ascends}
use Rattle.lists.proofs.Tests.{le-or-lt}
use Rattle.lists.proofs.All.{all-at}
use Rattle.lists.proofs.Count.{count-more, count-halves, count_next, count-len}
use Rattle.lists.proofs.Joined.{joined-fits}
use Rattle.lists.proofs.Map.{get_d-map-in}
use Rattle.lists.proofs.Put.{part-cons, part-whole, length_part}
use Rattle.definition.specs.Cut.{Domain, root_domain, leaves_of, longest_axis_lem, left_of, right_of}
use Rattle.definition.specs.Record.{Cuts, uncut, cut_at, cuts_of, level_cuts, leaves_under, depths_of, leaf_number, Node, cut_node, leaf_node, whole_of, float_of, nodes_from, record_of}
use Rattle.definition.specs.Packed.{row_numbers}
use Rattle.definition.proofs.Cuts.{axis-below, left-ascends, right-ascends}
use Rattle.rows.specs.Rows.{GoodRows}
use Rattle.packed.specs.Reading.{own_start, own_count, own_at, read_own}
use Rattle.packed.proofs.OwnRows.{read_length, read_at}
use Rattle.record_laws.specs.Table.{node_count, leaf_count}
use Rattle.record_laws.proofs.Steps.{step-more, step-done, level-cuts}
use Rattle.record_laws.proofs.Entries.{leaves-leaf, leaves-cut, nodes-leaf, nodes-cut, leaf-count-at, leaf-count-leaf, leaf-count-cut, node-count-at, node-count-leaf, node-count-cut, first_part, second-part}
use Rattle.record_laws.proofs.Numbers.{level-names}
use Rattle.record_laws.proofs.Long.{record-nodes, level-count}
use Rattle.record_laws.proofs.Under.{cuts-all}
use Rattle.cut_index.specs.Filed.{positions_of}
use Rattle.cut_index.specs.Recorded.{Recorded}
use Rattle.cut_index.specs.Level.{LevelRecord}
use Rattle.cut_index.proofs.Positions.{positions-leaf, positions-length}

-- ---- the number of a leaf is below how many there are
pub number-below : (ds : List ℕ) (k : ℕ) → k < length ds → leaf_number ds k < length ds
unfolding leaf_number
number-below ds k h =
    let e = get_or ds k 0 in
    omega (
      arith,
      count-more (λ x. eqb x e) ds k 0 h,
      ap one_if (eq-eqb e e refl),
      count-halves (λ x. eqb x e) (suc k) ds,
      count_next (λ (x : ℕ). x) e ds,
      count-len (λ x. ltb x (suc e)) ds,
    )

-- ---- the axes of all cuts
unfoldable AxesFew : Cuts → Type 0
AxesFew (uncut q) = Unit
AxesFew (cut_at a x l r) = (a < 3) × AxesFew l × AxesFew r

axes-few : (d : ℕ) (cs : List Float) → 0 < d → d ≤ 3 → (leaf fuel : ℕ) (q : Domain) → AxesFew (cuts_of d cs leaf fuel q)
unfolding AxesFew cuts_of
axes-few d cs pos few leaf zero q = tt
axes-few d cs pos few leaf (suc fuel) q =
    let b : longest_axis_lem d cs q.rows < 3 = omega (arith, axis-below d cs q.rows pos) in
    ⊎_elim
    (λ (big : 2 * leaf ≤ length q.rows). rw (step-more d cs leaf fuel q big) (b, axes-few d cs pos few leaf fuel (left_of d cs q), axes-few d cs pos few leaf fuel (right_of d cs q)))
    (λ (small : length q.rows < 2 * leaf). rw (step-done d cs leaf fuel q small) (b, tt, tt))
    (le-or-lt (2 * leaf) (length q.rows))

-- ---- one number of each node, in a list
module _ {A : Type 0} (g : Node → A) (z : A) (number : ℕ → ℕ) (xs : List A) where
  abbrev made : ℕ → Cuts → List A
  made k t = map g (nodes_from number k t)

  made-long : (k : ℕ) (t : Cuts) → length (made k t) ≡ node_count t
  made-long k t = length-map (nodes_from number k t) g ∙ node-count-at number k t

  made-leaf : (k at : ℕ) (q : Domain) → at < length xs → part xs at (node_count (uncut q)) ≡ made k (uncut q) → get_or xs at z ≡ g (leaf_node (number k))
  made-leaf k at q h e =
      head-eq_of_cons-eq (sym (part-cons xs at 0 z h) ∙ ap (part xs at) (sym (node-count-leaf q)) ∙ e ∙ ap (map g) (nodes-leaf number k q))

  made-cut : (k at a : ℕ) (x : Float) (l r : Cuts) → at < length xs → part xs at (node_count (cut_at a x l r)) ≡ made k (cut_at a x l r)
      → (get_or xs at z ≡ g (cut_node a x)) × (part xs (suc at) (node_count l) ≡ made k l) × (part xs (suc at + node_count l) (node_count r) ≡ made (k + leaf_count l) r)
  made-cut k at a x l r h e =
      let nl = node_count l in
      let nr = node_count r in
      let j = k + leaf_count l in
      let was : get_or xs at z ∷ part xs (suc at) (nl + nr) ≡ g (cut_node a x) ∷ (made k l ++ made j r) =
      sym (part-cons xs at (nl + nr) z h) ∙ ap (part xs at) (sym (node-count-cut a x l r)) ∙ e ∙ ap (map g) (nodes-cut a x l r number k)
      ∙ ap (λ (ys : List A). g (cut_node a x) ∷ ys) (map-append g (nodes_from number k l) (nodes_from number j r)) in
      let rest = tail-eq_of_cons-eq was in (
        head-eq_of_cons-eq was,
        first_part xs (suc at) nl nr (made k l) (made j r) (made-long k l) (made-long j r) rest,
        second-part xs (suc at) nl nr (made k l) (made j r) (made-long k l) (made-long j r) rest,
      )

-- ---- all nodes of a domain
module _ (active : List ℕ) (cuts : List ℕ) (planes : List Float) (I D : List ℕ) (first m from : ℕ) (positions : List ℕ) where
  -- the leaf q has this number
  record Known (q : Domain) (j : ℕ) : Type 0 where
    known : j < m
    row : row_numbers * (first + j + 1) ≤ length D
    inside : own_start D (first + j) + own_count D (first + j) ≤ length I
    start : from ≤ own_start D (first + j)
    end : own_start D (first + j) - from + own_count D (first + j) ≤ length positions
    rows : own_at I D (first + j) ≡ q.rows
    places : part positions (own_start D (first + j) - from) (own_count D (first + j)) ≡ positions_of active q.rows
    ascends : Ascends q.rows

  module _ (number : ℕ → ℕ) (z : Domain) where
    -- k leaves stand to the left
    stands : (k at : ℕ) (t : Cuts) → AxesFew t → at + node_count t ≤ length cuts → at + node_count t ≤ length planes
        → part cuts at (node_count t) ≡ map whole_of (nodes_from number k t) → part planes at (node_count t) ≡ map float_of (nodes_from number k t)
        → ((i : ℕ) → i < leaf_count t → Known (get_or (leaves_under t) i z) (number (k + i)))
        → Recorded active cuts planes I D first m from positions t at
    unfolding Recorded AxesFew
    stands k at (uncut q) few hc hp ec ep each =
        let n = node-count-leaf q in
        let it : Known q (number k) =
        subst (λ (j : ℕ). Known q (number j)) (add-zero k)
        (subst (λ (fs : List Domain). Known (get_or fs 0 z) (number (k + 0))) (leaves-leaf q) (each 0 (omega (arith, leaf-count-leaf q)))) in
        record {
          number = number k;
          here = omega arith;
          here_too = omega arith;
          whole = made-leaf whole_of 0 number cuts k at q (omega arith) ec;
          known = it.known;
          row = it.row;
          inside = it.inside;
          start = it.start;
          end = it.end;
          rows = it.rows;
          places = it.places;
          ascends = it.ascends;
        }
    stands k at (cut_at a x l r) few hc hp ec ep each =
        let n = node-count-cut a x l r in
        let c = leaf-count-cut a x l r in
        let mc = made-cut whole_of 0 number cuts k at a x l r (omega arith) ec in
        let mp = made-cut float_of nan number planes k at a x l r (omega arith) ep in
        let ll = leaf-count-at l in (
          record { here = omega arith; here_too = omega arith; axis = mc.0; few = few.0; value = mp.0 },
          stands k (suc at) l few.1 (omega arith) (omega arith) mc.1 mp.1 (λ i h.
              subst (λ (q : Domain). Known q (number (k + i)))
              (ap (λ (fs : List Domain). get_or fs i z) (leaves-cut a x l r) ∙ get_or-append (leaves_under l) (leaves_under r) z i (omega arith))
              (each i (omega arith))),
          stands (k + leaf_count l) (suc at + node_count l) r few.2 (omega arith) (omega arith) mc.2 mp.2 (λ i h.
              rw (add_assoc k (leaf_count l) i)
              (subst (λ (q : Domain). Known q (number (k + (leaf_count l + i))))
              (ap (λ (fs : List Domain). get_or fs (leaf_count l + i) z) (leaves-cut a x l r)
              ∙ ap (λ (j : ℕ). get_or (leaves_under l ++ leaves_under r) (j + i) z) (sym ll) ∙ get_or-append-add (leaves_under l) (leaves_under r) i z)
              (each (leaf_count l + i) (omega arith)))),
        )

-- ---- a level
module _ (d : ℕ) (cs : List Float) (leaf : ℕ) (active cuts : List ℕ) (planes : List Float) (I D : List ℕ) (first m from : ℕ) (L : LevelRecord d cs leaf active cuts planes I D first m from)
    (g : GoodRows d cs active) (rows : row_numbers * (first + m) ≤ length D) (inside : (l : ℕ) → l < m → own_start D (first + l) + own_count D (first + l) ≤ length I) where
  abbrev t : Cuts
  t = level_cuts d cs leaf active

  abbrev own : List (List ℕ)
  own = read_own I D first m

  abbrev number : ℕ → ℕ
  number = leaf_number (depths_of (leaves_under t))

  abbrev z : Domain
  z = root_domain d cs active

  record-is : record_of d cs leaf active ≡ nodes_from number 0 t
  unfolding record_of
  record-is = refl

  level-axes : AxesFew t
  unfolding level_cuts
  level-axes = axes-few d cs L.axes L.axes_few leaf (length active) z

  level-ascends : All (λ (q : Domain). Ascends q.rows) (leaves_under t)
  unfolding root_domain
  level-ascends =
      rw (level-cuts d cs leaf active)
      (cuts-all d cs leaf (λ (q : Domain). Ascends q.rows) (left-ascends d cs) (right-ascends d cs) (root_domain d cs active) g.ascends)

  wholes-long : length cuts ≡ node_count t
  wholes-long = ap length L.wholes ∙ length-map (record_of d cs leaf active) whole_of ∙ record-nodes d cs leaf active

  floats-long : length planes ≡ node_count t
  floats-long = ap length L.floats ∙ length-map (record_of d cs leaf active) float_of ∙ record-nodes d cs leaf active

  -- as many leaves as domains
  many : m ≡ leaf_count t
  many =
      sym (read_length I D first m) ∙ ap length L.own ∙ length-map (leaves_of d cs leaf active) (λ (q : Domain). q.rows)
      ∙ level-count d cs L.axes leaf L.leaf_some active g L.rows_some

  module _ (positions : List ℕ) (e : positions ≡ positions_of active (joined (read_own I D first m))) (i : ℕ) (here : i < leaf_count t) where
    abbrev j : ℕ
    j = number i

    among : i < length (leaves_under t)
    among = omega (arith, leaf-count-at t)

    below : j < m
    below =
        let n : length (depths_of (leaves_under t)) ≡ length (leaves_under t) = length-map (leaves_under t) (λ (q : Domain). q.depth) in
        omega (arith, number-below (depths_of (leaves_under t)) i (omega (arith, among)), leaf-count-at t, many)

    one-own : get_or own j [] ≡ own_at I D (first + j)
    one-own = read_at I D first m j below

    is-its : get_or own j [] ≡ (get_or (leaves_under t) i z).rows
    is-its =
        let n : length own ≡ length (leaves_of d cs leaf active) = ap length L.own ∙ length-map (leaves_of d cs leaf active) (λ (q : Domain). q.rows) in
        ap (λ (ls : List (List ℕ)). get_or ls j []) L.own
        ∙ get_d-map-in (λ (q : Domain). q.rows) (leaves_of d cs leaf active) j z [] (omega (arith, read_length I D first m, below))
        ∙ ap (λ (q : Domain). q.rows) (level-names d cs L.axes leaf L.leaf_some active g L.rows_some i z among)

    known-leaf : Known active cuts planes I D first m from positions (get_or (leaves_under t) i z) j
    known-leaf =
        let s = own_start D (first + j) in
        let n = own_count D (first + j) in
        let before = total (map length (take j own)) in
        let p : s ≡ from + before = L.packed j below in
        let f : j < length own = omega (arith, read_length I D first m, below) in
        let len : length (get_or own j []) ≡ n = ap length one-own ∙ length_part I s n (inside j below) in
        let b : s - from ≡ before = omega arith in
        record {
          known = below;
          row = omega (arith, rows, below);
          inside = inside j below;
          start = omega arith;
          end = omega (arith, len, joined-fits own j f, ap length e, positions-length active (joined own));
          rows = sym one-own ∙ is-its;
          places =
              ap (λ (ps : List ℕ). part ps (s - from) n) e ∙ ap₂ (part (positions_of active (joined own))) b (sym len)
              ∙ positions-leaf active own j f ∙ ap (positions_of active) is-its;
          ascends = all-at (λ (q : Domain). Ascends q.rows) (leaves_under t) i z level-ascends among;
        }

  -- THE LAW
  pub level-recorded : (positions : List ℕ) → positions ≡ positions_of active (joined (read_own I D first m))
      → Recorded active cuts planes I D first m from positions (level_cuts d cs leaf active) 0
  level-recorded positions e =
      stands active cuts planes I D first m from positions number z 0 0 t level-axes (omega (arith, wholes-long)) (omega (arith, floats-long))
      (part-whole cuts (node_count t) wholes-long ∙ L.wholes ∙ ap (map whole_of) record-is)
      (part-whole planes (node_count t) floats-long ∙ L.floats ∙ ap (map float_of) record-is)
      (λ i h. rw (zero-add i) (known-leaf positions e i h))
