-- A level, cut depth first: what the cut of its root has left is what the numbering asks for, and what the numbering makes of it are the
-- level's leaves and its record. Assumes nothing.
-- Holds: planes-same, root_is, root-wide, root-space, level-tabled, level-rows, level-own, level-boxes, level-cuts-are,
--   level-planes, level-many
use mathlib.Core.Path.{◌≡◌, refl, sym, ap, ap₂, ◌∙◌}
use mathlib.Core.Logic.{◌⊎◌, ⊎_elim}
use mathlib.Core.List.{List, [], ◌∷◌, map, map-append}
use Prim.Native.Nat.{ℕ, zero, suc, ◌+◌, ◌*◌, ◌^◌, ◌≤◌, ◌<◌}
use native.Mathlib.Nat.{mul-zero, mul-le-mul_left, zero-add}
use native.Mathlib.Omega.{arith}
use lib.ListN.{length, get_or, take, drop, length-map}
use lib.Ieee.{Float}
use Rattle.lists.specs.Lists.{put, part, joined}
use Rattle.lists.specs.Ascends.{All}
use Rattle.lists.proofs.Tests.{same_or}
use Rattle.lists.proofs.Put.{front-put, part-put-same}
use Rattle.lists.proofs.All.{all-imp, all_map, map-all, all-at}
use Rattle.lists.proofs.Joined.{joined-map-even}
use Rattle.definition.specs.Packed.{row_numbers}
use Rattle.definition.specs.Points.{extents, box_width_lem}
use Rattle.definition.specs.Cut.{Domain, root_domain, leaves_of}
use Rattle.definition.specs.Record.{Cuts, uncut, cut_at, depths_of, whole_of, float_of, level_cuts, nodes_from, leaf_number, record_of}
use Rattle.definition.specs.Tree.{most_depth}
use Rattle.queue.specs.Rows.{domain_own}
use Rattle.rows.specs.Rows.{GoodRows}
use Rattle.rows.proofs.Good.{good-good}
use Rattle.boxes.specs.declared.Extents.{Extents}
use Rattle.boxes.specs.Boxes.{floats_of}
use Rattle.leaves.proofs.Turns.{length-extents}
use Rattle.record_laws.specs.ByDepth.{at_depth, domain_depth}
use Rattle.record_laws.specs.Table.{Entry, entry_width, entry_numbers, entries_in, entries_under, cuts_at, unnumbered, node_count, leaf_count, rows_under, boxes_under, rows_at_depth}
use Rattle.record_laws.proofs.Steps.{level-cuts}
use Rattle.record_laws.proofs.ByDepth.{at-nil, at_one, at_other}
use Rattle.record_laws.proofs.Depths.{least_depth, level_leaves, two-depths, depth-most, some-leaf, by_two}
use Rattle.record_laws.proofs.Entries.{nodes-leaf, nodes-cut, leaf-count-at, entries-depths, entries-count, entries-places, entries-total, entries-read, rows_at, boxes-at, boxes-under-length}
use Rattle.record_laws.proofs.Numbers.{numbered-record}
use Rattle.record_laws.proofs.Long.{level-count}
use Rattle.cut_nodes.specs.Written.{domain_of, Written, Space}
use Rattle.record_laws.proofs.Under.{cuts-small, cuts-wide}
use Rattle.leaf_numbers.specs.Numbering.{table_of, first_depth, rows_by_number, own_deep, own_by_number, boxes_by_number, all_numbered, Tabled}

-- a leaf's float is +0 whatever its number
pub planes-same : (f g : ℕ → ℕ) (j k : ℕ) (t : Cuts) → map float_of (nodes_from f j t) ≡ map float_of (nodes_from g k t)
planes-same f g j k (uncut q) = rw (nodes-leaf f j q, nodes-leaf g k q)
planes-same f g j k (cut_at a p l r) =
    rw (
      nodes-cut a p l r f j,
      nodes-cut a p l r g k,
      map-append float_of (nodes_from f j l) (nodes_from f (j + leaf_count l) r),
      map-append float_of (nodes_from g k l) (nodes_from g (k + leaf_count l) r),
      planes-same f g j k l,
      planes-same f g (j + leaf_count l) (k + leaf_count l) r,
    )

first_entry : (w : List ℕ) (at m : ℕ) → get_or w at 0 ≡ get_or (map (λ (x : Entry). x.depth) (entries_in w at (suc m))) 0 0
unfolding entries_in
first_entry w at m = refl

-- the own rows of the leaves at depth e, with that depth, are their own rows with their depths
own_at : (e : ℕ) (fs : List Domain) → own_deep e (map (λ (q : Domain). q.rows) (at_depth domain_depth e fs)) ≡ map domain_own (at_depth domain_depth e fs)
own_at e [] = rw (at-nil domain_depth e)
own_at e (f ∷ fs) =
    ⊎_elim
    (λ (q : f.depth ≡ e). rw (at_one domain_depth e f fs q) (ap₂ ◌∷◌ (ap (λ (z : ℕ). record { rows = f.rows; depth = z }) (sym q)) (own_at e fs)))
    (λ (q : f.depth ≡ e → ⊥). rw (at_other domain_depth e f fs q) (own_at e fs))
    (same_or f.depth e)

module _ (d : ℕ) (cs : List Float) (pos : 0 < d) (leaf : ℕ) (lp : 1 ≤ leaf) (R : List ℕ) (good : GoodRows d cs R) (some : 1 ≤ length R) where
  abbrev t : Cuts
  t = level_cuts d cs leaf R

  abbrev fs : List Domain
  fs = level_leaves d cs leaf R

  abbrev n : ℕ
  n = length R

  abbrev e₀ : ℕ
  e₀ = least_depth domain_depth fs

  -- ---- the root
  module _ (whole : Extents) (e : floats_of whole ≡ extents d cs R) where
    pub root_is : cuts_at d cs leaf (domain_of R whole 0) ≡ level_cuts d cs leaf R
    unfolding root_domain
    root_is = rw e (sym (level-cuts d cs leaf R))

    pub root-wide : length (floats_of whole) ≡ box_width_lem d
    root-wide = ap length e ∙ length-extents d cs R

  root-box : length (root_domain d cs R).box ≡ box_width_lem d
  unfolding root_domain
  root-box = length-extents d cs R

  small : (leaf_count t ≤ 2 * n) × (node_count t + 1 ≤ 4 * n)
  unfolding root_domain
  small = rw (level-cuts d cs leaf R) (cuts-small d cs leaf pos lp (root_domain d cs R) (good-good R good) some)

  wide : All (λ (f : Domain). length f.box ≡ box_width_lem d) fs
  wide = rw (level-cuts d cs leaf R) (cuts-wide d cs leaf (box_width_lem d) (root_domain d cs R) root-box)

  pub root-space : {W : List ℕ} {F : List Float} {C : List ℕ} {P : List Float} (place : ℕ) → 7 * length R ≤ length W → box_width_lem d * (2 * length R) ≤ length F → place + 4 * length R ≤ length C
      → place + 4 * length R ≤ length P → Space d (length R) (length R) place 0 W F C P
  root-space place hW hF hC hP =
      record { ordering = omega arith; table = omega (arith, hW); boxes = rw (zero-add (2 * length R)) hF; cuts = hC; planes = hP }

  -- ---- after the cut of the root: R₁, W₁, F₁, C₁ and P₁
  module _ {place next m : ℕ} {W : List ℕ} {F : List Float} {C : List ℕ} {P : List Float} (R₁ W₁ : List ℕ) (F₁ : List Float) (C₁ : List ℕ) (P₁ : List Float)
      (eR : R₁ ≡ rows_under (level_cuts d cs leaf R)) (w : Written d (length R) (level_cuts d cs leaf R) place 0 next m W W₁ F F₁ C C₁ P P₁) (nR : length R₁ ≡ length R)
      (nW : length W₁ ≡ length W) (nF : length F₁ ≡ length F) (nC : length C₁ ≡ length C) (room : Space d (length R) (length R) place 0 W F C P) where
    abbrev es : List Entry
    es = entries_under place t

    many : m ≡ leaf_count t
    many = omega (arith, w.leaves_next)

    es-many : length es ≡ m
    es-many = entries-count place t ∙ sym many

    es-long : length (joined (map entry_numbers es)) ≡ entry_width * length es
    es-long = joined-map-even entry_numbers entry_width (λ x. refl) es

    es-part : part W₁ (length R) (entry_width * length es) ≡ joined (map entry_numbers es)
    unfolding part
    es-part = ap (take (entry_width * length es)) w.table ∙ front-put (drop (length R) W) (joined (map entry_numbers es)) (entry_width * length es) (sym es-long)

    -- the table reads back
    table_is : table_of R₁ W₁ m ≡ es
    table_is =
        ap (λ (z : ℕ). entries_in W₁ z m) nR ∙ ap (entries_in W₁ (length R)) (sym es-many)
        ∙ entries-read W₁ (length R) es es-part (omega (arith, es-many, many, small.0, nW, room.table))

    least-is : first_depth R₁ W₁ ≡ e₀
    least-is =
        first_of m (omega (arith, es-many, entries-count place t, leaf-count-at t, some-leaf d cs pos leaf lp R good some))
        ∙ ap (λ (l : List Entry). get_or (map (λ (x : Entry). x.depth) l) 0 0) table_is ∙ ap (λ (l : List ℕ). get_or l 0 0) (entries-depths place t)
      where
        first_of : (m : ℕ) → 1 ≤ m → first_depth R₁ W₁ ≡ get_or (map (λ (x : Entry). x.depth) (table_of R₁ W₁ m)) 0 0
        first_of zero h = absurd (omega arith)
        first_of (suc m) h = first_entry W₁ (length R₁) m

    two : All (λ (x : Entry). (x.depth ≡ e₀) ⊎ (x.depth ≡ suc e₀)) es
    two =
        map-all (λ (z : ℕ). (z ≡ e₀) ⊎ (z ≡ suc e₀)) (λ (x : Entry). x.depth) es
        (rw (entries-depths place t) (all_map (λ (z : ℕ). (z ≡ e₀) ⊎ (z ≡ suc e₀)) domain_depth fs (two-depths d cs pos leaf lp R good some)))

    shallow : e₀ ≤ most_depth
    shallow =
        all-at (λ (z : ℕ). z ≤ most_depth) (depths_of fs) 0 0
        (all_map (λ (z : ℕ). z ≤ most_depth) domain_depth fs (depth-most d cs pos leaf lp R good some good.few))
        (omega (arith, some-leaf d cs pos leaf lp R good some, length-map fs domain_depth))

    -- what the numbering asks
    pub level-tabled : d ≤ 3 → (at first : ℕ) (D : List ℕ) (B : List Float) → at + length R < 2 ^ 64 → row_numbers * (first + 2 * length R) ≤ length D
        → box_width_lem d * (first + 2 * length R) ≤ length B → Tabled d m R₁ at D first B F₁ W₁ C₁
    level-tabled few at first D B hat hD hB =
        let m_b : first + m ≤ first + 2 * length R = omega (arith, many, small.0) in
        let m_f : m ≤ 0 + 2 * length R = omega (arith, many, small.0) in
        record {
          room =
              record {
                axes = few;
                rows_fit = omega (arith, hat, nR);
                table_fits = omega (arith, nR, nW, many, small.0, room.table);
                floats_fit = omega (arith, nF, room.boxes, mul-le-mul_left (box_width_lem d) m_f);
                domains_fit = omega (arith, hD, m_b);
                boxes_fit = omega (arith, hB, mul-le-mul_left (box_width_lem d) m_b);
              };
          full =
              record {
                all_rows = rw table_is (entries-total place t ∙ ap length (sym eR));
                places =
                    rw table_is
                    (all-imp (λ (x : Entry). (place ≤ x.place) × (x.place < place + node_count t)) (λ (x : Entry). x.place < length C₁) es
                    (λ x h. omega (arith, h.1, small.1, room.cuts, nC)) (entries-places place t));
              };
          leaves = omega (arith, many, leaf-count-at t, some-leaf d cs pos leaf lp R good some);
          depths = rw (table_is, least-is) two;
          depth_fits = rw least-is (omega (arith, shallow));
        }

    -- what it makes of it
    rows_of : (e : ℕ) → rows_at_depth e R₁ 0 es ≡ map (λ (q : Domain). q.rows) (at_depth domain_depth e fs)
    rows_of e = ap (λ (z : List ℕ). rows_at_depth e z 0 es) eR ∙ rows_at e place t

    pub level-rows : rows_by_number (first_depth R₁ W₁) R₁ (table_of R₁ W₁ m) ≡ map (λ (q : Domain). q.rows) (leaves_of d cs leaf R)
    level-rows =
        rw (table_is, least-is, rows_of e₀, rows_of (suc e₀))
        (sym (map-append (λ (q : Domain). q.rows) (at_depth domain_depth e₀ fs) (at_depth domain_depth (suc e₀) fs)) ∙ ap (map (λ (q : Domain). q.rows)) (sym (by_two d cs pos leaf lp R good some)))

    pub level-own : own_by_number (first_depth R₁ W₁) R₁ (table_of R₁ W₁ m) ≡ map domain_own (leaves_of d cs leaf R)
    level-own =
        rw (table_is, least-is, rows_of e₀, rows_of (suc e₀), own_at e₀ fs, own_at (suc e₀) fs)
        (sym (map-append domain_own (at_depth domain_depth e₀ fs) (at_depth domain_depth (suc e₀) fs)) ∙ ap (map domain_own) (sym (by_two d cs pos leaf lp R good some)))

    held : part F₁ 0 (box_width_lem d * leaf_count t) ≡ boxes_under t
    held =
        ap (λ (z : List Float). part z 0 (box_width_lem d * leaf_count t)) (w.boxes ∙ ap (λ (z : ℕ). put F z (boxes_under t)) (mul-zero (box_width_lem d)))
        ∙ part-put-same F 0 (boxes_under t) (box_width_lem d * leaf_count t) (omega arith) (boxes-under-length (box_width_lem d) t wide)

    pub level-boxes : boxes_by_number (first_depth R₁ W₁) (box_width_lem d) F₁ (table_of R₁ W₁ m) ≡ map (λ (q : Domain). q.box) (leaves_of d cs leaf R)
    level-boxes =
        rw (table_is, least-is, boxes-at e₀ place (box_width_lem d) t F₁ wide held, boxes-at (suc e₀) place (box_width_lem d) t F₁ wide held)
        (sym (map-append (λ (q : Domain). q.box) (at_depth domain_depth e₀ fs) (at_depth domain_depth (suc e₀) fs)) ∙ ap (map (λ (q : Domain). q.box)) (sym (by_two d cs pos leaf lp R good some)))

    pub level-cuts-are : all_numbered (first_depth R₁ W₁) R₁ (table_of R₁ W₁ m) C₁ ≡ put C place (map whole_of (record_of d cs leaf R))
    unfolding record_of
    level-cuts-are =
        rw (table_is, least-is)
        (numbered-record t place e₀ (length (rows_at_depth e₀ R₁ 0 es)) C C₁ (omega (arith, small.1, room.cuts)) (two-depths d cs pos leaf lp R good some)
        (ap length (rows_of e₀) ∙ length-map (at_depth domain_depth e₀ fs) (λ (q : Domain). q.rows)) w.cuts)

    pub level-planes : P₁ ≡ put P place (map float_of (record_of d cs leaf R))
    unfolding record_of
    level-planes = w.planes ∙ ap (put P place) (planes-same unnumbered (leaf_number (depths_of fs)) 0 0 t)

    pub level-many : m ≡ length (leaves_of d cs leaf R)
    level-many = many ∙ sym (level-count d cs pos leaf lp R good some)
