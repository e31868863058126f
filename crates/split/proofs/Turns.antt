-- A call of the depth-first cut: what it asks of its callees, and what it has written when both halves are done. Assumes nothing.
-- Holds: Turn, turn, left-long, right-long, rows_long, leaves-asked, leaves-rows, leaves-written, left_less, left-asked,
--   rows-now, right-less, right-asked, halves-written, halves-rows, halves_long
use mathlib.Core.Path.{◌≡◌, refl, sym, ap, subst, ◌∙◌}
use mathlib.Core.List.{List, ◌++◌, append-nil}
use Prim.Native.Nat.{ℕ, ◌+◌, ◌-◌, ◌*◌, ◌/◌, ◌^◌, ◌≤◌, ◌<◌}
use native.Mathlib.Nat.{mul-le-mul_left}
use native.Mathlib.Numerals.{add-one}
use native.Mathlib.Omega.{arith}
use borrow.Rule.Slice.PartMut.{put_mid}
use lib.ListN.{length, take, drop, set, length-append, length-set, drop_of_length-le}
use lib.Seq.{take_at, drop_at, take_all}
use lib.Ieee.{Float}
use Rattle.lists.specs.Found.{AsFoundFrom}
use Rattle.definition.specs.Points.{box_width_lem}
use Rattle.definition.specs.Cut.{Domain, longest_axis_lem, plane, left_of, right_of}
use Rattle.definition.specs.Record.{Cuts, uncut, cut_at}
use Rattle.definition.proofs.Cuts.{Good, left-length, right-length, left-good}
use Rattle.rows.specs.Rows.{GoodRows}
use Rattle.rows.proofs.Good.{good-good}
use Rattle.halving.specs.Cuts.{halved}
use Rattle.cut.proofs.Halves.{good_left, good_right, cut-is}
use Rattle.boxes.specs.declared.Extents.{Extents}
use Rattle.boxes.specs.Boxes.{floats_of}
use Rattle.record_laws.specs.Table.{cuts_at, entry_width, rows_under, boxes_under, node_count, leaf_count}
use Rattle.record_laws.proofs.Steps.{cuts-more, cuts-done}
use Rattle.cut_nodes.specs.Written.{domain_of, Written, WrittenTwo, Space}
use Rattle.record_laws.proofs.Entries.{rows-under-leaf, rows-under-cut, boxes-under-length}
use Rattle.record_laws.proofs.Under.{cuts-small, cuts-wide}
use Rattle.cut_nodes.proofs.Laws.{table_kept, written_of, two-of, written-two, written-cut}

-- ---- two parts of a list that are lent one after the other
module _ (R l r : List ℕ) (h : ℕ) (e : R ≡ l ++ r) (el : length l ≡ h) where
  first-lent : take h R ≡ l
  first-lent = rw e (take_at l r h el)

  -- f is what came back for the first
  module _ (f : List ℕ) (ef : length f ≡ h) where
    abbrev now-rows : List ℕ
    now-rows = f ++ drop h R

    now-is : now-rows ≡ f ++ r
    now-is = rw e (ap (λ (z : List ℕ). f ++ z) (drop_at l r h el))

    now-long : length (f ++ drop h R) ≡ h + length r
    now-long = ap length now-is ∙ length-append f r ∙ ap (λ (n : ℕ). n + length r) ef

    second-lent : take (length (f ++ drop h R) - h) (drop h (f ++ drop h R)) ≡ r
    second-lent = rw (now-is, drop_at f r h ef) (take_all (length (f ++ r) - h) r (omega (arith, length-append f r)))

    both-back : (g : List ℕ) → put_mid h (length (f ++ drop h R) - h) (f ++ drop h R) g ≡ f ++ g
    both-back g =
        rw (
          now-is,
          take_at f r h ef,
          drop_at f r h ef,
          drop_of_length-le r {i = length (f ++ r) - h} (omega (arith, length-append f r)),
          append-nil g,
        )

-- ---- room for the halves
module _ {d base n place first : ℕ} {W : List ℕ} {F : List Float} {C : List ℕ} {P : List Float} (room : Space d base n place first W F C P)
    (W₁ : List ℕ) (F₁ : List Float) (C₁ : List ℕ) (P₁ : List Float) (eW : length W₁ ≡ length W) (eF : length F₁ ≡ length F) (eC : length C₁ ≡ length C) (eP : length P₁ ≡ length P) where
  space-left : (m : ℕ) → m ≡ n / 2 → 1 ≤ n / 2 → Space d base m (place + 1) first W₁ F₁ C₁ P₁
  space-left m e h =
      let less : first + 2 * m ≤ first + 2 * n = omega arith in
      record {
        ordering = omega (arith, room.ordering);
        table = omega (arith, room.table, eW);
        boxes = omega (arith, room.boxes, eF, mul-le-mul_left (box_width_lem d) less);
        cuts = omega (arith, room.cuts, eC);
        planes = omega (arith, room.planes, eP);
      }

  space-right : (m : ℕ) → m ≡ n - n / 2 → 1 ≤ n / 2 → (nodes leaves next after : ℕ) → nodes + 1 ≤ 4 * (n / 2) → leaves ≤ 2 * (n / 2) → next ≡ place + 1 + nodes → after ≡ first + leaves
      → Space d base m next after W₁ F₁ C₁ P₁
  space-right m e h nodes leaves next after hn hl en ea =
      let less : after + 2 * m ≤ first + 2 * n = omega arith in
      record {
        ordering = omega (arith, room.ordering);
        table = omega (arith, room.table, eW);
        boxes = omega (arith, room.boxes, eF, mul-le-mul_left (box_width_lem d) less);
        cuts = omega (arith, room.cuts, eC);
        planes = omega (arith, room.planes, eP);
      }

-- ---- a call, after the cut of its domain: `rows` and three of the lists are as the cut left them, with a prime, and the boxes of the
-- halves are made
pub record Turn (d : ℕ) (cs : List Float) (leaf : ℕ) (R : List ℕ) (whole : Extents) (base e place first : ℕ) (W : List ℕ) (F : List Float) (C : List ℕ) (P : List Float)
    (R' W' C' : List ℕ) (P' : List Float) (left right : Extents) : Type 0 where
  pub pos : 0 < d
  pub few : d ≤ 3
  pub lp : 1 ≤ leaf
  pub some : 1 ≤ length R
  pub good : GoodRows d cs R
  pub deep : e + length R < 2 ^ 64
  pub room : Space d base (length R) place first W F C P
  pub rows : R' ≡ (left_of d cs (domain_of R whole e)).rows ++ (right_of d cs (domain_of R whole e)).rows
  pub found : AsFoundFrom (length R) W W'
  pub cuts : C' ≡ set C place (longest_axis_lem d cs R)
  pub planes : P' ≡ set P place (plane d cs R)
  pub long_W : length W' ≡ length W
  pub long-C : length C' ≡ length C
  pub long-P : length P' ≡ length P
  pub left_is : domain_of (left_of d cs (domain_of R whole e)).rows left (e + 1) ≡ left_of d cs (domain_of R whole e)
  pub right_is : domain_of (right_of d cs (domain_of R whole e)).rows right (e + 1) ≡ right_of d cs (domain_of R whole e)
  pub left-on : left.dimensions ≡ d
  pub right-on : right.dimensions ≡ d
  pub left-wide : length (floats_of left) ≡ box_width_lem d
  pub right-wide : length (floats_of right) ≡ box_width_lem d

-- what a call asks of its rows and its box, and what `cut_node` and the two boxes ensure, come to that
module _ {d : ℕ} {cs : List Float} {leaf : ℕ} (R : List ℕ) (whole left right : Extents) {base : ℕ} (e : ℕ) {place first : ℕ} {W : List ℕ} {F : List Float} {C : List ℕ} {P : List Float} (axis : ℕ) (value : Float)
    (asked : (0 < d) × (d ≤ 3) × (1 ≤ leaf) × (1 ≤ length R) × GoodRows d cs R)
    (lent : (whole.dimensions ≡ d) × (length (floats_of whole) ≡ box_width_lem d) × (e + length R < 2 ^ 64) × Space d base (length R) place first W F C P) where
  pub turn : (R' W' C' : List ℕ) (P' : List Float) → (axis ≡ longest_axis_lem d cs R) × (value ≡ plane d cs R) → R' ≡ halved d cs (longest_axis_lem d cs R) R → AsFoundFrom (length R) W W'
      → C' ≡ set C place (longest_axis_lem d cs R) → P' ≡ set P place (plane d cs R) → length W' ≡ length W
      → (left.dimensions ≡ whole.dimensions) × (floats_of left ≡ set (floats_of whole) (whole.dimensions + axis) value)
      → (right.dimensions ≡ whole.dimensions) × (floats_of right ≡ set (floats_of whole) axis value)
      → Turn d cs leaf R whole base e place first W F C P R' W' C' P' left right
  unfolding left_of right_of
  turn R' W' C' P' at eR found eC eP nW l r =
      record {
        pos = asked.0;
        few = asked.1;
        lp = asked.2;
        some = asked.3;
        good = asked.4;
        deep = lent.2;
        room = lent.3;
        rows = eR ∙ cut-is d cs (domain_of R whole e) R refl;
        found = found;
        cuts = eC;
        planes = eP;
        long_W = nW;
        long-C = ap length eC ∙ length-set C place (longest_axis_lem d cs R);
        long-P = ap length eP ∙ length-set P place (plane d cs R);
        left_is = rw (l.1, lent.0, at.0, at.1, add-one e);
        right_is = rw (r.1, at.0, at.1, add-one e);
        left-on = l.0 ∙ lent.0;
        right-on = r.0 ∙ lent.0;
        left-wide = ap length l.1 ∙ length-set (floats_of whole) (whole.dimensions + axis) value ∙ lent.1;
        right-wide = ap length r.1 ∙ length-set (floats_of whole) axis value ∙ lent.1;
      }

module _ {d : ℕ} {cs : List Float} {leaf : ℕ} {R : List ℕ} {whole : Extents} {base e place first : ℕ} {W : List ℕ} {F : List Float} {C : List ℕ} {P : List Float} {R' W' C' : List ℕ} {P' : List Float} {left right : Extents}
    (x : Turn d cs leaf R whole base e place first W F C P R' W' C' P' left right) where
  abbrev q : Domain
  q = domain_of R whole e

  abbrev a : ℕ
  a = longest_axis_lem d cs R

  abbrev p : Float
  p = plane d cs R

  known : Good d cs R
  known = good-good R x.good

  pub left-long : length (left_of d cs (domain_of R whole e)).rows ≡ length R / 2
  left-long = left-length d cs x.pos q known

  pub right-long : length (right_of d cs (domain_of R whole e)).rows ≡ length R - length R / 2
  right-long = right-length d cs x.pos q known

  pub rows_long : length R' ≡ length R
  rows_long = ap length x.rows ∙ length-append (left_of d cs q).rows (right_of d cs q).rows ∙ omega (arith, left-long, right-long)

  -- both halves are written behind the cut
  written : {next after : ℕ} {W₂ : List ℕ} {F₂ : List Float} {C₂ : List ℕ} {P₂ : List Float} (l r : Cuts)
      → WrittenTwo d base l r (place + 1) first next after W' W₂ F F₂ C' C₂ P' P₂ → Written d base (cut_at a p l r) place first next after W W₂ F F₂ C C₂ P P₂
  written l r two =
      written-cut a p (omega (arith, x.some, x.room.cuts)) (omega (arith, x.some, x.room.planes)) (table_kept W W' (length R) base x.found x.room.ordering) x.cuts x.planes
      (rw (add-one place) at two)

  -- ---- the halves are leaves
  pub leaves-asked :
      (left.dimensions ≤ 3) × (right.dimensions ≡ left.dimensions) × (length (floats_of left) ≡ box_width_lem left.dimensions) × (base + entry_width * (first + 2) ≤ length W')
      × (box_width_lem left.dimensions * (first + 2) ≤ length F) × (place + 1 + 2 ≤ length C') × (place + 1 + 2 ≤ length P')
  leaves-asked =
      let on = x.left-on in
      let s = x.some in
      let two : first + 2 ≤ first + 2 * length R = omega arith in (
        omega (arith, x.few, on),
        x.right-on ∙ sym on,
        x.left-wide ∙ ap box_width_lem (sym on),
        omega (arith, x.room.table, x.long_W),
        subst (λ (n : ℕ). box_width_lem n * (first + 2) ≤ length F) (sym on) (omega (arith, x.room.boxes, mul-le-mul_left (box_width_lem d) two)),
        omega (arith, x.room.cuts, x.long-C),
        omega (arith, x.room.planes, x.long-P),
      )

  module _ (small : length R / 2 < leaf) where
    done : cuts_at d cs leaf q ≡ cut_at a p (uncut (left_of d cs q)) (uncut (right_of d cs q))
    done = cuts-done d cs leaf x.pos x.lp q known x.some (omega arith)

    pub leaves-rows : R' ≡ rows_under (cuts_at d cs leaf (domain_of R whole e))
    leaves-rows =
        x.rows
        ∙ sym (ap rows_under done ∙ rows-under-cut a p (uncut (left_of d cs q)) (uncut (right_of d cs q)) ∙ rw (rows-under-leaf (left_of d cs q), rows-under-leaf (right_of d cs q)))

    pub leaves-written : {next after : ℕ} {W₂ : List ℕ} {F₂ : List Float} {C₂ : List ℕ} {P₂ : List Float}
        → WrittenTwo left.dimensions base (uncut (domain_of (left_of d cs (domain_of R whole e)).rows left (e + 1))) (uncut (domain_of (right_of d cs (domain_of R whole e)).rows right (e + 1))) (place + 1) first next after W' W₂ F F₂ C' C₂ P' P₂
        → Written d base (cuts_at d cs leaf (domain_of R whole e)) place first next after W W₂ F F₂ C C₂ P P₂
    leaves-written two = rw done (written (uncut (left_of d cs q)) (uncut (right_of d cs q)) (two-of x.left-on (ap uncut x.left_is) (ap uncut x.right_is) two))

  -- ---- the halves are cut too
  module _ (big : leaf ≤ length R / 2) where
    more : cuts_at d cs leaf q ≡ cut_at a p (cuts_at d cs leaf (left_of d cs q)) (cuts_at d cs leaf (right_of d cs q))
    more = cuts-more d cs leaf x.pos x.lp q known x.some (omega (arith, big))

    left-lent : take (length R / 2) R' ≡ (left_of d cs q).rows
    left-lent = first-lent R' (left_of d cs q).rows (right_of d cs q).rows (length R / 2) x.rows left-long

    left-now : domain_of (take (length R / 2) R') left (e + 1) ≡ left_of d cs q
    left-now = ap (λ (z : List ℕ). domain_of z left (e + 1)) left-lent ∙ x.left_is

    -- the left one
    pub left_less : length (take (length R / 2) R') < length R
    left_less = omega (arith, ap length left-lent, left-long, big, x.lp)

    pub left-asked :
        ((0 < d) × (d ≤ 3) × (1 ≤ leaf) × (1 ≤ length (take (length R / 2) R')) × GoodRows d cs (take (length R / 2) R'))
        × ((left.dimensions ≡ d) × (length (floats_of left) ≡ box_width_lem d) × (e + 1 + length (take (length R / 2) R') < 2 ^ 64)
        × Space d base (length (take (length R / 2) R')) (place + 1) first W' F C' P')
    left-asked =
        let n : length (take (length R / 2) R') ≡ length R / 2 = ap length left-lent ∙ left-long in (
          (x.pos, x.few, x.lp, omega (arith, n, big, x.lp), rw left-lent (good_left q x.good)),
          (
            x.left-on,
            x.left-wide,
            omega (arith, n, x.deep, big, x.lp),
            space-left x.room W' F C' P' x.long_W refl x.long-C x.long-P (length (take (length R / 2) R')) n (omega (arith, big, x.lp)),
          ),
        )

    -- then the right one, where f came back for the left one's rows
    module _ (f : List ℕ) (nf : length f ≡ length (take (length R / 2) R')) where
      f-long : length f ≡ length R / 2
      f-long = nf ∙ ap length left-lent ∙ left-long

      pub rows-now : length (f ++ drop (length R / 2) R') ≡ length R
      rows-now = now-long R' (left_of d cs q).rows (right_of d cs q).rows (length R / 2) x.rows left-long f f-long ∙ omega (arith, right-long)

      abbrev Right : List ℕ
      Right = take (length (f ++ drop (length R / 2) R') - length R / 2) (drop (length R / 2) (f ++ drop (length R / 2) R'))

      right-lent : Right ≡ (right_of d cs q).rows
      right-lent = second-lent R' (left_of d cs q).rows (right_of d cs q).rows (length R / 2) x.rows left-long f f-long

      right-now : domain_of Right right (e + 1) ≡ right_of d cs q
      right-now = ap (λ (z : List ℕ). domain_of z right (e + 1)) right-lent ∙ x.right_is

      pub right-less : length (take (length (f ++ drop (length R / 2) R') - length R / 2) (drop (length R / 2) (f ++ drop (length R / 2) R'))) < length R
      right-less = omega (arith, ap length right-lent, right-long, big, x.lp)

      module _ {n₁ k₁ : ℕ} (W₁ : List ℕ) (F₁ : List Float) (C₁ : List ℕ) (P₁ : List Float)
          (l : Written d base (cuts_at d cs leaf (domain_of (take (length R / 2) R') left (e + 1))) (place + 1) first n₁ k₁ W' W₁ F F₁ C' C₁ P' P₁)
          (nW : length W₁ ≡ length W') (nF : length F₁ ≡ length F) (nC : length C₁ ≡ length C') (nP : length P₁ ≡ length P') where
        first-half : Written d base (cuts_at d cs leaf (left_of d cs q)) (place + 1) first n₁ k₁ W' W₁ F F₁ C' C₁ P' P₁
        first-half = written_of refl (ap (cuts_at d cs leaf) left-now) l

        pub right-asked :
            ((0 < d) × (d ≤ 3) × (1 ≤ leaf) × (1 ≤ length (take (length (f ++ drop (length R / 2) R') - length R / 2) (drop (length R / 2) (f ++ drop (length R / 2) R'))))
            × GoodRows d cs (take (length (f ++ drop (length R / 2) R') - length R / 2) (drop (length R / 2) (f ++ drop (length R / 2) R'))))
            × ((right.dimensions ≡ d) × (length (floats_of right) ≡ box_width_lem d)
            × (e + 1 + length (take (length (f ++ drop (length R / 2) R') - length R / 2) (drop (length R / 2) (f ++ drop (length R / 2) R'))) < 2 ^ 64)
            × Space d base (length (take (length (f ++ drop (length R / 2) R') - length R / 2) (drop (length R / 2) (f ++ drop (length R / 2) R')))) n₁ k₁ W₁ F₁ C₁ P₁)
        right-asked =
            let n : length Right ≡ length R - length R / 2 = ap length right-lent ∙ right-long in
            let t = cuts_at d cs leaf (left_of d cs q) in
            let nl = left-long in
            let s = cuts-small d cs leaf x.pos x.lp (left_of d cs q) (left-good d cs q known) (omega (arith, x.lp, big, nl)) in (
              (x.pos, x.few, x.lp, omega (arith, n, big, x.lp), rw right-lent (good_right q x.good)),
              (
                x.right-on,
                x.right-wide,
                omega (arith, n, x.deep, big, x.lp),
                space-right x.room W₁ F₁ C₁ P₁ (nW ∙ x.long_W) nF (nC ∙ x.long-C) (nP ∙ x.long-P) (length Right) n (omega (arith, big, x.lp)) (node_count t) (leaf_count t) n₁ k₁
                    (omega (arith, s.1, nl)) (omega (arith, s.0, nl)) first-half.place_next first-half.leaves_next,
              ),
            )

        -- both are done, and g came back for the right one's rows
        wide-left : length (boxes_under (cuts_at d cs leaf (left_of d cs q))) ≡ box_width_lem d * leaf_count (cuts_at d cs leaf (left_of d cs q))
        wide-left =
            boxes-under-length (box_width_lem d) (cuts_at d cs leaf (left_of d cs q))
            (cuts-wide d cs leaf (box_width_lem d) (left_of d cs q) (ap (λ (z : Domain). length z.box) (sym x.left_is) ∙ x.left-wide))

        pub halves-written : {n₂ k₂ : ℕ} {W₂ : List ℕ} {F₂ : List Float} {C₂ : List ℕ} {P₂ : List Float}
            → Written d base (cuts_at d cs leaf (domain_of (take (length (f ++ drop (length R / 2) R') - length R / 2) (drop (length R / 2) (f ++ drop (length R / 2) R'))) right (e + 1))) n₁ k₁ n₂ k₂ W₁ W₂ F₁ F₂ C₁ C₂ P₁ P₂
            → Written d base (cuts_at d cs leaf (domain_of R whole e)) place first n₂ k₂ W W₂ F F₂ C C₂ P P₂
        halves-written r =
            let less : first ≤ first + 2 * length R = omega arith in
            rw more
            (written (cuts_at d cs leaf (left_of d cs q)) (cuts_at d cs leaf (right_of d cs q))
            (written-two (omega (arith, x.room.table, x.long_W)) (omega (arith, x.room.boxes, mul-le-mul_left (box_width_lem d) less))
            (omega (arith, x.some, x.room.cuts, x.long-C)) (omega (arith, x.some, x.room.planes, x.long-P)) wide-left first-half
            (written_of refl (ap (cuts_at d cs leaf) right-now) r)))

      pub halves-rows : (g : List ℕ) → f ≡ rows_under (cuts_at d cs leaf (domain_of (take (length R / 2) R') left (e + 1)))
          → g ≡ rows_under (cuts_at d cs leaf (domain_of (take (length (f ++ drop (length R / 2) R') - length R / 2) (drop (length R / 2) (f ++ drop (length R / 2) R'))) right (e + 1)))
          → put_mid (length R / 2) (length (f ++ drop (length R / 2) R') - length R / 2) (f ++ drop (length R / 2) R') g ≡ rows_under (cuts_at d cs leaf (domain_of R whole e))
      halves-rows g ef eg =
          let l = ef ∙ ap (λ (z : Domain). rows_under (cuts_at d cs leaf z)) left-now in
          let r = eg ∙ ap (λ (z : Domain). rows_under (cuts_at d cs leaf z)) right-now in
          both-back R' (left_of d cs q).rows (right_of d cs q).rows (length R / 2) x.rows left-long f f-long g
          ∙ rw (l, r) (sym (ap rows_under more ∙ rows-under-cut a p (cuts_at d cs leaf (left_of d cs q)) (cuts_at d cs leaf (right_of d cs q))))

      pub halves_long : (g : List ℕ) → length g ≡ length (take (length (f ++ drop (length R / 2) R') - length R / 2) (drop (length R / 2) (f ++ drop (length R / 2) R')))
          → length (put_mid (length R / 2) (length (f ++ drop (length R / 2) R') - length R / 2) (f ++ drop (length R / 2) R') g) ≡ length R
      halves_long g ng =
          ap length (both-back R' (left_of d cs q).rows (right_of d cs q).rows (length R / 2) x.rows left-long f f-long g) ∙ length-append f g
          ∙ omega (arith, f-long, ng, ap length right-lent, right-long)
