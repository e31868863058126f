-- Each row of a level lies in the inherited box of each domain that has it. Assumes nothing.
use mathlib.Core.Path.{◌≡◌, sym, ap, subst, ◌∙◌}
use mathlib.Core.Logic.{⊎_elim}
use mathlib.Core.Bool.{true, false}
use mathlib.Core.List.{List, map}
use Prim.Native.Nat.{ℕ, zero, suc, ◌+◌, ◌*◌, ◌/◌, ◌≤◌, ◌<◌}
use native.Mathlib.Omega.{arith}
use lib.ListN.{length, get_or, set, length-set}
use lib.Seq.{get_or-set_same, get_or-set_other}
use lib.Ieee.{Float, nan, lt}
use lib.Ieee.Scale.{finite}
use Rattle.lists.specs.Ascends.{All}
use Rattle.lists.proofs.Tests.{le-or-lt, same_or}
use Rattle.lists.proofs.All.{all-joined, all-mem, all-of, all_keep, all_map}
use Rattle.definition.specs.Points.{coordinate, box_width_lem, extents}
use Rattle.definition.specs.Cut.{Domain, root_domain, longest_axis_lem, cut_keys, plane, left_of, right_of}
use Rattle.definition.specs.Record.{Cuts, uncut, cut_at, leaves_under, level_cuts}
use Rattle.definition.specs.Gap.{lower_at, upper_at}
use Rattle.definition.proofs.Halves.{first_rows, other-rows}
use Rattle.definition.proofs.Cuts.{Good, axis-below, left-length, right-length, left-good, right-good}
use Rattle.rows.specs.Rows.{GoodRows}
use Rattle.rows.proofs.Good.{good-good, good-mem}
use Rattle.record_laws.specs.Table.{cuts_at, rows_under}
use Rattle.record_laws.proofs.Steps.{cuts-more, cuts-done, level-cuts}
use Rattle.record_laws.proofs.Under.{cuts-all}
use Rattle.gap_laws.specs.Boxed.{InBox, Holds, Boxed}
use Rattle.gap_laws.proofs.Extremes.{extents-hold}
use Rattle.gap_laws.proofs.Planes.{plane-finite, left-side, right-side}

-- ---- a box with one bound changed
module _ (d : ℕ) (box : List Float) (k : ℕ) (x : Float) (w : length box ≡ box_width_lem d) (h : k < box_width_lem d) where
  changed-finite : finite x ≡ true → ((b : ℕ) → b < box_width_lem d → finite (get_or box b nan) ≡ true)
      → (b : ℕ) → b < box_width_lem d → finite (get_or (set box k x) b nan) ≡ true
  changed-finite f g b l =
      ⊎_elim
      (λ (e : b ≡ k). ap (λ (j : ℕ). finite (get_or (set box k x) j nan)) e ∙ ap finite (get_or-set_same box k x nan (omega arith)) ∙ f)
      (λ (n : b ≡ k → ⊥). ap finite (get_or-set_other box k b x nan n) ∙ g b l)
      (same_or b k)

-- the bound on the axis a is x: a row that is in the box and not beyond x is in the changed box
module _ (d : ℕ) (cs box : List Float) (a : ℕ) (x : Float) (w : length box ≡ box_width_lem d) (h : a < d) (i : ℕ) (inside : InBox d cs box i) where
  lower-inside : lt (coordinate d cs i a) x ≡ false → InBox d cs (set box a x) i
  lower-inside n b l =
      let up : upper_at d (set box a x) b ≡ upper_at d box b = get_or-set_other box a (d + b) x nan (λ e. omega arith) in (
        ⊎_elim
            (λ (e : b ≡ a). ap (λ (j : ℕ). lt (coordinate d cs i j) (get_or (set box a x) j nan)) e
            ∙ ap (lt (coordinate d cs i a)) (get_or-set_same box a x nan (omega arith)) ∙ n)
            (λ (o : b ≡ a → ⊥). ap (lt (coordinate d cs i b)) (get_or-set_other box a b x nan o) ∙ (inside b l).0)
            (same_or b a),
        ap (λ (y : Float). lt y (coordinate d cs i b)) up ∙ (inside b l).1,
      )

  upper-inside : lt x (coordinate d cs i a) ≡ false → InBox d cs (set box (d + a) x) i
  upper-inside n b l =
      let low : lower_at (set box (d + a) x) b ≡ lower_at box b = get_or-set_other box (d + a) b x nan (λ e. omega arith) in (
        ap (lt (coordinate d cs i b)) low ∙ (inside b l).0,
        ⊎_elim
            (λ (e : b ≡ a). ap (λ (j : ℕ). lt (get_or (set box (d + a) x) (d + j) nan) (coordinate d cs i j)) e
            ∙ ap (λ (y : Float). lt y (coordinate d cs i a)) (get_or-set_same box (d + a) x nan (omega arith)) ∙ n)
            (λ (o : b ≡ a → ⊥). ap (λ (y : Float). lt y (coordinate d cs i b)) (get_or-set_other box (d + a) (d + b) x nan (λ e. o (omega arith))) ∙ (inside b l).1)
            (same_or b a),
      )

module _ (d : ℕ) (cs : List Float) where
  -- ---- what all rows of a domain have, the rows of the leaves under it have
  left-all : (P : ℕ → Type 0) (q : Domain) → All P q.rows → All P (left_of d cs q).rows
  unfolding left_of cut_keys
  left-all P q h = rw (first_rows (λ i. coordinate d cs i (longest_axis_lem d cs q.rows)) (length q.rows / 2) q.rows) (all_keep P _ q.rows h)

  right-all : (P : ℕ → Type 0) (q : Domain) → All P q.rows → All P (right_of d cs q).rows
  unfolding right_of cut_keys
  right-all P q h = rw (other-rows (λ i. coordinate d cs i (longest_axis_lem d cs q.rows)) (length q.rows / 2) q.rows) (all_keep P _ q.rows h)

  under-all : (leaf : ℕ) (P : ℕ → Type 0) (q : Domain) → All P q.rows → All P (rows_under (cuts_at d cs leaf q))
  unfolding rows_under
  under-all leaf P q h =
      let qs = leaves_under (cuts_at d cs leaf q) in
      all-joined P (map (λ q. q.rows) qs)
      (all_map (All P) (λ q. q.rows) qs (cuts-all d cs leaf (λ q. All P q.rows) (left-all P) (right-all P) q h))

  under-held : (leaf : ℕ) (box : List Float) (q : Domain) → Holds d cs box q.rows → Holds d cs box (rows_under (cuts_at d cs leaf q))
  under-held leaf box q h =
      record { width = h.width; bounds = h.bounds; inside = under-all leaf (InBox d cs box) q h.inside }

  -- a cut
  boxed-cut : (box : List Float) (t : Cuts) (a : ℕ) (x : Float) (l r : Cuts) → t ≡ cut_at a x l r → Holds d cs box (rows_under t) → a < d
      → Boxed d cs (set box (d + a) x) l → Boxed d cs (set box a x) r → Boxed d cs box t
  unfolding Boxed
  boxed-cut box t a x l r e h b f g = subst (Boxed d cs box) (sym e) (subst (λ (t : Cuts). Holds d cs box (rows_under t)) e h, b, f, g)

  module _ (pos : 0 < d) where
    -- ---- the boxes of the two halves hold their rows
    module _ (q : Domain) (g : Good d cs q.rows) (some : 1 ≤ length q.rows) (box : List Float) (h : Holds d cs box q.rows) where
      axis-in : longest_axis_lem d cs q.rows < d
      axis-in = axis-below d cs q.rows pos

      left-held : Holds d cs (set box (d + longest_axis_lem d cs q.rows) (plane d cs q.rows)) (left_of d cs q).rows
      left-held =
          let a = longest_axis_lem d cs q.rows in
          let x = plane d cs q.rows in
          record {
            width = length-set box (d + a) x ∙ h.width;
            bounds = changed-finite d box (d + a) x h.width (omega (arith, axis-in)) (plane-finite d cs pos q g some) h.bounds;
            inside = all-of (InBox d cs (set box (d + a) x)) (left_of d cs q).rows (λ i m.
                let s = left-side d cs pos q g some i m in
                upper-inside d cs box a x h.width axis-in i (all-mem (InBox d cs box) q.rows h.inside i s.0) s.1);
          }

      right-held : Holds d cs (set box (longest_axis_lem d cs q.rows) (plane d cs q.rows)) (right_of d cs q).rows
      right-held =
          let a = longest_axis_lem d cs q.rows in
          let x = plane d cs q.rows in
          record {
            width = length-set box a x ∙ h.width;
            bounds = changed-finite d box a x h.width (omega (arith, axis-in)) (plane-finite d cs pos q g some) h.bounds;
            inside = all-of (InBox d cs (set box a x)) (right_of d cs q).rows (λ i m.
                let s = right-side d cs pos q g some i m in
                lower-inside d cs box a x h.width axis-in i (all-mem (InBox d cs box) q.rows h.inside i s.0) s.1);
          }

    -- ---- so do all boxes under a domain whose box holds its rows; n bounds its rows
    module _ (leaf : ℕ) (lp : 1 ≤ leaf) where
      boxed : (n : ℕ) (q : Domain) → Good d cs q.rows → 1 ≤ length q.rows → length q.rows ≤ n → (box : List Float) → Holds d cs box q.rows
          → Boxed d cs box (cuts_at d cs leaf q)
      unfolding Boxed
      boxed zero q g s n box h = absurd (omega arith)
      boxed (suc n) q g s m box h =
          let a = longest_axis_lem d cs q.rows in
          let x = plane d cs q.rows in
          let l = left_of d cs q in
          let r = right_of d cs q in
          let nl = left-length d cs pos q g in
          let nr = right-length d cs pos q g in
          let held = under-held leaf box q h in
          let hl = left-held q g s box h in
          let hr = right-held q g s box h in
          ⊎_elim
          (λ (big : 2 * leaf ≤ length q.rows).
          boxed-cut box (cuts_at d cs leaf q) a x (cuts_at d cs leaf l) (cuts_at d cs leaf r) (cuts-more d cs leaf pos lp q g s big) held (axis-in q g s box h)
          (boxed n l (left-good d cs q g) (omega arith) (omega arith) (set box (d + a) x) hl)
          (boxed n r (right-good d cs q g) (omega arith) (omega arith) (set box a x) hr))
          (λ (small : length q.rows < 2 * leaf).
          boxed-cut box (cuts_at d cs leaf q) a x (uncut l) (uncut r) (cuts-done d cs leaf pos lp q g s small) held (axis-in q g s box h) hl hr)
          (le-or-lt (2 * leaf) (length q.rows))

-- THE LAW: the root's box is the extents of the active rows, and each row lies in the inherited box of each domain that has it.
pub box-holds : (d : ℕ) (cs : List Float) (leaf : ℕ) (active : List ℕ) → 0 < d → d ≤ 3 → 1 ≤ leaf → GoodRows d cs active → 1 ≤ length active
    → Boxed d cs (extents d cs active) (level_cuts d cs leaf active)
unfolding root_domain
box-holds d cs leaf active pos few lp good some =
    subst (Boxed d cs (extents d cs active)) (sym (level-cuts d cs leaf active))
    (boxed d cs pos leaf lp (length active) (root_domain d cs active) (good-good active good) some (omega arith) (extents d cs active)
    (extents-hold d cs active some (λ i m. (good-mem active good i m).finite_row)))
