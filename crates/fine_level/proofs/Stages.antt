-- How the stages of a level fit together: what one has written, the next one reads; and what all have written is the definition's
-- level. Assumes nothing.
-- Holds: level_rows, level-own, level-placed, level-borrowed, level-number, level-next, number-most, own-whole, own-shared,
--   leaves-read, leaves-named, overlaps-ready, overlaps-read, overlaps-named, overlaps-rows, packed-read, packed-named,
--   packed-sends, level-nodes, boxes-room, codes-room
use mathlib.Core.Path.{◌≡◌, refl, sym, ◌∙◌}
use mathlib.Core.Logic.{⊎_elim}
use mathlib.Core.Bool.{Bool}
use mathlib.Core.List.{List, [], map, map-map}
use Prim.Native.Nat.{ℕ, ◌+◌, ◌*◌, ◌≤◌}
use native.Mathlib.Omega.{arith}
use native.Mathlib.Nat.{mul-le-mul}
use lib.ListN.{length, length-map}
use lib.Ieee.{Float}
use Rattle.coarse_points.proofs.Given.{sends-of}
use Rattle.lists.specs.Lists.{put, part, joined, keep}
use Rattle.lists.proofs.Tests.{true-or-false}
use Rattle.lists.proofs.Put.{part-put-same, length-put}
use Rattle.lists.proofs.Count.{length-keep}
use Rattle.lists.proofs.From.{map-below-same}
use Rattle.lists.specs.Times.{times}
use Rattle.lists.proofs.Times.{times-keep-in, times-keep-out, once-keep, once-length}
use Rattle.lists.proofs.Map.{zip-map}
use Rattle.definition.specs.Cut.{Domain, leaves_of}
use Rattle.definition.specs.Overlaps.{borrowed_by}
use Rattle.definition.specs.Quotas.{quotas}
use Rattle.definition.specs.Record.{Node, record_of, whole_of, float_of}
use Rattle.definition.specs.Sampling.{sent_by}
use Rattle.definition.specs.Tree.{Leaf, fine_leaf, sent_lists}
use Rattle.definition.specs.Points.{box_width_lem}
use Rattle.definition.specs.Packed.{row_numbers, stretches}
use Rattle.definition.proofs.Cuts.{Good, leaves-times}
use Rattle.definition_laws.proofs.Shape.{leaves-most}
use Rattle.queue.specs.Rows.{Own, domain_own, with_own}
use Rattle.record_laws.proofs.Domains.{leaves-fill}
use Rattle.rows.proofs.Good.{good-good}
use Rattle.packed.specs.Reading.{own_at, read_own, own_in_lem}
use Rattle.overlap_owners.specs.Own.{SharedOut, Leaves}
use Rattle.cut_index.specs.Recorded.{PackedFrom}
use Rattle.cut_index.proofs.Packed.{own-packed}
use Rattle.overlaps.specs.Borrowed.{borrowed_lists, with_borrowed, Stage}
use Rattle.coarse_points.specs.Sent.{sent_rows, SendsUp}
use Rattle.fine_level.specs.Fine.{divided_at, next_at, Given}
use Rattle.fine_level.proofs.Columns.{own-length, own-names, own_read, keeps-start, keeps-count, own_from, both-columns}
use Rattle.overlaps.proofs.Columns.{columns-length}

-- ---- the definition's level before any row is sent up, by its parts
-- the own rows of each domain
abbrev pub level_rows : List Domain → List (List ℕ)
level_rows qs = map (λ q. q.rows) qs

module _ (d : ℕ) (cs : List Float) (leaf neighbours : ℕ) (active : List ℕ) where
  abbrev qs : List Domain
  qs = leaves_of d cs leaf active

  abbrev to_leaf : Domain → Leaf
  to_leaf q = fine_leaf d cs neighbours active q []

  pub level-own : map (λ (f : Leaf). f.own) (divided_at d cs leaf neighbours active) ≡ level_rows (leaves_of d cs leaf active)
  level-own = map-map (λ (f : Leaf). f.own) to_leaf qs

  -- own rows and depths
  pub level-placed : map own_from (divided_at d cs leaf neighbours active) ≡ map domain_own (leaves_of d cs leaf active)
  level-placed = map-map own_from to_leaf qs

  pub level-borrowed : map (λ (f : Leaf). f.borrowed) (divided_at d cs leaf neighbours active) ≡ borrowed_lists d cs neighbours active (level_rows (leaves_of d cs leaf active))
  unfolding borrowed_lists
  level-borrowed =
      map-map (λ (f : Leaf). f.borrowed) to_leaf qs
      ∙ sym (map-map (borrowed_by d cs neighbours active) (λ (q : Domain). q.rows) qs)

  pub level-number : length (divided_at d cs leaf neighbours active) ≡ length (leaves_of d cs leaf active)
  level-number = length-map qs to_leaf

  pub level-next : (size : ℕ) → sent_rows d cs active (level_rows (leaves_of d cs leaf active)) size ≡ next_at d cs leaf size active
  unfolding sent_rows sent_lists
  level-next size =
      rw (map-map length (λ (q : Domain). q.rows) qs, ← zip-map (sent_by d cs) (λ (q : Domain). q.rows) qs (quotas (map (λ (q : Domain). length q.rows) qs) size))

-- ---- the leaves share the active rows out
module _ (d : ℕ) (cs : List Float) (leaf neighbours : ℕ) (active : List ℕ) (g : Given d cs leaf neighbours active) where
  abbrev own : List (List ℕ)
  own = level_rows (leaves_of d cs leaf active)

  -- the same with their depths
  abbrev placed : List Own
  placed = map domain_own (leaves_of d cs leaf active)

  placed-rows : map (λ l. l.rows) placed ≡ own
  placed-rows = map-map (λ (l : Own). l.rows) domain_own (leaves_of d cs leaf active)

  placed-number : length placed ≡ length (leaves_of d cs leaf active)
  placed-number = length-map (leaves_of d cs leaf active) domain_own

  good : Good d cs active
  good = good-good active g.good

  pub number-most : length (leaves_of d cs leaf active) ≤ 2 * length active
  number-most = leaves-most d cs g.axes leaf g.leaf_some active good g.rows_some

  own-number : length own ≡ length (leaves_of d cs leaf active)
  own-number = length-map (leaves_of d cs leaf active) (λ q. q.rows)

  pub own-whole : length (joined (level_rows (leaves_of d cs leaf active))) ≡ length active
  own-whole = leaves-fill d cs g.axes leaf g.leaf_some active g.good g.rows_some

  own-kept : (p : ℕ → Bool) (r : ℕ) → times r (keep p (joined own)) ≡ times r (keep p active)
  own-kept p r =
      let e = leaves-times d cs g.axes leaf g.leaf_some active good g.rows_some r in
      ⊎_elim
      (λ t. times-keep-in p (joined own) r t ∙ e ∙ sym (times-keep-in p active r t))
      (λ t. times-keep-out p (joined own) r t ∙ sym (times-keep-out p active r t))
      (true-or-false (p r))

  pub own-shared : SharedOut active (level_rows (leaves_of d cs leaf active))
  own-shared p =
      sym (length-keep p (joined own)) ∙ once-length (keep p active) (keep p (joined own)) (once-keep p active good.once) (own-kept p)
      ∙ length-keep p active

  -- ---- after the leaves: I₁ and D₁
  module _ (I D : List ℕ) (at k : ℕ) (fI : at + length active ≤ length I) (fD : row_numbers * (k + 2 * length active) ≤ length D)
      (I₁ D₁ : List ℕ) (eI : I₁ ≡ put I at (joined (level_rows (leaves_of d cs leaf active)))) (eD : D₁ ≡ with_own at (map domain_own (leaves_of d cs leaf active)) k D) where
    fit : row_numbers * (k + length placed) ≤ length D
    fit = omega (arith, number-most, placed-number)

    inside : at + length (joined own) ≤ length I₁
    inside = rw eI (omega (arith, length-put I at (joined own) (omega (arith, own-whole)), own-whole))

    packed : part I₁ at (length (joined own)) ≡ joined own
    packed = rw eI (part-put-same I at (joined own) (length (joined own)) (omega arith) refl)

    pub leaves-read : read_own I₁ D₁ k (length (leaves_of d cs leaf active)) ≡ level_rows (leaves_of d cs leaf active)
    leaves-read = rw (eD, ← placed-number) (own_read I₁ at placed k D fit (rw placed-rows inside) (rw placed-rows packed) ∙ placed-rows)

    pub leaves-named : Leaves active I₁ D₁ k (length (leaves_of d cs leaf active))
    leaves-named = record {
      ascends = g.good.ascends;
      rows = rw eD (omega (arith, own-length at placed k D fit, number-most));
      inside = λ l h. rw eD (own-names I₁ at placed k D fit (rw placed-rows inside) (rw placed-rows packed) l (omega (arith, placed-number))).1;
      shared = rw leaves-read own-shared;
    }

    -- and stand one after the other
    leaves-packed : PackedFrom at I₁ D₁ k (length (leaves_of d cs leaf active))
    leaves-packed = rw (eD, ← placed-number) (own-packed I₁ at placed k D fit (own_read I₁ at placed k D fit (rw placed-rows inside) (rw placed-rows packed)))

    pub overlaps-ready : (cuts : List ℕ) (planes : List Float) → cuts ≡ map whole_of (record_of d cs leaf active) → planes ≡ map float_of (record_of d cs leaf active)
        → Stage d cs leaf neighbours active cuts planes I₁ D₁ k (length (leaves_of d cs leaf active)) at
    overlaps-ready cuts planes eC eP = record {
      rows = g.good;
      leaves = leaves-named;
      level = record {
        axes = g.axes;
        axes_few = g.axes_few;
        leaf_some = g.leaf_some;
        rows_some = g.rows_some;
        wholes = eC;
        floats = eP;
        own = leaves-read;
        packed = leaves-packed;
      };
      near = g.near;
      few = omega (arith, g.good.few);
      leaf_few = omega (arith, number-most, g.good.few);
    }

    -- ---- after the overlaps: D₂
    module _ (bat : ℕ) (D₂ : List ℕ) (eD₂ : D₂ ≡ with_borrowed bat (borrowed_lists d cs neighbours active (level_rows (leaves_of d cs leaf active))) k D₁) where
      abbrev bs : List (List ℕ)
      bs = borrowed_lists d cs neighbours active own

      many : length bs ≡ length own
      unfolding borrowed_lists
      many = length-map own _

      fit-b : row_numbers * (k + length bs) ≤ length D₁
      fit-b = omega (arith, many, own-number, leaves-named.rows)

      same-own : (j : ℕ) → own_at I₁ D₂ j ≡ own_at I₁ D₁ j
      same-own j = rw (eD₂, keeps-start bat bs k D₁ fit-b j, keeps-count bat bs k D₁ fit-b j)

      pub overlaps-read : read_own I₁ D₂ k (length (leaves_of d cs leaf active)) ≡ level_rows (leaves_of d cs leaf active)
      unfolding read_own
      overlaps-read =
          map-below-same (λ l. own_at I₁ D₂ (k + l)) (λ l. own_at I₁ D₁ (k + l)) (length (leaves_of d cs leaf active)) (λ i l. same-own (k + i)) ∙ leaves-read

      pub overlaps-named : Leaves active I₁ D₂ k (length (leaves_of d cs leaf active))
      overlaps-named = record {
        ascends = g.good.ascends;
        rows = rw (eD₂, columns-length bat bs k D₁ fit-b) leaves-named.rows;
        inside = λ l h. rw (eD₂, keeps-start bat bs k D₁ fit-b (k + l), keeps-count bat bs k D₁ fit-b (k + l)) (leaves-named.inside l h);
        shared = rw overlaps-read own-shared;
      }

      pub overlaps-rows : D₂ ≡ put D (row_numbers * k) (stretches at bat (divided_at d cs leaf neighbours active))
      overlaps-rows =
          eD₂ ∙ rw (eD, ← level-borrowed d cs leaf neighbours active, ← level-placed d cs leaf neighbours active)
          (both-columns at bat k (divided_at d cs leaf neighbours active) D (omega (arith, level-number d cs leaf neighbours active, number-most)))

  -- ---- what the definition's level has packed is read back
  module _ (I D : List ℕ) (at bat k : ℕ) (fI : at + length active ≤ length I) (fD : row_numbers * (k + 2 * length active) ≤ length D)
      (I₁ D₂ : List ℕ) (eI : I₁ ≡ put I at (own_in_lem (divided_at d cs leaf neighbours active))) (eD : D₂ ≡ put D (row_numbers * k) (stretches at bat (divided_at d cs leaf neighbours active))) where
    own-due : I₁ ≡ put I at (joined own)
    own-due = rw (← level-own d cs leaf neighbours active) eI

    rows-due : D₂ ≡ with_borrowed bat (borrowed_lists d cs neighbours active own) k (with_own at placed k D)
    rows-due =
        eD ∙ sym (both-columns at bat k (divided_at d cs leaf neighbours active) D (omega (arith, level-number d cs leaf neighbours active, number-most)))
        ∙ rw (level-borrowed d cs leaf neighbours active, level-placed d cs leaf neighbours active)

    pub packed-read : read_own I₁ D₂ k (length (leaves_of d cs leaf active)) ≡ level_rows (leaves_of d cs leaf active)
    packed-read = overlaps-read I D at k fI fD I₁ (with_own at placed k D) own-due refl bat D₂ rows-due

    pub packed-named : Leaves active I₁ D₂ k (length (leaves_of d cs leaf active))
    packed-named = overlaps-named I D at k fI fD I₁ (with_own at placed k D) own-due refl bat D₂ rows-due

    pub packed-sends : SendsUp d cs active I₁ D₂ k (length (leaves_of d cs leaf active))
    packed-sends =
        sends-of d cs leaf active I₁ D₂ k (length (leaves_of d cs leaf active)) g.axes_few g.good packed-named packed-read

-- ---- the part of a list of the record that the level's nodes were written to
pub level-nodes : {A : Type 0} (f : Node → A) (X : List A) (node nodes : ℕ) (ns : List Node) (X₁ : List A) → nodes ≡ length ns → node + nodes ≤ length X
    → X₁ ≡ put X node (map f ns) → part X₁ node nodes ≡ map f ns
level-nodes f X node nodes ns X₁ e h eX =
    let m : length (map f ns) ≡ nodes = length-map ns f ∙ sym e in
    rw eX (part-put-same X node (map f ns) nodes (omega (arith, m)) m)

-- ---- working room
pub boxes-room : (d a : ℕ) → d ≤ 3 → box_width_lem d * (2 * a) ≤ 12 * a
boxes-room d a h = let e : box_width_lem d * (2 * a) ≤ box_width_lem 3 * (2 * a) = mul-le-mul (omega arith) (omega arith) in omega arith

pub codes-room : (a neighbours : ℕ) → 10 * a + 2 * a * (neighbours + 1) ≤ 40 * a + 8 * a * (neighbours + 1)
codes-room a neighbours = let e : 2 * a * (neighbours + 1) ≤ 8 * a * (neighbours + 1) = mul-le-mul (omega arith) (omega arith) in omega arith
