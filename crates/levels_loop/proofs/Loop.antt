-- The loop over the levels. What is written, with what the levels that are left will write, is what is due. Assumes nothing.
-- Holds: row_count_lem, leaf_count, Outs, Long, Inv, levels-first, rows_few, end_rest, end-points, end-internals, end-domains,
--   end-boxes, end-borrowed, end-rows, end-counts, end-number, built-below, level-above, levels-left, level_points_fit,
--   level-fits, level-room, first_fits, bat-fits, size_few, next-rest, next-fewer, levels-next
use mathlib.Core.Path.{◌≡◌, refl, sym, ap, ◌∙◌}
use mathlib.Core.Bool.{true, false, ◌&&◌}
use mathlib.Core.List.{List, [], ◌∷◌, ◌++◌, map}
use Prim.Native.Nat.{ℕ, suc, ◌+◌, ◌-◌, ◌*◌, ◌≤◌, ◌<◌}
use native.Mathlib.Omega.{arith}
use native.Mathlib.Nat.{mul-zero, mul-add, mul-le-mul_left}
use borrow.Author.Tests.{ltb-true}
use lib.Dec.{ltb}
use lib.ListN.{length, set, replicate, length-set}
use lib.Ieee.{Float}
use Rattle.lists.specs.Lists.{put, part}
use Rattle.lists.proofs.Tests.{and-fst, and-snd}
use Rattle.lists.proofs.Put.{length_part, length-put, part-put-same, put-part, put-nil, set-put}
use Rattle.definition.specs.Number.{plus_zero}
use Rattle.definition.specs.Levels.{level_size_lem}
use Rattle.definition.specs.Tree.{Settings, Level, most_fine, reductions_left, coarse_level_lem}
use Rattle.definition.specs.Refusals.{most_points}
use Rattle.definition.specs.Packed.{row_numbers, row_floats_lem, leaves_in_lem, packed_level_points, packed_internals, packed_domains, packed_boxes, packed_borrowed, stretches}
use Rattle.definition.proofs.Steps.{fine_of, size_from, next_of}
use Rattle.definition_laws.proofs.Fit.{length-stretches}
use Rattle.packed.specs.Reading.{own_in_lem, borrowed_in, boxes_in}
use Rattle.packed.proofs.Packing.{points-more, own-more, borrowed-more, boxes-more, rows_more}
use Rattle.fine_level.specs.Fine.{leaves_at_lem, next_at, Given, Fits, Room}
use Rattle.levels_loop.specs.After.{level_settings, levels_after, Space}
use Rattle.levels_loop.proofs.Spaces.{coarse-fits, fine-fits, fine-level-points, fine-room, space-next}
use Rattle.levels_loop.proofs.Fine.{leaves-few, own-all, borrowed_few, boxes-all, next-many, next-given, size_small, after-coarse, after-fine, first-points, counts-more, fine-rows}
use Rattle.levels_loop.proofs.Coarse.{coarse-points, coarse-own, coarse-borrowed, coarse-boxes, coarse-rows, coarse-row-count, coarse-domain-count}

-- how many rows, and how many leaves, a level has
abbrev pub row_count_lem : Level → ℕ
row_count_lem l = length l.points

abbrev pub leaf_count : Level → ℕ
leaf_count l = length l.leaves

-- the lists of a tree, as they were when the loop began and as they are now
pub record Outs (P I D : List ℕ) (B : List Float) (L rows counts : List ℕ) (d : ℕ) (all rest : List Level) (P₁ I₁ D₁ : List ℕ) (B₁ : List Float) (L₁ rows₁ counts₁ : List ℕ)
    (built at first bat : ℕ) : Type 0 where
  pub level_points : put P₁ at (packed_level_points rest) ≡ put P 0 (packed_level_points all)
  pub internals : put I₁ at (packed_internals rest) ≡ put I 0 (packed_internals all)
  pub domains : put D₁ (row_numbers * first) (stretches at bat (leaves_in_lem rest)) ≡ put D 0 (packed_domains all)
  pub boxes : put B₁ (row_floats_lem d * first) (packed_boxes rest) ≡ put B 0 (packed_boxes all)
  pub borrowed : put L₁ bat (packed_borrowed rest) ≡ put L 0 (packed_borrowed all)
  pub row_counts : put rows₁ built (map row_count_lem rest) ≡ put rows 0 (map row_count_lem all)
  pub leaf-counts : put counts₁ built (map leaf_count rest) ≡ put counts 0 (map leaf_count all)
  pub number : built + length rest ≡ length all

-- the lengths stay
pub record Long (P I D : List ℕ) (B : List Float) (L : List ℕ) (F : List Float) (W : List ℕ) (P₁ I₁ D₁ : List ℕ) (B₁ : List Float) (L₁ : List ℕ) (F₁ : List Float) (W₁ : List ℕ) : Type 0 where
  pub level_points : length P₁ ≡ length P
  pub internals : length I₁ ≡ length I
  pub domains : length D₁ ≡ length D
  pub boxes : length B₁ ≡ length B
  pub borrowed : length L₁ ≡ length L
  pub floats : length F₁ ≡ length F
  pub wholes : length W₁ ≡ length W

-- THE INVARIANT, after `built` fine levels: the next is over the `a` rows from `at` on
pub record Inv (d : ℕ) (cs : List Float) (leaf q c k n : ℕ) (P I D : List ℕ) (B : List Float) (L : List ℕ) (F : List Float) (W : List ℕ)
    (P₁ I₁ D₁ : List ℕ) (B₁ : List Float) (L₁ : List ℕ) (F₁ : List Float) (W₁ : List ℕ) (built at a first bat : ℕ) (rows counts : List ℕ) : Type 0 where
  pub few : built ≤ most_fine
  pub slots : length rows ≡ 4
  pub slots-too : length counts ≡ 4
  pub given : Given d cs leaf q (part P₁ at a)
  pub space : Space d q a (most_fine - built) P₁ I₁ D₁ B₁ L₁ F₁ W₁ at first bat
  pub long : Long P I D B L F W P₁ I₁ D₁ B₁ L₁ F₁ W₁
  pub outs : Outs P I D B L (replicate 4 0) (replicate 4 0) d (levels_after d cs leaf q c k 0 (part P 0 n)) (levels_after d cs leaf q c k built (part P₁ at a))
      P₁ I₁ D₁ B₁ L₁ rows counts built at first bat

module _ {d : ℕ} {cs : List Float} {leaf q n : ℕ} {P I D : List ℕ} {B : List Float} {L : List ℕ} {F : List Float} {W : List ℕ} (c k : ℕ) where
  -- ---- before the first level
  pub levels-first : Given d cs leaf q (part P 0 n) → Space d q n most_fine P I D B L F W 0 0 0
      → Inv d cs leaf q c k n P I D B L F W P I D B L F W 0 0 n 0 0 (replicate 4 0) (replicate 4 0)
  unfolding packed_domains
  levels-first g s = record {
    few = omega arith;
    slots = refl;
    slots-too = refl;
    given = g;
    space = s;
    long = record { level_points = refl; internals = refl; domains = refl; boxes = refl; borrowed = refl; floats = refl; wholes = refl };
    outs = record {
      level_points = refl;
      internals = refl;
      domains = refl;
      boxes = ap (λ (z : ℕ). put B z (packed_boxes (levels_after d cs leaf q c k 0 (part P 0 n)))) (mul-zero (row_floats_lem d));
      borrowed = refl;
      row_counts = refl;
      leaf-counts = refl;
      number = omega arith;
    };
  }

  module _ {P₁ I₁ D₁ : List ℕ} {B₁ : List Float} {L₁ : List ℕ} {F₁ : List Float} {W₁ : List ℕ} {built at a first bat : ℕ} {rows counts : List ℕ}
      (v : Inv d cs leaf q c k n P I D B L F W P₁ I₁ D₁ B₁ L₁ F₁ W₁ built at a first bat rows counts) where
    abbrev active : List ℕ
    active = part P₁ at a

    many : length (part P₁ at a) ≡ a
    many = length_part P₁ at a (coarse-fits v.space).0

    pub rows_few : a ≤ most_points
    rows_few = omega (arith, v.given.good.few, many)

    -- ---- after the last: the coarse level
    module _ (no : (ltb built most_fine && ltb c a) ≡ false) {I₂ D₂ : List ℕ} {B₂ : List Float} (eI : I₂ ≡ put I₁ at (part P₁ at a)) (eD : D₂ ≡ put D₁ (row_numbers * first) (at ∷ a ∷ bat ∷ 0 ∷ 0 ∷ []))
        (eB : B₂ ≡ put B₁ (row_floats_lem d * first) (replicate (row_floats_lem d) plus_zero)) where
      abbrev all : List Level
      all = levels_after d cs leaf q c k 0 (part P 0 n)

      pub end_rest : levels_after d cs leaf q c k built (part P₁ at a) ≡ coarse_level_lem d (part P₁ at a) ∷ []
      end_rest = after-coarse (level_settings d leaf q) cs c k built active a many no

      pub end-points : P₁ ≡ put P 0 (packed_level_points (levels_after d cs leaf q c k 0 (part P 0 n)))
      end-points = sym (put-part P₁ at a (coarse-fits v.space).0) ∙ rw (end_rest, coarse-points d active) at v.outs.level_points

      pub end-internals : I₂ ≡ put I 0 (packed_internals (levels_after d cs leaf q c k 0 (part P 0 n)))
      end-internals = eI ∙ rw (end_rest, coarse-own d active) at v.outs.internals

      pub end-domains : D₂ ≡ put D 0 (packed_domains (levels_after d cs leaf q c k 0 (part P 0 n)))
      end-domains = eD ∙ rw (end_rest, coarse-rows d active at bat, many) at v.outs.domains

      pub end-boxes : B₂ ≡ put B 0 (packed_boxes (levels_after d cs leaf q c k 0 (part P 0 n)))
      end-boxes = eB ∙ rw (end_rest, coarse-boxes d active) at v.outs.boxes

      pub end-borrowed : L₁ ≡ put L 0 (packed_borrowed (levels_after d cs leaf q c k 0 (part P 0 n)))
      end-borrowed = sym (put-nil L₁ bat) ∙ rw (end_rest, coarse-borrowed d active) at v.outs.borrowed

      pub end-rows : set rows built a ≡ put (replicate 4 0) 0 (map row_count_lem (levels_after d cs leaf q c k 0 (part P 0 n)))
      end-rows =
          set-put rows built a (omega (arith, v.few, v.slots)) ∙ rw (end_rest, coarse-row-count d active, many) at v.outs.row_counts

      pub end-counts : set counts built 1 ≡ put (replicate 4 0) 0 (map leaf_count (levels_after d cs leaf q c k 0 (part P 0 n)))
      end-counts = set-put counts built 1 (omega (arith, v.few, v.slots-too)) ∙ rw (end_rest, coarse-domain-count d active) at v.outs.leaf-counts

      pub end-number : built + 1 ≡ length (levels_after d cs leaf q c k 0 (part P 0 n))
      end-number = rw end_rest at v.outs.number

    -- ---- one more fine level
    module _ (yes : (ltb built most_fine && ltb c a) ≡ true) (some : 1 ≤ c) where
      pub built-below : built < most_fine
      built-below = ltb-true built most_fine (and-fst (ltb built most_fine) (ltb c a) yes)

      pub level-above : c < a
      level-above = ltb-true c a (and-snd (ltb built most_fine) (ltb c a) yes)

      pub levels-left : most_fine - built ≡ suc (most_fine - (built + 1))
      levels-left = omega (arith, built-below)

      space : Space d q a (suc (most_fine - (built + 1))) P₁ I₁ D₁ B₁ L₁ F₁ W₁ at first bat
      space = rw levels-left at v.space

      pub level_points_fit : at + 2 * a ≤ length P₁
      level_points_fit = fine-level-points space

      pub level-fits : Fits d q a I₁ D₁ B₁ L₁ at first bat
      level-fits = fine-fits space

      pub level-room : Room q a F₁ W₁
      level-room = fine-room space

      most-leaves : {m : ℕ} (size : ℕ) → m ≡ length (leaves_at_lem d cs leaf q size (part P₁ at a)) → m ≤ 2 * a
      most-leaves size e = rw (← many) (omega (arith, e, leaves-few d cs leaf q active v.given size))

      most-borrowed : {z : ℕ} (size : ℕ) → z ≡ length (borrowed_in (leaves_at_lem d cs leaf q size (part P₁ at a))) → z ≤ 2 * a * (q + 1)
      most-borrowed size e = rw (← many) (omega (arith, e, borrowed_few d cs leaf q active v.given size))

      pub first_fits : {m : ℕ} (size : ℕ) → m ≡ length (leaves_at_lem d cs leaf q size (part P₁ at a)) → first + m ≤ length D₁
      first_fits size e = omega (arith, most-leaves size e, level-fits.domains)

      pub bat-fits : {z : ℕ} (size : ℕ) → z ≡ length (borrowed_in (leaves_at_lem d cs leaf q size (part P₁ at a))) → bat + z ≤ length L₁
      bat-fits size e = omega (arith, most-borrowed size e, level-fits.borrowed)

      module _ {size : ℕ} (e : size ≡ level_size_lem a c (reductions_left k built)) where
        sizes : (1 ≤ size) × (size ≤ a)
        sizes = rw e (size_small a c (reductions_left k built) some level-above (omega arith))

        pub size_few : size ≤ a
        size_few = sizes.1

        small : size ≤ length active
        small = omega (arith, sizes.1, many)

        -- what the level has written: m leaves that borrow z rows, and b rows for the next
        module _ {P₂ I₂ D₂ : List ℕ} {B₂ : List Float} {L₂ : List ℕ} {m z b : ℕ}
            (em : m ≡ length (leaves_at_lem d cs leaf q size (part P₁ at a))) (ez : z ≡ length (borrowed_in (leaves_at_lem d cs leaf q size (part P₁ at a)))) (eb : b ≡ length (next_at d cs leaf size (part P₁ at a)))
            (eP : P₂ ≡ put P₁ (at + a) (next_at d cs leaf size (part P₁ at a))) (eI : I₂ ≡ put I₁ at (own_in_lem (leaves_at_lem d cs leaf q size (part P₁ at a))))
            (eD : D₂ ≡ put D₁ (row_numbers * first) (stretches at bat (leaves_at_lem d cs leaf q size (part P₁ at a)))) (eB : B₂ ≡ put B₁ (row_floats_lem d * first) (boxes_in (leaves_at_lem d cs leaf q size (part P₁ at a))))
            (eL : L₂ ≡ put L₁ bat (borrowed_in (leaves_at_lem d cs leaf q size (part P₁ at a)))) where
          abbrev s : Settings
          s = level_settings d leaf q

          few-leaves : m ≤ 2 * a
          few-leaves = most-leaves size em

          few-borrowed : z ≤ 2 * a * (q + 1)
          few-borrowed = most-borrowed size ez

          next-is : b ≡ size
          next-is = eb ∙ next-many d cs leaf q active v.given size small

          size_same : size ≡ size_from c k built active
          size_same = e ∙ ap (λ (x : ℕ). level_size_lem x c (reductions_left k built)) (sym many)

          next-same : next_at d cs leaf size active ≡ next_of s cs c k built active
          next-same = ap (λ (x : ℕ). next_at d cs leaf x active) size_same

          next-read : part P₂ (at + a) b ≡ next_of s cs c k built active
          next-read =
              rw eP (part-put-same P₁ (at + a) (next_at d cs leaf size active) b (omega (arith, level_points_fit)) (sym eb)) ∙ next-same

          -- the levels after it
          abbrev rest : List Level
          rest = levels_after d cs leaf q c k (built + 1) (next_of (level_settings d leaf q) cs c k built (part P₁ at a))

          now-first : levels_after d cs leaf q c k built (part P₁ at a) ≡ fine_of s cs size active ∷ rest
          now-first = after-fine s cs c k built active a many yes ∙ ap (λ (x : ℕ). fine_of s cs x active ∷ rest) (sym size_same)

          pub next-rest : levels_after d cs leaf q c k built (part P₁ at a) ≡ fine_of (level_settings d leaf q) cs size (part P₁ at a) ∷ levels_after d cs leaf q c k (built + 1) (part P₂ (at + a) b)
          next-rest = rw next-read now-first

          pub next-fewer : b ≤ a
          next-fewer = omega (arith, next-is, sizes.1)

          own_is : length (own_in_lem (leaves_at_lem d cs leaf q size active)) ≡ a
          own_is = own-all d cs leaf q active v.given size ∙ many

          next-outs : Outs P I D B L (replicate 4 0) (replicate 4 0) d (levels_after d cs leaf q c k 0 (part P 0 n)) rest P₂ I₂ D₂ B₂ L₂ (set rows built a) (set counts built m)
              (built + 1) (at + a) (first + m) (bat + z)
          next-outs =
              let f = fine_of s cs size active in
              let h = first-points s cs c k (most_fine - (built + 1)) (built + 1) (next_of s cs c k built active) in
              let o = rw now-first at v.outs in
              record {
                level_points =
                    points-more f rest P₁ at a (next_at d cs leaf size active) h.0 (fine-rows s cs size active) (omega (arith, level_points_fit, next-is, eb, sizes.1))
                    (h.1 ∙ ap (λ (x : List ℕ). x ++ h.0) (sym next-same)) P₂ _ eP refl
                    ∙ o.level_points;
                internals = own-more f rest I₁ at a own_is (omega (arith, level-fits.internals)) I₂ _ eI refl ∙ o.internals;
                domains =
                    rows_more f rest D₁ first m at a bat z (sym em) own_is (sym ez) (omega (arith, level-fits.domains)) D₂ _ eD refl ∙ o.domains;
                boxes =
                    boxes-more f rest (row_floats_lem d) B₁ first m (rw em (boxes-all d cs leaf q active v.given size)) (omega (arith, mul-add (row_floats_lem d) first (2 * a), level-fits.boxes)) B₂ _ eB refl
                    ∙ o.boxes;
                borrowed = borrowed-more f rest L₁ bat z (sym ez) (omega (arith, level-fits.borrowed)) L₂ _ eL refl ∙ o.borrowed;
                row_counts =
                    counts-more row_count_lem f rest rows built a (ap length (fine-rows s cs size active) ∙ many) (omega (arith, built-below, v.slots)) ∙ o.row_counts;
                leaf-counts = counts-more leaf_count f rest counts built m (sym em) (omega (arith, built-below, v.slots-too)) ∙ o.leaf-counts;
                number = omega (arith, o.number);
              }

          next-long : (F₂ : List Float) (W₂ : List ℕ) → length F₂ ≡ length F₁ → length W₂ ≡ length W₁ → Long P₁ I₁ D₁ B₁ L₁ F₁ W₁ P₂ I₂ D₂ B₂ L₂ F₂ W₂
          next-long F₂ W₂ eF eW =
              let rows_fit : row_floats_lem d * first + length (boxes_in (leaves_at_lem d cs leaf q size active)) ≤ length B₁ =
              omega (arith, boxes-all d cs leaf q active v.given size, mul-add (row_floats_lem d) first (length (leaves_at_lem d cs leaf q size active)), mul-le-mul_left (row_floats_lem d) few-rows, level-fits.boxes) in
              record {
                level_points = rw eP (length-put P₁ (at + a) (next_at d cs leaf size active) (omega (arith, level_points_fit, next-is, eb, sizes.1)));
                internals = rw eI (length-put I₁ at (own_in_lem (leaves_at_lem d cs leaf q size active)) (omega (arith, own_is, level-fits.internals)));
                domains =
                    rw eD (length-put D₁ (row_numbers * first) (stretches at bat (leaves_at_lem d cs leaf q size active))
                    (omega (arith, length-stretches at bat (leaves_at_lem d cs leaf q size active), em, few-leaves, level-fits.domains)));
                boxes = rw eB (length-put B₁ (row_floats_lem d * first) (boxes_in (leaves_at_lem d cs leaf q size active)) rows_fit);
                borrowed = rw eL (length-put L₁ bat (borrowed_in (leaves_at_lem d cs leaf q size active)) (omega (arith, ez, few-borrowed, level-fits.borrowed)));
                floats = eF;
                wholes = eW;
              }
            where
              few-rows : first + length (leaves_at_lem d cs leaf q size active) ≤ first + 2 * a
              few-rows = omega (arith, em, few-leaves)

          pub levels-next : (F₂ : List Float) (W₂ : List ℕ) → length F₂ ≡ length F₁ → length W₂ ≡ length W₁
              → Inv d cs leaf q c k n P I D B L F W P₂ I₂ D₂ B₂ L₂ F₂ W₂ (built + 1) (at + a) b (first + m) (bat + z) (set rows built a) (set counts built m)
          levels-next F₂ W₂ eF eW =
              let l = next-long F₂ W₂ eF eW in
              let w = v.long in
              record {
                few = omega (arith, built-below);
                slots = length-set rows built a ∙ v.slots;
                slots-too = length-set counts built m ∙ v.slots-too;
                given = rw (next-read, ← next-same) (next-given d cs leaf q active v.given size small sizes.0);
                space =
                    space-next space b m z next-fewer few-leaves few-borrowed P₂ I₂ D₂ B₂ L₂ F₂ W₂
                    l.level_points l.internals l.domains l.boxes l.borrowed eF eW;
                long = record {
                  level_points = l.level_points ∙ w.level_points;
                  internals = l.internals ∙ w.internals;
                  domains = l.domains ∙ w.domains;
                  boxes = l.boxes ∙ w.boxes;
                  borrowed = l.borrowed ∙ w.borrowed;
                  floats = l.floats ∙ w.floats;
                  wholes = l.wholes ∙ w.wholes;
                };
                outs = rw next-read next-outs;
              }
