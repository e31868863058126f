-- One fine level, and the levels after it. Assumes nothing.
-- Holds: leaves-few, own-all, borrowed_few, boxes-all, next-many, next-given, size_small, after-coarse, after-fine, first-points,
--   levels-few, counts-more, fine-rows
use mathlib.Core.Path.{◌≡◌, refl, sym, ap, ◌∙◌}
use mathlib.Core.Bool.{Bool, true, false, ◌&&◌}
use mathlib.Core.Logic.{⊎_elim}
use mathlib.Core.List.{List, [], ◌∷◌, ◌++◌, map, map-map}
use Prim.Native.Nat.{ℕ, zero, suc, ◌+◌, ◌-◌, ◌*◌, ◌≤◌, ◌<◌}
use native.Mathlib.Omega.{arith}
use native.Mathlib.Numerals.{add-one}
use borrow.Author.Tests.{ltb-true, ltb-false}
use lib.Dec.{ltb}
use lib.ListN.{length, set, length-map}
use lib.Ieee.{Float}
use Rattle.lists.specs.Lists.{put, joined, total, member}
use Rattle.lists.proofs.Tests.{and-fst, and-snd, le-or-lt}
use Rattle.lists.proofs.All.{all_map, all-zip}
use Rattle.lists.proofs.Put.{set-put, put-next-at}
use Rattle.lists.proofs.Joined.{length-joined, joined-even}
use Rattle.definition.specs.Levels.{level_size_lem}
use Rattle.definition.specs.Quotas.{quotas}
use Rattle.definition.specs.Cut.{Domain, leaves_of}
use Rattle.definition.specs.Tree.{Settings, Leaf, Level, coarse_level_lem, fine_leaf, fine_level_lem, sent_lists, next_active, most_fine, levels_from}
use Rattle.definition.specs.Points.{box_width_lem}
use Rattle.definition.specs.Packed.{row_floats_lem, leaf_floats, packed_level_points}
use Rattle.definition.proofs.Steps.{fine_of, size_from, next_of, levels-last, levels-end, levels-more}
use Rattle.definition.proofs.Cuts.{Good, domain_sizes, leaves-sum}
use Rattle.definition_laws.proofs.Shape.{leaves-boxes}
use Rattle.definition_laws.proofs.Overlaps.{borrowed-most}
use Rattle.definition_laws.proofs.Fit.{floats-length}
use Rattle.definition.proofs.Next.{Dealt, next-length}
use Rattle.definition.proofs.Sizes.{sized}
use Rattle.definition.proofs.Fairness.{fair}
use Rattle.rows.specs.Rows.{GoodRows}
use Rattle.rows.proofs.Good.{good-good, good-keep}
use Rattle.packed.specs.Reading.{own_in_lem, borrowed_in, boxes_in}
use Rattle.packed.proofs.Packing.{points-cons}
use Rattle.fine_level.specs.Fine.{divided_at, leaves_at_lem, next_at, Given}
use Rattle.fine_level.proofs.Stages.{level-own, level-number, number-most, own-whole}
use Rattle.fine_level.proofs.Sent.{sent-own, sent-borrowed, sent-number}

next-good : {d : ℕ} {cs : List Float} (active : List ℕ) (sent : List (List ℕ)) → GoodRows d cs active → GoodRows d cs (next_active active sent)
unfolding next_active
next-good active sent g = good-keep active g (λ i. member i (joined sent))

-- ---- what is known of a fine level, and of the rows after it
module _ (d : ℕ) (cs : List Float) (leaf neighbours : ℕ) (active : List ℕ) (g : Given d cs leaf neighbours active) (size : ℕ) where
  good : Good d cs active
  good = good-good active g.good

  -- the leaves before any row is sent up
  abbrev divided : List Leaf
  divided = divided_at d cs leaf neighbours active

  pub leaves-few : length (leaves_at_lem d cs leaf neighbours size active) ≤ 2 * length active
  leaves-few =
      omega (arith, sent-number d cs leaf neighbours size active, level-number d cs leaf neighbours active, number-most d cs leaf neighbours active g)

  pub own-all : length (own_in_lem (leaves_at_lem d cs leaf neighbours size active)) ≡ length active
  own-all = rw (sent-own d cs leaf neighbours size active, level-own d cs leaf neighbours active) (own-whole d cs leaf neighbours active g)

  pub borrowed_few : length (borrowed_in (leaves_at_lem d cs leaf neighbours size active)) ≤ 2 * length active * (neighbours + 1)
  borrowed_few =
      omega (
        arith,
        ap (λ (x : List (List ℕ)). length (joined x)) (sent-borrowed d cs leaf neighbours size active),
        length-joined (map (λ (f : Leaf). f.borrowed) divided),
        ap total (map-map length (λ (f : Leaf). f.borrowed) divided),
        ap total (map-map (λ (f : Leaf). length f.borrowed) (λ (q : Domain). fine_leaf d cs neighbours active q []) (leaves_of d cs leaf active)),
        borrowed-most d cs leaf neighbours active g.axes g.leaf_some good g.rows_some,
      )

  pub boxes-all : length (boxes_in (leaves_at_lem d cs leaf neighbours size active)) ≡ row_floats_lem d * length (leaves_at_lem d cs leaf neighbours size active)
  unfolding fine_level_lem
  boxes-all =
      let fs = leaves_at_lem d cs leaf neighbours size active in
      joined-even (row_floats_lem d) (map leaf_floats fs)
      (all_map (λ (l : List Float). length l ≡ row_floats_lem d) leaf_floats fs
      (all-zip (λ (q : Domain). length q.box ≡ box_width_lem d) (λ (f : Leaf). length (leaf_floats f) ≡ row_floats_lem d) (fine_leaf d cs neighbours active)
      (λ q sent e. floats-length d (fine_leaf d cs neighbours active q sent) e) (leaves_of d cs leaf active) (sent_lists d cs (leaves_of d cs leaf active) size)
      (leaves-boxes d cs leaf active)))
      ∙ ap (λ (z : ℕ). row_floats_lem d * z) (length-map fs leaf_floats)

  module _ (small : size ≤ length active) where
    dealt : Dealt (domain_sizes (leaves_of d cs leaf active)) size (quotas (domain_sizes (leaves_of d cs leaf active)) size)
    dealt =
        let zs = domain_sizes (leaves_of d cs leaf active) in
        let f = fair zs size in
        let all = leaves-sum d cs g.axes leaf g.leaf_some active good g.rows_some in
        record { as_many = f.entries; adds-up = omega (arith, f.sum, all); within = λ i l. f.within i }

    pub next-many : length (next_at d cs leaf size active) ≡ size
    next-many = next-length d cs g.axes leaf g.leaf_some active good g.rows_some size dealt

    pub next-given : 1 ≤ size → Given d cs leaf neighbours (next_at d cs leaf size active)
    next-given some = record {
      axes = g.axes;
      axes_few = g.axes_few;
      leaf_some = g.leaf_some;
      near = g.near;
      rows_some = omega (arith, next-many);
      good = next-good active _ g.good;
    }

-- ---- the size of the next level
pub size_small : (a c r : ℕ) → 1 ≤ c → c < a → 1 ≤ r → (1 ≤ level_size_lem a c r) × (level_size_lem a c r ≤ a)
size_small a c r h g l = let s = sized a c r h g l in (s.some, omega (arith, s.fewer))

-- ---- the levels after `built` fine ones
module _ (s : Settings) (cs : List Float) (c k : ℕ) where
  pub after-coarse : (built : ℕ) (active : List ℕ) (a : ℕ) → length active ≡ a → (ltb built most_fine && ltb c a) ≡ false
      → levels_from s cs c k (most_fine - built) built active ≡ coarse_level_lem s.dimension active ∷ []
  after-coarse built active a n e = go (most_fine - built) refl
    where
      go : (fuel : ℕ) → most_fine - built ≡ fuel → levels_from s cs c k (most_fine - built) built active ≡ coarse_level_lem s.dimension active ∷ []
      go zero q = rw q (levels-last s cs c k built active)
      go (suc fuel) q = rw q (levels-end s cs c k fuel built active (few (ltb built most_fine) refl))
        where
          few : (b : Bool) → ltb built most_fine ≡ b → length active ≤ c
          few true t = omega (arith, n, ltb-false c a (rw t at e))
          few false t = absurd (omega (arith, ltb-false built most_fine t))

  pub after-fine : (built : ℕ) (active : List ℕ) (a : ℕ) → length active ≡ a → (ltb built most_fine && ltb c a) ≡ true
      → levels_from s cs c k (most_fine - built) built active ≡ fine_of s cs (size_from c k built active) active ∷ levels_from s cs c k (most_fine - (built + 1)) (built + 1) (next_of s cs c k built active)
  after-fine built active a n e =
      let b = ltb-true built most_fine (and-fst (ltb built most_fine) (ltb c a) e) in
      let m = ltb-true c a (and-snd (ltb built most_fine) (ltb c a) e) in
      let q : most_fine - built ≡ suc (most_fine - (built + 1)) = omega arith in
      ap (λ (z : ℕ). levels_from s cs c k z built active) q ∙ levels-more s cs c k (most_fine - (built + 1)) built active (omega arith)
      ∙ ap (λ (z : ℕ). fine_of s cs (size_from c k built active) active ∷ levels_from s cs c k (most_fine - (built + 1)) z (next_of s cs c k built active)) (sym (add-one built))

  coarse-first : (active : List ℕ) → (more : List ℕ) × (packed_level_points (coarse_level_lem s.dimension active ∷ []) ≡ active ++ more)
  unfolding coarse_level_lem
  coarse-first active = (packed_level_points [], points-cons (coarse_level_lem s.dimension active) [])

  fine-first : (size : ℕ) (active : List ℕ) (ls : List Level) → (more : List ℕ) × (packed_level_points (fine_of s cs size active ∷ ls) ≡ active ++ more)
  unfolding fine_level_lem
  fine-first size active ls = (packed_level_points ls, points-cons (fine_of s cs size active) ls)

  -- the first level's points are the active rows
  pub first-points : (fuel built : ℕ) (active : List ℕ) → (more : List ℕ) × (packed_level_points (levels_from s cs c k fuel built active) ≡ active ++ more)
  first-points zero built active = rw (levels-last s cs c k built active) (coarse-first active)
  first-points (suc fuel) built active =
      ⊎_elim
      (λ (h : length active ≤ c). rw (levels-end s cs c k fuel built active h) (coarse-first active))
      (λ (h : c < length active). rw (levels-more s cs c k fuel built active h) (fine-first (size_from c k built active) active (levels_from s cs c k fuel (suc built) (next_of s cs c k built active))))
      (le-or-lt (length active) c)

  pub levels-few : (fuel built : ℕ) (active : List ℕ) → length (levels_from s cs c k fuel built active) ≤ suc fuel
  levels-few zero built active = rw (levels-last s cs c k built active) (omega arith)
  levels-few (suc fuel) built active =
      ⊎_elim
      (λ (h : length active ≤ c). rw (levels-end s cs c k fuel built active h) (omega arith))
      (λ (h : c < length active). rw (levels-more s cs c k fuel built active h) (omega (arith, levels-few fuel (suc built) (next_of s cs c k built active))))
      (le-or-lt (length active) c)

-- ---- counts, one to a level: x to the first of them, and those of the others behind it
pub counts-more : (f : Level → ℕ) (l : Level) (ls : List Level) (counts : List ℕ) (built x : ℕ) → f l ≡ x → built < length counts
    → put (set counts built x) (built + 1) (map f ls) ≡ put counts built (map f (l ∷ ls))
counts-more f l ls counts built x e h =
    ap (λ (z : List ℕ). put z (built + 1) (map f ls)) (set-put counts built x h)
    ∙ put-next-at counts built (x ∷ []) (map f ls) (built + 1) (omega arith) (omega arith) ∙ ap (λ (z : ℕ). put counts built (z ∷ map f ls)) (sym e)

pub fine-rows : (s : Settings) (cs : List Float) (size : ℕ) (active : List ℕ) → (fine_of s cs size active).points ≡ active
unfolding fine_level_lem
fine-rows s cs size active = refl
