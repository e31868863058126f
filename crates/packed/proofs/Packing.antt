-- A packed list is the first level's part, and then the others'; and what each is written over. Assumes nothing.
-- Holds: leaves-cons, points-cons, own-cons, borrowed-cons, boxes-cons, stretches-append, points-more, own-more, borrowed-more,
--   boxes-more, rows_more
use mathlib.Core.Path.{◌≡◌, sym, ap, ◌∙◌}
use mathlib.Core.List.{List, [], ◌∷◌, ◌++◌, map}
use Prim.Native.Nat.{ℕ, ◌+◌, ◌*◌, ◌≤◌}
use native.Mathlib.Omega.{arith}
use native.Mathlib.Nat.{add-zero, add_assoc, mul-add}
use lib.ListN.{length, length-append}
use lib.Ieee.{Float}
use Rattle.lists.specs.Lists.{put, part, joined}
use Rattle.lists.proofs.Put.{put-next-at, put-part, length_part, put-again}
use Rattle.lists.proofs.Joined.{joined-cons, joined-map-append}
use Rattle.definition.specs.Tree.{Leaf, Level}
use Rattle.definition.specs.Packed.{row_numbers, leaf_floats, leaves_in_lem, packed_level_points, packed_internals, packed_borrowed, packed_boxes, stretches}
use Rattle.definition_laws.proofs.Fit.{length-stretches}
use Rattle.packed.specs.Reading.{own_in_lem, borrowed_in, boxes_in}

module _ (l : Level) (ls : List Level) where
  pub leaves-cons : leaves_in_lem (l ∷ ls) ≡ l.leaves ++ leaves_in_lem ls
  unfolding leaves_in_lem
  leaves-cons = joined-cons l.leaves (map (λ (l : Level). l.leaves) ls)

  pub points-cons : packed_level_points (l ∷ ls) ≡ l.points ++ packed_level_points ls
  unfolding packed_level_points
  points-cons = joined-cons l.points (map (λ (l : Level). l.points) ls)

  pub own-cons : packed_internals (l ∷ ls) ≡ own_in_lem l.leaves ++ packed_internals ls
  unfolding packed_internals
  own-cons = rw leaves-cons (joined-map-append (λ (f : Leaf). f.own) l.leaves (leaves_in_lem ls))

  pub borrowed-cons : packed_borrowed (l ∷ ls) ≡ borrowed_in l.leaves ++ packed_borrowed ls
  unfolding packed_borrowed
  borrowed-cons = rw leaves-cons (joined-map-append (λ (f : Leaf). f.borrowed) l.leaves (leaves_in_lem ls))

  pub boxes-cons : packed_boxes (l ∷ ls) ≡ boxes_in l.leaves ++ packed_boxes ls
  unfolding packed_boxes
  boxes-cons = rw leaves-cons (joined-map-append leaf_floats l.leaves (leaves_in_lem ls))

pub stretches-append : (a b : ℕ) (fs gs : List Leaf)
    → stretches a b (fs ++ gs) ≡ stretches a b fs ++ stretches (a + length (own_in_lem fs)) (b + length (borrowed_in fs)) gs
unfolding stretches joined
stretches-append a b [] gs = rw (add-zero a, add-zero b)
stretches-append a b (f ∷ fs) gs =
    rw (
      length-append f.own (own_in_lem fs),
      length-append f.borrowed (borrowed_in fs),
      ← add_assoc a (length f.own) (length (own_in_lem fs)),
      ← add_assoc b (length f.borrowed) (length (borrowed_in fs)),
      stretches-append (a + length f.own) (b + length f.borrowed) fs gs,
    )

-- ---- a level l is written, and then the others behind it
module _ (l : Level) (ls : List Level) where
  -- the level points: l's stand there already; of the others' the first ones are written twice
  pub points-more : (P : List ℕ) (from a : ℕ) (next more : List ℕ) → l.points ≡ part P from a → from + a + length next ≤ length P → packed_level_points ls ≡ next ++ more
      → (P₁ P₂ : List ℕ) → P₁ ≡ put P (from + a) next → P₂ ≡ put P₁ (from + a) (packed_level_points ls) → P₂ ≡ put P from (packed_level_points (l ∷ ls))
  points-more P from a next more e f g P₁ P₂ e₁ e₂ =
      e₂ ∙ rw (e₁, g) (put-again P (from + a) next more f) ∙ ap (put P (from + a)) (sym g)
      ∙ ap (λ (z : List ℕ). put z (from + a) (packed_level_points ls)) (sym (put-part P from a (omega arith)))
      ∙ put-next-at P from (part P from a) (packed_level_points ls) (from + a) (omega arith) (omega (arith, length_part P from a (omega arith)))
      ∙ rw (points-cons l ls, e)

  pub own-more : (I : List ℕ) (from a : ℕ) → length (own_in_lem l.leaves) ≡ a → from ≤ length I
      → (I₁ I₂ : List ℕ) → I₁ ≡ put I from (own_in_lem l.leaves) → I₂ ≡ put I₁ (from + a) (packed_internals ls) → I₂ ≡ put I from (packed_internals (l ∷ ls))
  own-more I from a e f I₁ I₂ e₁ e₂ =
      e₂ ∙ rw (e₁, own-cons l ls) (put-next-at I from (own_in_lem l.leaves) (packed_internals ls) (from + a) f (omega arith))

  pub borrowed-more : (L : List ℕ) (bat z : ℕ) → length (borrowed_in l.leaves) ≡ z → bat ≤ length L
      → (L₁ L₂ : List ℕ) → L₁ ≡ put L bat (borrowed_in l.leaves) → L₂ ≡ put L₁ (bat + z) (packed_borrowed ls) → L₂ ≡ put L bat (packed_borrowed (l ∷ ls))
  borrowed-more L bat z e f L₁ L₂ e₁ e₂ =
      e₂ ∙ rw (e₁, borrowed-cons l ls) (put-next-at L bat (borrowed_in l.leaves) (packed_borrowed ls) (bat + z) f (omega arith))

  pub boxes-more : (w : ℕ) (B : List Float) (first m : ℕ) → length (boxes_in l.leaves) ≡ w * m → w * first ≤ length B
      → (B₁ B₂ : List Float) → B₁ ≡ put B (w * first) (boxes_in l.leaves) → B₂ ≡ put B₁ (w * (first + m)) (packed_boxes ls) → B₂ ≡ put B (w * first) (packed_boxes (l ∷ ls))
  boxes-more w B first m e f B₁ B₂ e₁ e₂ =
      e₂ ∙ rw (e₁, boxes-cons l ls) (put-next-at B (w * first) (boxes_in l.leaves) (packed_boxes ls) (w * (first + m)) f (omega (arith, mul-add w first m)))

  pub rows_more : (D : List ℕ) (first m at a bat z : ℕ) → length l.leaves ≡ m → length (own_in_lem l.leaves) ≡ a → length (borrowed_in l.leaves) ≡ z
      → row_numbers * first ≤ length D → (D₁ D₂ : List ℕ) → D₁ ≡ put D (row_numbers * first) (stretches at bat l.leaves)
      → D₂ ≡ put D₁ (row_numbers * (first + m)) (stretches (at + a) (bat + z) (leaves_in_lem ls)) → D₂ ≡ put D (row_numbers * first) (stretches at bat (leaves_in_lem (l ∷ ls)))
  rows_more D first m at a bat z em ea ez f D₁ D₂ e₁ e₂ =
      e₂ ∙ rw (e₁, leaves-cons l ls, stretches-append at bat l.leaves (leaves_in_lem ls), ea, ez)
      (put-next-at D (row_numbers * first) (stretches at bat l.leaves) (stretches (at + a) (bat + z) (leaves_in_lem ls)) (row_numbers * (first + m)) f (omega (arith, length-stretches at bat l.leaves)))
