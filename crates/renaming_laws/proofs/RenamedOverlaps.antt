-- What renamed rows take and borrow is what the rows take and borrow, renamed. Assumes nothing.
use mathlib.Core.Path.{◌≡◌, ap, ap₂, ◌∙◌}
use mathlib.Core.Bool.{Bool, not, ◌&&◌, ◌||◌}
use mathlib.Core.List.{List, ◌∷◌, map}
use Prim.Native.Nat.{ℕ}
use native.Mathlib.Omega.{arith}
use lib.Dec.{eqb}
use lib.Ieee.{Float}
use Rattle.lists.specs.Lists.{member, any_of}
use Rattle.lists.specs.Ascends.{All}
use Rattle.lists.proofs.All.{all-mem, all_keep}
use Rattle.definition.specs.Points.{rows_sq}
use Rattle.definition.specs.Keys.{keyed, first_rows_lem}
use Rattle.definition.specs.Overlaps.{others, nearest_others, nearest, paired, borrowed_by}
use Rattle.definition.proofs.Halves.{parts-times}
use Rattle.renaming_laws.specs.Renaming.{Renames}
use Rattle.renaming_laws.proofs.RenamedLists.{keep-image, any-image}
use Rattle.renaming_laws.proofs.RenamedKeys.{In, keyed-kept, keyed-in, eqb-kept, member-kept, first-kept}
use Rattle.renaming_laws.proofs.RenamedPoints.{part_in, sq-kept}

module _ (d : ℕ) (cs cs' : List Float) (all : List ℕ) (f : ℕ → ℕ) (r : Renames d cs cs' all f)
    (neighbours : ℕ) (active : List ℕ) (h : All (In all) active) where
  -- ---- the rows that a row takes
  module _ (i : ℕ) (p : In all i) where
    others-in : All (In all) (others active i)
    others-in = all_keep (In all) (λ j. not (eqb j i)) active h

    others-kept : others (map f active) (f i) ≡ map f (others active i)
    others-kept =
        keep-image f (λ j. not (eqb j i)) (λ j. not (eqb j (f i))) active (λ j m. ap not (eqb-kept all f r.order j i (all-mem (In all) active h j m) p))

    nearest-others : nearest_others d cs' neighbours (map f active) (f i) ≡ map f (nearest_others d cs neighbours active i)
    unfolding nearest_others
    nearest-others =
        ap (λ (rows : List ℕ). first_rows_lem neighbours (keyed (rows_sq d cs' (f i)) rows)) others-kept
        ∙ ap (first_rows_lem neighbours) (keyed-kept f (rows_sq d cs i) (rows_sq d cs' (f i)) (others active i) (λ j m. sq-kept d cs cs' all f r i j p (all-mem (In all) (others active i) others-in j m)))
        ∙ first-kept all f r.order (keyed (rows_sq d cs i) (others active i)) (keyed-in all (rows_sq d cs i) (others active i) others-in) neighbours

    pub nearest-renamed : nearest d cs' neighbours (map f active) (f i) ≡ map f (nearest d cs neighbours active i)
    unfolding nearest
    nearest-renamed = ap (λ (l : List ℕ). f i ∷ l) nearest-others

    nearest_in : All (In all) (nearest d cs neighbours active i)
    unfolding nearest nearest_others All
    nearest_in = (
      p,
      part_in all (others active i) (first_rows_lem neighbours (keyed (rows_sq d cs i) (others active i))) others-in
          (λ r. omega (arith, parts-times (rows_sq d cs i) (others active i) neighbours r)),
    )

  takes-kept : (i j : ℕ) → In all i → In all j → member (f j) (nearest d cs' neighbours (map f active) (f i)) ≡ member j (nearest d cs neighbours active i)
  takes-kept i j p q =
      ap (member (f j)) (nearest-renamed i p) ∙ member-kept all f r.order j (nearest d cs neighbours active i) q (nearest_in i p)

  pub paired-renamed : (i j : ℕ) → In all i → In all j → paired d cs' neighbours (map f active) (f i) (f j) ≡ paired d cs neighbours active i j
  unfolding paired
  paired-renamed i j p q = ap₂ (λ (a b : Bool). a || b) (takes-kept i j p q) (takes-kept j i q p)

  -- ---- what a leaf borrows
  pub borrowed-renamed : (own : List ℕ) → All (In all) own → borrowed_by d cs' neighbours (map f active) (map f own) ≡ map f (borrowed_by d cs neighbours active own)
  unfolding borrowed_by
  borrowed-renamed own g =
      keep-image f (λ j. not (member j own) && any_of (λ i. paired d cs neighbours active i j) own)
      (λ j. not (member j (map f own)) && any_of (λ i. paired d cs' neighbours (map f active) i j) (map f own)) active
      (λ j m. let q = all-mem (In all) active h j m in
      ap₂ (λ (a b : Bool). not a && b) (member-kept all f r.order j own q g)
      (any-image f (λ i. paired d cs neighbours active i j) (λ i. paired d cs' neighbours (map f active) i (f j)) own (λ i n. paired-renamed i j (all-mem (In all) own g i n) q)))
