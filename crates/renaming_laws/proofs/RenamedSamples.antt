-- What a leaf of renamed rows sends up is what the leaf sends up, renamed, and its cover is the same. Assumes nothing.
-- Holds: gap-kept, pick-kept, seed-kept, more-kept, sent-kept, cover-kept
use mathlib.Core.Path.{◌≡◌, refl, sym, ap, ap₂, ◌∙◌}
use mathlib.Core.Bool.{not}
use mathlib.Core.List.{List, [], ◌∷◌, ◌++◌, map, map-map}
use Prim.Native.Nat.{ℕ, zero, suc, ◌+◌, ◌-◌, ◌≤◌, ◌<◌}
use native.Mathlib.Omega.{arith}
use lib.ListN.{length, length-map, length-append}
use lib.Ieee.{Float}
use Rattle.lists.specs.Lists.{member}
use Rattle.lists.specs.Ascends.{All}
use Rattle.lists.specs.Times.{times, Once}
use Rattle.lists.proofs.All.{all-mem, all_keep}
use Rattle.lists.proofs.Map.{map_same, map_snoc}
use Rattle.lists.proofs.Times.{times-nil, others-count, times_more}
use Rattle.definition.specs.Number.{plus_zero, square_root_lem, over}
use Rattle.definition.specs.Points.{coordinate, distance, rows_apart, least_of, greatest_of}
use Rattle.definition.specs.Keys.{keyed, nearest_row, farthest_row}
use Rattle.definition.specs.Sampling.{gap, unchosen, pick, cover_of, sample_more, sample, sum_from, centroid, from_centroid, seed_of, sent_by, leaf_cover}
use Rattle.definition.proofs.Halves.{length-keyed}
use Rattle.definition.proofs.Sampling.{seed-own, pick-new}
use Rattle.renaming_laws.specs.Renaming.{Renames}
use Rattle.renaming_laws.proofs.RenamedLists.{keep-image}
use Rattle.renaming_laws.proofs.RenamedKeys.{In, nearest-kept, farthest-kept, keyed-kept, member-kept}
use Rattle.renaming_laws.proofs.RenamedPoints.{part_in, distance-same, apart-kept, column-kept}

module _ (d : ℕ) (cs cs' : List Float) (all : List ℕ) (f : ℕ → ℕ) (r : Renames d cs cs' all f)
    (rows : List ℕ) (h : All (In all) rows) where
  -- ---- against chosen rows
  module _ (chosen : List ℕ) (g : All (In all) chosen) where
    pub gap-kept : (i : ℕ) → In all i → gap d cs' (map f chosen) (f i) ≡ gap d cs chosen i
    unfolding gap
    gap-kept i p =
        ap least_of
        (map-map (λ (c : ℕ). rows_apart d cs' c (f i)) f chosen
        ∙ map_same (λ c. rows_apart d cs' (f c) (f i)) (λ c. rows_apart d cs c i) chosen (λ c m. apart-kept d cs cs' all f r c i (all-mem (In all) chosen g c m) p))

    unchosen-kept : unchosen (map f rows) (map f chosen) ≡ map f (unchosen rows chosen)
    unchosen-kept =
        keep-image f (λ i. not (member i chosen)) (λ i. not (member i (map f chosen))) rows
        (λ i m. ap not (member-kept all f r.order i chosen (all-mem (In all) rows h i m) g))

    unchosen-in : All (In all) (unchosen rows chosen)
    unchosen-in = all_keep (In all) (λ i. not (member i chosen)) rows h

    pub pick-kept : 0 < length (unchosen rows chosen) → pick d cs' (map f rows) (map f chosen) ≡ f (pick d cs rows chosen)
    unfolding pick
    pick-kept some =
        ap (λ (l : List ℕ). farthest_row (keyed (gap d cs' (map f chosen)) l)) unchosen-kept
        ∙ ap farthest_row (keyed-kept f (gap d cs chosen) (gap d cs' (map f chosen)) (unchosen rows chosen) (λ i m. gap-kept i (all-mem (In all) (unchosen rows chosen) unchosen-in i m)))
        ∙ farthest-kept f (keyed (gap d cs chosen) (unchosen rows chosen)) (omega (arith, length-keyed (gap d cs chosen) (unchosen rows chosen)))

    covers : cover_of d cs' (map f rows) (map f chosen) ≡ cover_of d cs rows chosen
    unfolding cover_of
    covers =
        ap greatest_of
        (ap (map (gap d cs' (map f chosen))) unchosen-kept
        ∙ map-map (gap d cs' (map f chosen)) f (unchosen rows chosen)
        ∙ map_same (λ i. gap d cs' (map f chosen) (f i)) (gap d cs chosen) (unchosen rows chosen) (λ i m. gap-kept i (all-mem (In all) (unchosen rows chosen) unchosen-in i m)))

  -- ---- the seed: the first row nearest the centroid
  centroid-kept : (a : ℕ) → a < d → centroid d cs' (map f rows) a ≡ centroid d cs rows a
  unfolding centroid
  centroid-kept a l = ap₂ (λ (x : List Float) (n : ℕ). over (sum_from plus_zero x) n) (column-kept d cs cs' all f r rows h a l) (length-map rows f)

  from-centroid : (i : ℕ) → In all i → from_centroid d cs' (map f rows) (f i) ≡ from_centroid d cs rows i
  unfolding from_centroid distance
  from-centroid i p =
      ap square_root_lem (distance-same d (centroid d cs rows) (centroid d cs' (map f rows)) (coordinate d cs i) (coordinate d cs' (f i)) centroid-kept (λ a l. r.points i a p l))

  pub seed-kept : 0 < length rows → seed_of d cs' (map f rows) ≡ f (seed_of d cs rows)
  unfolding seed_of
  seed-kept some =
      ap nearest_row (keyed-kept f (from_centroid d cs rows) (from_centroid d cs' (map f rows)) rows (λ i m. from-centroid i (all-mem (In all) rows h i m)))
      ∙ nearest-kept f (keyed (from_centroid d cs rows) rows) (omega (arith, length-keyed (from_centroid d cs rows) rows))

  -- ---- rows without repeats: there is a row to pick as long as fewer are chosen than there are
  module _ (once : Once rows) where
    pub more-kept : (more : ℕ) (chosen : List ℕ) → ((r : ℕ) → times r chosen ≤ times r rows) → length chosen + more ≤ length rows
        → sample_more d cs' (map f rows) more (map f chosen) ≡ map f (sample_more d cs rows more chosen)
    unfolding sample_more
    more-kept zero chosen own l = refl
    more-kept (suc more) chosen own l =
        let x = pick d cs rows chosen in
        let fresh = pick-new d cs rows once chosen own (omega arith) in
        ap (λ (y : ℕ). sample_more d cs' (map f rows) more (map f chosen ++ y ∷ [])) (pick-kept chosen (part_in all rows chosen h own) (omega (arith, others-count rows once chosen own)))
        ∙ ap (sample_more d cs' (map f rows) more) (sym (map_snoc f chosen x))
        ∙ more-kept more (chosen ++ x ∷ []) (times_more rows chosen x own fresh.0 fresh.1) (omega (arith, length-append chosen (x ∷ [])))

    -- at a quota within the rows
    pub sent-kept : (quota : ℕ) → quota ≤ length rows → sent_by d cs' (map f rows) quota ≡ map f (sent_by d cs rows quota)
    unfolding sent_by sample
    sent-kept zero l = refl
    sent-kept (suc more) l =
        ap (λ (y : ℕ). sample_more d cs' (map f rows) (suc more - 1) (y ∷ [])) (seed-kept (omega arith))
        ∙ more-kept (suc more - 1) (seed_of d cs rows ∷ []) (times_more rows [] (seed_of d cs rows) (λ r. omega (arith, times-nil r)) (seed-own d cs rows (omega arith)) (times-nil (seed_of d cs rows))) (omega arith)

-- ---- the cover of a leaf
pub cover-kept : (d : ℕ) (cs cs' : List Float) (all : List ℕ) (f : ℕ → ℕ) → Renames d cs cs' all f
    → (rows sent : List ℕ) → All (In all) rows → All (In all) sent → leaf_cover d cs' (map f rows) (map f sent) ≡ leaf_cover d cs rows sent
unfolding leaf_cover
cover-kept d cs cs' all f r [] sent h g = refl
cover-kept d cs cs' all f r (i ∷ rows) [] h g = refl
cover-kept d cs cs' all f r (i ∷ rows) (j ∷ sent) h g = covers d cs cs' all f r (i ∷ rows) h (j ∷ sent) g
