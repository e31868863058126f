-- The positions of active rows: below their number, and each stands for its row; those of some of the rows are some of them. Assumes nothing.
-- Holds: place-known, places-below, places-rows, place-mem, place-in, others-fewer, others-active, parts-same, others-same
use mathlib.Core.Path.{◌≡◌, refl, sym, ap, ap₂, ◌∙◌, subst}
use mathlib.Core.Bool.{Bool, not, ◌&&◌}
use mathlib.Core.List.{List, [], ◌∷◌, ◌++◌, map, Memᴰ}
use Prim.Native.Nat.{ℕ, ◌+◌, ◌≤◌, ◌<◌}
use native.Mathlib.Omega.{arith}
use lib.Dec.{eqb}
use lib.ListN.{length, get_or}
use Rattle.lists.specs.Lists.{count}
use Rattle.lists.specs.Ascends.{All, Ascends}
use Rattle.lists.specs.Same.{Same}
use Rattle.lists.proofs.Tests.{and-snd}
use Rattle.lists.proofs.All.{all_keep}
use Rattle.lists.proofs.Count.{count-append, count-keep, count-le}
use Rattle.lists.proofs.Members.{mem_index, mem-map, map-mem}
use Rattle.definition.specs.Overlaps.{others}
use Rattle.cut_index.specs.Filed.{position_in, positions_of}
use Rattle.cut_index.proofs.Positions.{position-of, positions-count}

module _ (active : List ℕ) (up : Ascends active) where
  pub place-known : (r : ℕ) → Memᴰ r active → (position_in active r < length active) × (get_or active (position_in active r) 0 ≡ r)
  place-known r m =
      let i = mem_index active 0 m in
      let e = position-of active up r i.0 i.1 i.2 in
      (subst (λ (q : ℕ). q < length active) (sym e) i.1, ap (λ (q : ℕ). get_or active q 0) e ∙ i.2)

  pub places-below : (rows : List ℕ) → All (λ r. Memᴰ r active) rows → All (λ q. q < length active) (positions_of active rows)
  unfolding positions_of All
  places-below [] a = tt
  places-below (r ∷ rows) a = ((place-known r a.0).0, places-below rows a.1)

  pub places-rows : (rows : List ℕ) → All (λ r. Memᴰ r active) rows → map (λ q. get_or active q 0) (positions_of active rows) ≡ rows
  unfolding positions_of All
  places-rows [] a = refl
  places-rows (r ∷ rows) a = ap₂ (λ (x : ℕ) (l : List ℕ). x ∷ l) (place-known r a.0).1 (places-rows rows a.1)

module _ (active : List ℕ) where
  pub place-mem : (rows : List ℕ) (q : ℕ) → Memᴰ q (positions_of active rows) → (r : ℕ) × Memᴰ r rows × (q ≡ position_in active r)
  unfolding positions_of
  place-mem rows q m = map-mem (position_in active) rows m

  pub place-in : (rows : List ℕ) (r : ℕ) → Memᴰ r rows → Memᴰ (position_in active r) (positions_of active rows)
  unfolding positions_of
  place-in rows r m = mem-map (position_in active) rows m

  module _ (row : ℕ) where
    abbrev test : ℕ → Bool
    test j = not (eqb j row)

    -- ---- the others, counted
    others-count : (p : ℕ → Bool) (rows : List ℕ) → count p (positions_of active (others rows row)) ≡ count (λ j. not (eqb j row) && p (position_in active j)) rows
    others-count p rows = positions-count active p (others rows row) ∙ count-keep (λ j. p (position_in active j)) test rows

    pub others-fewer : (p : ℕ → Bool) (rows : List ℕ) → count p (positions_of active (others rows row)) ≤ count p (positions_of active rows)
    others-fewer p rows =
        omega (
          arith,
          others-count p rows,
          positions-count active p rows,
          count-le (λ j. test j && p (position_in active j)) (λ j. p (position_in active j)) rows (λ j m e. and-snd (test j) (p (position_in active j)) e),
        )

    pub others-active : (rows : List ℕ) → All (λ r. Memᴰ r active) rows → All (λ r. Memᴰ r active) (others rows row)
    others-active rows a = all_keep (λ r. Memᴰ r active) test rows a

    -- ---- rows in two parts, in any order
    module _ (xs ys rows : List ℕ) (s : Same (xs ++ ys) rows) where
      pub parts-same : (p : ℕ → Bool) → count p (positions_of active xs) + count p (positions_of active ys) ≡ count p (positions_of active rows)
      parts-same p =
          omega (
            arith,
            positions-count active p xs,
            positions-count active p ys,
            positions-count active p rows,
            count-append (λ j. p (position_in active j)) xs ys,
            s (λ j. p (position_in active j)),
          )

      pub others-same : (p : ℕ → Bool) → count p (positions_of active (others xs row)) + count p (positions_of active (others ys row)) ≡ count p (positions_of active (others rows row))
      others-same p =
          omega (
            arith,
            others-count p xs,
            others-count p ys,
            others-count p rows,
            count-append (λ j. test j && p (position_in active j)) xs ys,
            s (λ j. test j && p (position_in active j)),
          )
