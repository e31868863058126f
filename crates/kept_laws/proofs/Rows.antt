-- What a search keeps, as the rows that the definition takes; and a half passed over by its key. Assumes nothing.
use mathlib.Core.Path.{◌≡◌, sym, ap, ◌∙◌}
use mathlib.Core.Bool.{Bool}
use mathlib.Core.List.{List, map}
use Prim.Native.Nat.{ℕ, ◌+◌, ◌<◌}
use lib.Dec.{ltb}
use lib.ListN.{length, get_or}
use lib.Ieee.{Float}
use Rattle.lists.specs.Lists.{one_if, count}
use Rattle.lists.specs.Ascends.{All}
use Rattle.lists.specs.Same.{Same}
use Rattle.lists.proofs.All.{all-of, all-mem}
use Rattle.lists.proofs.Count.{count_map, keep-map, keep_same}
use Rattle.definition.specs.Points.{rows_sq}
use Rattle.definition.specs.Keys.{Key, keyed, before, rank, first_rows_lem}
use Rattle.definition.specs.Overlaps.{others, nearest_others, nearest}
use Rattle.nearest_scan.specs.Near.{apart, position_key, sooner, Found}
use Rattle.kept_laws.specs.First.{first_of, Kept}
use Rattle.kept_laws.proofs.First.{rows-same}
use Rattle.kept_laws.proofs.Kept.{kept-mem}

module _ (d : ℕ) (cs : List Float) (active : List ℕ) (row : ℕ) where
  abbrev bef : ℕ → ℕ → Bool
  bef = sooner d cs active row

  abbrev at : ℕ → ℕ
  at q = get_or active q 0

  -- the first m positions, as keys
  first-keys : (m : ℕ) (xs : List ℕ) → map (position_key d cs active row) (first_of bef m xs) ≡ first_of before m (map (position_key d cs active row) xs)
  unfolding first_of sooner
  first-keys m xs =
      let f : ℕ → Key = position_key d cs active row in
      let t : Key → Bool = λ k. ltb (count (λ q. before q k) (map f xs)) m in
      sym (keep-map f t xs ∙ ap (map f) (keep_same (λ q. t (f q)) (λ q. ltb (count (λ p. before (f p) (f q)) xs) m) xs
      (λ q i. ap (λ (n : ℕ). ltb n m) (count_map f (λ k. before k (f q)) xs))))

  -- THE LAW: of positions whose rows are those of the list `rows`, the rows kept are the first of `rows`, each as often
  pub kept-rows : (m : ℕ) (xs near rows : List ℕ) → Same (map (λ q. get_or active q 0) xs) rows → Kept (sooner d cs active row) m xs near
      → (p : ℕ → Bool) → count p (map (λ q. get_or active q 0) near) ≡ count p (first_rows_lem m (keyed (rows_sq d cs row) rows))
  unfolding first_rows_lem keyed rank first_of
  kept-rows m xs near rows s k p =
      let f : ℕ → Key = position_key d cs active row in
      let g : ℕ → Key = λ i. record { value = rows_sq d cs row i; row = i } in
      let r : Key → ℕ = λ z. z.row in
      count_map at p near ∙ k.taken (λ q. p (at q))
      ∙ sym (count_map f (λ z. p z.row) (first_of bef m xs))
      ∙ ap (count (λ z. p z.row)) (first-keys m xs)
      ∙ sym (count_map r p (first_of before m (map f xs)))
      ∙ rows-same m (map f xs) (map g rows) (λ q. count_map f q xs ∙ sym (count_map at (λ i. q (g i)) xs) ∙ s (λ i. q (g i)) ∙ sym (count_map g q rows)) p

  -- the positions of all rows but the row itself were visited, each once: what the scan finds
  pub kept-found : (neighbours : ℕ) (xs near : List ℕ) (far : List Float) → All (λ q. q < length active) xs
      → Same (map (λ q. get_or active q 0) xs) (others active row) → Kept (sooner d cs active row) neighbours xs near
      → far ≡ map (apart d cs active row) near → Found d cs active row neighbours near far
  unfolding nearest nearest_others count
  kept-found neighbours xs near far b s k e =
      record {
        within = all-of (λ q. q < length active) near (λ q i. all-mem (λ q. q < length active) xs b q (kept-mem bef neighbours xs near k q i));
        ordered = k.ordered;
        taken = λ p. ap (λ (n : ℕ). one_if (p row) + n) (kept-rows neighbours xs near (others active row) s k p);
        values = e;
      }
