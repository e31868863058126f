-- The borrowed columns of the domain rows, and the turns of the loop that writes them. Assumes nothing.
-- Holds: columns-length, columns-snoc, columns-map, columns-own, Columned, column-none, column-end, column-more, column-all
use mathlib.Core.Path.{◌≡◌, refl, sym, ap, ap₂, ◌∙◌}
use mathlib.Core.List.{List, [], ◌∷◌, ◌++◌, map}
use Prim.Native.Nat.{ℕ, suc, ◌+◌, ◌-◌, ◌*◌, ◌≤◌, ◌<◌}
use native.Mathlib.Omega.{arith}
use native.Mathlib.Nat.{add-zero, add_assoc}
use native.Mathlib.Numerals.{add-one}
use native.Mathlib.Decide.{dec_lt, dec_le}
use lib.ListN.{length, get_or, take, drop, length-map, length-append, length-drop, get_or-append}
use lib.Seq.{drop-cons, get_or-drop, get_or-append-add, length-take-le, take-suc, take-length}
use Rattle.lists.specs.Lists.{total}
use Rattle.lists.specs.Ascends.{All}
use Rattle.lists.proofs.All.{all-at, all-imp, all_drop}
use Rattle.lists.proofs.Put.{length-put, get_d-put-before, get_d-put-after}
use Rattle.lists.proofs.Sums.{total-snoc}
use Rattle.lists.proofs.Map.{map_snoc}
use Rattle.definition.specs.Packed.{row_numbers}
use Rattle.rows.specs.Rows.{most_leaves}
use Rattle.packed.specs.Rows.{put_borrowed_lem}
use Rattle.overlap_pairs.specs.Pairs.{code}
use Rattle.overlaps.specs.Codes.{codes_from, Reached, Positions}
use Rattle.overlaps.specs.Borrowed.{with_borrowed}
use Rattle.overlaps.proofs.Codes.{block-range, codes-above, drop-codes}

-- ---- the columns
pub columns-length : (at : ℕ) (ls : List (List ℕ)) (k : ℕ) (D : List ℕ) → row_numbers * (k + length ls) ≤ length D → length (with_borrowed at ls k D) ≡ length D
unfolding with_borrowed
columns-length at [] k D h = refl
columns-length at (l ∷ ls) k D h =
    let e = length-put D (row_numbers * k + 2) (at ∷ length l ∷ []) (omega arith) in
    columns-length (at + length l) ls (k + 1) (put_borrowed_lem D k at (length l)) (omega arith) ∙ e

pub columns-snoc : (at : ℕ) (ls : List (List ℕ)) (l : List ℕ) (k : ℕ) (D : List ℕ)
    → with_borrowed at (ls ++ l ∷ []) k D ≡ put_borrowed_lem (with_borrowed at ls k D) (k + length ls) (at + total (map length ls)) (length l)
unfolding with_borrowed total
columns-snoc at [] l k D = ap₂ (λ (i a : ℕ). put_borrowed_lem D i a (length l)) (sym (add-zero k)) (sym (add-zero at))
columns-snoc at (m ∷ ls) l k D =
    let E = put_borrowed_lem D k at (length m) in
    columns-snoc (at + length m) ls l (k + 1) E
    ∙ ap₂ (λ (i a : ℕ). put_borrowed_lem (with_borrowed (at + length m) ls (k + 1) E) i a (length l)) (one k (length ls)) (add_assoc at (length m) (total (map length ls)))
  where
    one : (k n : ℕ) → k + 1 + n ≡ k + suc n
    one k n = omega arith

-- only the lengths matter
pub columns-map : (f : ℕ → ℕ) (at : ℕ) (ls : List (List ℕ)) (k : ℕ) (D : List ℕ) → with_borrowed at (map (map f) ls) k D ≡ with_borrowed at ls k D
unfolding with_borrowed
columns-map f at [] k D = refl
columns-map f at (l ∷ ls) k D =
    ap (λ (n : ℕ). with_borrowed (at + n) (map (map f) ls) (k + 1) (put_borrowed_lem D k at n)) (length-map l f)
    ∙ columns-map f (at + length l) ls (k + 1) (put_borrowed_lem D k at (length l))

-- ---- the own columns stay
pub columns-own : (at : ℕ) (ls : List (List ℕ)) (k : ℕ) (D : List ℕ) (j r : ℕ) → row_numbers * (k + length ls) ≤ length D → r < 2 → get_or (with_borrowed at ls k D) (row_numbers * j + r) 0 ≡ get_or D (row_numbers * j + r) 0
unfolding with_borrowed
columns-own at [] k D j r h g = refl
columns-own at (l ∷ ls) k D j r h g =
    let e = length-put D (row_numbers * k + 2) (at ∷ length l ∷ []) (omega arith) in
    columns-own (at + length l) ls (k + 1) (put_borrowed_lem D k at (length l)) j r (omega arith) g ∙ go (dec_le j k)
  where
    go : Dec (j ≤ k) → get_or (put_borrowed_lem D k at (length l)) (row_numbers * j + r) 0 ≡ get_or D (row_numbers * j + r) 0
    go (yes y) = get_d-put-before D (row_numbers * k + 2) (at ∷ length l ∷ []) (row_numbers * j + r) 0 (omega arith) (omega arith)
    go (no n) = get_d-put-after D (row_numbers * k + 2) (at ∷ length l ∷ []) (row_numbers * j + r) 0 (omega arith) (omega arith)

-- ---- the end of a block
reach-end : (codes xs ys : List ℕ) (s limit e : ℕ) → drop s codes ≡ xs ++ ys → All (λ c. c < limit) xs → All (λ c. limit ≤ c) ys
    → s ≤ length codes → Reached codes s limit e → e ≡ s + length xs
reach-end codes xs ys s limit e d a b h r =
    let n : length codes ≡ s + (length xs + length ys) = let t = ap length d in omega (arith, simp (length-drop, length-append) at t) in
    go n (dec_lt e (s + length xs)) (dec_lt (s + length xs) e)
  where
    at : (i : ℕ) → get_or codes (s + i) 0 ≡ get_or (xs ++ ys) i 0
    at i = sym (get_or-drop s codes i 0) ∙ ap (λ (l : List ℕ). get_or l i 0) d

    go : length codes ≡ s + (length xs + length ys) → Dec (e < s + length xs) → Dec (s + length xs < e) → e ≡ s + length xs
    go n (yes y) q =
        let g = r.start in
        let i = e - s in
        let u : e ≡ s + i = omega arith in
        let v : get_or codes e 0 ≡ get_or xs i 0 = ap (λ (j : ℕ). get_or codes j 0) u ∙ at i ∙ get_or-append xs ys 0 i (omega arith) in
        absurd (omega (arith, v, r.stop (omega arith), all-at (λ c. c < limit) xs i 0 a (omega arith)))
    go n (no z) (yes y) =
        let g = r.inside in
        let k : 0 < length ys = omega arith in
        let u : length xs ≡ length xs + 0 = sym (add-zero (length xs)) in
        let v : get_or codes (s + length xs) 0 ≡ get_or ys 0 0 = at (length xs) ∙ ap (λ (j : ℕ). get_or (xs ++ ys) j 0) u ∙ get_or-append-add xs ys 0 0 in
        absurd (omega (arith, v, r.under (s + length xs) (omega arith) y, all-at (λ c. limit ≤ c) ys 0 0 b k))
    go n (no z) (no y) = omega arith

-- ---- the turns: the first `leaf` rows have their columns, and the numbers of the next leaf start at s
pub record Columned (codes : List ℕ) (first at : ℕ) (D₀ D : List ℕ) (leaf s : ℕ) (ls : List (List ℕ)) : Type 0 where
  pub start : s ≡ total (map length (take leaf ls))
  pub list : D ≡ with_borrowed at (take leaf ls) first D₀

module _ (codes : List ℕ) (m first at : ℕ) (D₀ : List ℕ) (room : row_numbers * (first + m) ≤ length D₀) (ls : List (List ℕ)) (P : Positions m most_leaves ls) (is : codes ≡ codes_from 0 ls) where
  pub column-none : Columned codes first at D₀ D₀ 0 0 ls
  unfolding with_borrowed total
  column-none = record { start = refl; list = refl }

  module _ (D : List ℕ) (leaf s e : ℕ) (c : Columned codes first at D₀ D leaf s ls) (here : leaf < m) (inside : s ≤ length codes)
      (r : Reached codes s ((leaf + 1) * most_leaves) e) where
    ps : List ℕ
    ps = get_or ls leaf []

    rest : List (List ℕ)
    rest = drop (suc leaf) ls

    left : drop s codes ≡ map (code leaf) ps ++ codes_from (suc leaf) rest
    unfolding codes_from ps rest
    left =
        let n = P.number in
        ap₂ (λ (i : ℕ) (l : List ℕ). drop i l) c.start is ∙ drop-codes 0 ls leaf (omega arith)
        ∙ ap (λ (k : ℕ). codes_from k (drop leaf ls)) (zero-plus leaf) ∙ ap (codes_from leaf) (drop-cons ls leaf [] (omega arith))
      where
        zero-plus : (k : ℕ) → 0 + k ≡ k
        zero-plus k = omega arith

    small : All (λ q. q < most_leaves) ps
    unfolding ps
    small = let n = P.number in all-at (λ l. All (λ q. q < most_leaves) l) ls leaf [] P.below (omega arith)

    pub column-end : e ≡ s + length (get_or ls leaf [])
    unfolding ps rest
    column-end =
        let q : leaf + 1 ≡ suc leaf = add-one leaf in
        let limit : (leaf + 1) * most_leaves ≡ suc leaf * most_leaves = ap (λ (k : ℕ). k * most_leaves) q in
        reach-end codes (map (code leaf) ps) (codes_from (suc leaf) rest) s ((leaf + 1) * most_leaves) e left
        (all-imp (λ c. (leaf * most_leaves ≤ c) × (c < suc leaf * most_leaves)) (λ c. c < (leaf + 1) * most_leaves) (map (code leaf) ps) (λ c g. omega (arith, g.1)) (block-range leaf ps small))
        (all-imp (λ c. suc leaf * most_leaves ≤ c) (λ c. (leaf + 1) * most_leaves ≤ c) (codes_from (suc leaf) rest) (λ c g. omega arith) (codes-above (suc leaf) rest (all_drop (λ l. All (λ q. q < most_leaves) l) (suc leaf) ls P.below)))
        inside r ∙ ap (λ (k : ℕ). s + k) (length-map ps (code leaf))

    pub column-more : Columned codes first at D₀ (put_borrowed_lem D (first + leaf) (at + s) (e - s)) (leaf + 1) e ls
    column-more =
        let n = P.number in
        let xs = take leaf ls in
        let l = get_or ls leaf [] in
        let k : length xs ≡ leaf = length-take-le leaf ls (omega arith) in
        let t : take (leaf + 1) ls ≡ xs ++ l ∷ [] = ap (λ (j : ℕ). take j ls) (add-one leaf) ∙ take-suc ls leaf [] (omega arith) in
        let w = columns-length at xs first D₀ (omega arith) in
        let d : length D ≡ length D₀ = ap length c.list ∙ w in
        let q : e - s ≡ length l = omega (arith, column-end) in
        record {
          start = column-end ∙ ap (λ (j : ℕ). j + length l) c.start ∙ sym (total-snoc (map length xs) (length l)) ∙ ap total (sym (map_snoc length xs l)) ∙ ap (λ (x : List (List ℕ)). total (map length x)) (sym t);
          list =
              ap₂ (λ (x : List ℕ) (y : ℕ). put_borrowed_lem x (first + leaf) (at + s) y) c.list q
              ∙ ap₂ (λ (j y : ℕ). put_borrowed_lem (with_borrowed at xs first D₀) (first + j) (at + y) (length l)) (sym k) c.start
              ∙ sym (columns-snoc at xs l first D₀) ∙ ap (λ (x : List (List ℕ)). with_borrowed at x first D₀) (sym t);
        }

  pub column-all : (D : List ℕ) (leaf s : ℕ) → Columned codes first at D₀ D leaf s ls → leaf ≤ m → m ≤ leaf → D ≡ with_borrowed at ls first D₀
  column-all D leaf s c h g =
      let n = P.number in
      let e : leaf ≡ length ls = omega arith in
      c.list ∙ ap (λ (x : List (List ℕ)). with_borrowed at x first D₀) (ap (λ (j : ℕ). take j ls) e ∙ take-length ls)
