-- The two writers of the domain rows, own columns and borrowed columns: what is written is read back, and both together write the
-- definition's domain rows. Assumes nothing.
-- Holds: own-length, own-names, own_read, keeps-start, keeps-count, own_from, both-columns
use mathlib.Core.Path.{◌≡◌, refl, sym, ap, ◌∙◌}
use mathlib.Core.List.{List, [], ◌∷◌, ◌++◌, map}
use Prim.Native.Nat.{ℕ, zero, suc, ◌+◌, ◌*◌, ◌≤◌, ◌<◌}
use native.Mathlib.Omega.{arith}
use native.Mathlib.Nat.{add-zero}
use lib.ListN.{length, get_or, length-append, length-map}
use Rattle.lists.specs.Lists.{put, part, joined}
use Rattle.lists.proofs.Put.{length-put, put-next-at, put-over, put-comm, put-nil, get_d-put-in, get_d-put-before, part-part, part-first, part-second}
use Rattle.lists.proofs.From.{list-below}
use Rattle.definition.specs.Tree.{Leaf}
use Rattle.definition.specs.Packed.{row_numbers, numbers_of, stretches}
use Rattle.queue.specs.Rows.{Own, with_own}
use Rattle.packed.specs.Reading.{own_start, own_count, own_at, read_own}
use Rattle.packed.specs.Rows.{own_row, put_own_lem}
use Rattle.overlaps.specs.Borrowed.{with_borrowed}
use Rattle.overlaps.proofs.Columns.{columns-own}

-- ---- the rows of leaves that borrow nothing yet

-- the rows of each
abbrev rows_in : List Own → List (List ℕ)
rows_in ls = map (λ l. l.rows) ls

module _ (at k : ℕ) (l : Own) where
  -- the numbers of the first one's domain row
  abbrev first_row : List ℕ
  first_row = numbers_of (own_row at (length l.rows) l.depth)

  abbrev after_first : List ℕ → List ℕ
  after_first D = put_own_lem D k at (length l.rows) l.depth

pub own-length : (at : ℕ) (ls : List Own) (k : ℕ) (D : List ℕ) → row_numbers * (k + length ls) ≤ length D → length (with_own at ls k D) ≡ length D
unfolding with_own
own-length at [] k D h = refl
own-length at (l ∷ ls) k D h =
    let e = length-put D (row_numbers * k) (first_row at k l) (omega arith) in
    own-length (at + length l.rows) ls (k + 1) (after_first at k l D) (omega arith) ∙ e

own-before : (at : ℕ) (ls : List Own) (k : ℕ) (D : List ℕ) (i : ℕ) → row_numbers * (k + length ls) ≤ length D → i < row_numbers * k → get_or (with_own at ls k D) i 0 ≡ get_or D i 0
unfolding with_own
own-before at [] k D i h g = refl
own-before at (l ∷ ls) k D i h g =
    let e = length-put D (row_numbers * k) (first_row at k l) (omega arith) in
    own-before (at + length l.rows) ls (k + 1) (after_first at k l D) i (omega arith) (omega arith)
    ∙ get_d-put-before D (row_numbers * k) (first_row at k l) i 0 (omega arith) g

-- a store before them may come first
own_put : (at : ℕ) (ls : List Own) (k : ℕ) (D : List ℕ) (i : ℕ) (ys : List ℕ) → row_numbers * (k + length ls) ≤ length D → i + length ys ≤ row_numbers * k
    → put (with_own at ls k D) i ys ≡ with_own at ls k (put D i ys)
unfolding with_own
own_put at [] k D i ys h g = refl
own_put at (l ∷ ls) k D i ys h g =
    let e = length-put D (row_numbers * k) (first_row at k l) (omega arith) in
    own_put (at + length l.rows) ls (k + 1) (after_first at k l D) i ys (omega arith) (omega arith)
    ∙ ap (with_own (at + length l.rows) ls (k + 1)) (sym (put-comm D i ys (row_numbers * k) (first_row at k l) g (omega arith)))

-- ---- what is packed is named by the own columns, and stands inside the list
module _ (I : List ℕ) where
  pub own-names : (at : ℕ) (ls : List Own) (k : ℕ) (D : List ℕ) → row_numbers * (k + length ls) ≤ length D → at + length (joined (rows_in ls)) ≤ length I
      → part I at (length (joined (rows_in ls))) ≡ joined (rows_in ls)
      → (i : ℕ) → i < length ls
      → (own_at I (with_own at ls k D) (k + i) ≡ get_or (rows_in ls) i []) × (own_start (with_own at ls k D) (k + i) + own_count (with_own at ls k D) (k + i) ≤ length I)
  unfolding with_own joined
  own-names at [] k D h f e i l = absurd (omega arith)
  own-names at (o ∷ ls) k D h f e zero g =
      let l = o.rows in
      let rest = joined (rows_in ls) in
      let D₁ = after_first at k o D in
      let n = length-put D (row_numbers * k) (first_row at k o) (omega arith) in
      let t : length (l ++ rest) ≡ length l + length rest = length-append l rest in
      let a : get_or (with_own (at + length l) ls (k + 1) D₁) (row_numbers * (k + 0)) 0 ≡ at =
      ap (λ (i : ℕ). get_or (with_own (at + length l) ls (k + 1) D₁) i 0) (index k)
      ∙ own-before (at + length l) ls (k + 1) D₁ (row_numbers * k + 0) (omega arith) (omega arith) ∙ get_d-put-in D (row_numbers * k) (first_row at k o) 0 0 (omega arith) (omega arith) in
      let b : get_or (with_own (at + length l) ls (k + 1) D₁) (row_numbers * (k + 0) + 1) 0 ≡ length l =
      ap (λ (i : ℕ). get_or (with_own (at + length l) ls (k + 1) D₁) i 0) (second k)
      ∙ own-before (at + length l) ls (k + 1) D₁ (row_numbers * k + 1) (omega arith) (omega arith) ∙ get_d-put-in D (row_numbers * k) (first_row at k o) 1 0 (omega arith) (omega arith) in
      let one : part I at (length l) ≡ l =
      ap (λ (i : ℕ). part I i (length l)) (sym (add-zero at)) ∙ sym (part-part I at (length (l ++ rest)) 0 (length l) (omega arith))
      ∙ ap (λ (x : List ℕ). part x 0 (length l)) e ∙ part-first l rest (length l) refl in
      (rw (a, b) one, rw (a, b) (omega arith))
    where
      index : (k : ℕ) → row_numbers * (k + 0) ≡ row_numbers * k + 0
      index k = omega arith

      second : (k : ℕ) → row_numbers * (k + 0) + 1 ≡ row_numbers * k + 1
      second k = omega arith
  own-names at (o ∷ ls) k D h f e (suc i) g =
      let l = o.rows in
      let rest = joined (rows_in ls) in
      let D₁ = after_first at k o D in
      let n = length-put D (row_numbers * k) (first_row at k o) (omega arith) in
      let t : length (l ++ rest) ≡ length l + length rest = length-append l rest in
      let two : part I (at + length l) (length rest) ≡ rest =
      sym (part-part I at (length (l ++ rest)) (length l) (length rest) (omega arith))
      ∙ ap (λ (x : List ℕ). part x (length l) (length rest)) e ∙ part-second l rest (length l) (length rest) refl refl in
      let s : k + 1 + i ≡ k + suc i = omega arith in
      rw s at (own-names (at + length l) ls (k + 1) D₁ (omega arith) (omega arith) two i (omega arith))

  pub own_read : (at : ℕ) (ls : List Own) (k : ℕ) (D : List ℕ) → row_numbers * (k + length ls) ≤ length D → at + length (joined (rows_in ls)) ≤ length I
      → part I at (length (joined (rows_in ls))) ≡ joined (rows_in ls) → read_own I (with_own at ls k D) k (length ls) ≡ map (λ l. l.rows) ls
  unfolding read_own
  own_read at ls k D h f e =
      sym (list-below (λ l. own_at I (with_own at ls k D) (k + l)) (rows_in ls) (length ls) [] (length-map ls (λ (l : Own). l.rows)) (λ i g. sym (own-names at ls k D h f e i g).0))

-- ---- the borrowed columns: the own ones stay
module _ (at : ℕ) (ls : List (List ℕ)) (k : ℕ) (D : List ℕ) (h : row_numbers * (k + length ls) ≤ length D) (j : ℕ) where
  pub keeps-start : own_start (with_borrowed at ls k D) j ≡ own_start D j
  keeps-start =
      ap (λ (i : ℕ). get_or (with_borrowed at ls k D) i 0) (sym (add-zero (row_numbers * j))) ∙ columns-own at ls k D j 0 h (omega arith)
      ∙ ap (λ (i : ℕ). get_or D i 0) (add-zero (row_numbers * j))

  pub keeps-count : own_count (with_borrowed at ls k D) j ≡ own_count D j
  keeps-count = columns-own at ls k D j 1 h (omega arith)

-- ---- both writers together: the definition's domain rows
abbrev pub own_from : Leaf → Own
own_from f = record { rows = f.own; depth = f.depth }

-- the borrowed stretch is written over the zeros of a row
row-over : (D : List ℕ) (k a n b m e : ℕ) → row_numbers * (k + 1) ≤ length D
    → put (put_own_lem D k a n e) (row_numbers * k + 2) (b ∷ m ∷ []) ≡ put D (row_numbers * k) (a ∷ n ∷ b ∷ m ∷ e ∷ [])
row-over D k a n b m e h =
    let p = row_numbers * k in
    let o = a ∷ n ∷ [] in
    let y = b ∷ m ∷ [] in
    let D₁ = put D p o in
    let l₁ : length D₁ ≡ length D = length-put D p o (omega arith) in
    let z : List ℕ = 0 ∷ 0 ∷ [] in
    let l₂ : length (put D₁ (p + 2) z) ≡ length D = length-put D₁ (p + 2) z (omega arith) ∙ l₁ in
    let l₃ : length (put D₁ (p + 2) y) ≡ length D = length-put D₁ (p + 2) y (omega arith) ∙ l₁ in
    let apart : put_own_lem D k a n e ≡ put (put D₁ (p + 2) z) (p + 4) (e ∷ []) =
    sym (put-next-at D p (a ∷ n ∷ 0 ∷ 0 ∷ []) (e ∷ []) (p + 4) (omega arith) (omega arith)) ∙ ap (λ (l : List ℕ). put l (p + 4) (e ∷ [])) (sym (put-next-at D p o z (p + 2) (omega arith) (omega arith))) in
    ap (λ (l : List ℕ). put l (p + 2) y) apart
    ∙ sym (put-comm (put D₁ (p + 2) z) (p + 2) y (p + 4) (e ∷ []) (omega arith) (omega arith))
    ∙ ap (λ (l : List ℕ). put l (p + 4) (e ∷ [])) (put-over D₁ (p + 2) z y (omega arith) refl ∙ put-next-at D p o y (p + 2) (omega arith) (omega arith))
    ∙ put-next-at D p (a ∷ n ∷ b ∷ m ∷ []) (e ∷ []) (p + 4) (omega arith) (omega arith)

pub both-columns : (a b k : ℕ) (fs : List Leaf) (D : List ℕ) → row_numbers * (k + length fs) ≤ length D
    → with_borrowed b (map (λ (f : Leaf). f.borrowed) fs) k (with_own a (map own_from fs) k D) ≡ put D (row_numbers * k) (stretches a b fs)
unfolding with_borrowed with_own stretches
both-columns a b k [] D h = sym (put-nil D (row_numbers * k))
both-columns a b k (f ∷ fs) D h =
    let o = length f.own in
    let w = length f.borrowed in
    let y = b ∷ w ∷ [] in
    let all = a ∷ o ∷ b ∷ w ∷ f.depth ∷ [] in
    let ls = map own_from fs in
    let n : length ls ≡ length fs = length-map fs own_from in
    let e = length-put D (row_numbers * k) (first_row a k (own_from f)) (omega arith) in
    let q : put (put_own_lem D k a o f.depth) (row_numbers * k + 2) y ≡ put D (row_numbers * k) all = row-over D k a o b w f.depth (omega arith) in
    let e2 = length-put D (row_numbers * k) all (omega arith) in
    ap (with_borrowed (b + w) (map (λ (f : Leaf). f.borrowed) fs) (k + 1))
    (own_put (a + o) ls (k + 1) (put_own_lem D k a o f.depth) (row_numbers * k + 2) y (omega arith) (omega arith) ∙ ap (with_own (a + o) ls (k + 1)) q)
    ∙ both-columns (a + o) (b + w) (k + 1) fs (put D (row_numbers * k) all) (omega arith)
    ∙ put-next-at D (row_numbers * k) all (stretches (a + o) (b + w) fs) (row_numbers * (k + 1)) (omega arith) (omega arith)
