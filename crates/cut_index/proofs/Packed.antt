-- Domain rows that were written one after the other name stretches that are packed. Assumes nothing.
use mathlib.Core.Path.{◌≡◌, refl, sym, ap, ◌∙◌}
use mathlib.Core.List.{List, [], ◌∷◌, map}
use Prim.Native.Nat.{ℕ, zero, suc, ◌+◌, ◌*◌, ◌≤◌, ◌<◌}
use native.Mathlib.Omega.{arith}
use native.Mathlib.Nat.{add-zero, add_assoc}
use lib.ListN.{length, get_or, take}
use Rattle.lists.specs.Lists.{total}
use Rattle.lists.proofs.Put.{length-put, get_d-put-in, get_d-put-before}
use Rattle.definition.specs.Packed.{row_numbers, numbers_of}
use Rattle.packed.specs.Reading.{own_start, read_own}
use Rattle.packed.specs.Rows.{own_row, put_own_lem}
use Rattle.queue.specs.Rows.{Own, with_own}
use Rattle.cut_index.specs.Recorded.{PackedFrom}

module _ (at k : ℕ) (l : Own) where
  -- the numbers of the first one's domain row
  abbrev first_row : List ℕ
  first_row = numbers_of (own_row at (length l.rows) l.depth)

  abbrev after_first : List ℕ → List ℕ
  after_first D = put_own_lem D k at (length l.rows) l.depth

own-before : (at : ℕ) (ls : List Own) (k : ℕ) (D : List ℕ) (i : ℕ) → row_numbers * (k + length ls) ≤ length D → i < row_numbers * k → get_or (with_own at ls k D) i 0 ≡ get_or D i 0
unfolding with_own
own-before at [] k D i h g = refl
own-before at (l ∷ ls) k D i h g =
    let e = length-put D (row_numbers * k) (first_row at k l) (omega arith) in
    own-before (at + length l.rows) ls (k + 1) (after_first at k l D) i (omega arith) (omega arith)
    ∙ get_d-put-before D (row_numbers * k) (first_row at k l) i 0 (omega arith) g

-- where each leaf's rows start
pub own-starts : (at : ℕ) (ls : List Own) (k : ℕ) (D : List ℕ) → row_numbers * (k + length ls) ≤ length D → (i : ℕ) → i < length ls
    → own_start (with_own at ls k D) (k + i) ≡ at + total (map length (take i (map (λ l. l.rows) ls)))
unfolding with_own total
own-starts at [] k D h i g = absurd (omega arith)
own-starts at (o ∷ ls) k D h zero g =
    let e = length-put D (row_numbers * k) (first_row at k o) (omega arith) in
    let s : row_numbers * (k + 0) ≡ row_numbers * k + 0 = omega arith in
    ap (λ (j : ℕ). get_or (with_own (at + length o.rows) ls (k + 1) (after_first at k o D)) j 0) s
    ∙ own-before (at + length o.rows) ls (k + 1) (after_first at k o D) (row_numbers * k + 0) (omega arith) (omega arith)
    ∙ get_d-put-in D (row_numbers * k) (first_row at k o) 0 0 (omega arith) (omega arith) ∙ sym (add-zero at)
own-starts at (o ∷ ls) k D h (suc i) g =
    let e = length-put D (row_numbers * k) (first_row at k o) (omega arith) in
    let s : k + suc i ≡ k + 1 + i = omega arith in
    ap (own_start (with_own (at + length o.rows) ls (k + 1) (after_first at k o D))) s
    ∙ own-starts (at + length o.rows) ls (k + 1) (after_first at k o D) (omega arith) i (omega arith)
    ∙ add_assoc at (length o.rows) (total (map length (take i (map (λ (l : Own). l.rows) ls))))

-- THE LAW: they are packed, where those rows stand there
pub own-packed : (I : List ℕ) (at : ℕ) (ls : List Own) (k : ℕ) (D : List ℕ) → row_numbers * (k + length ls) ≤ length D
    → read_own I (with_own at ls k D) k (length ls) ≡ map (λ l. l.rows) ls → PackedFrom at I (with_own at ls k D) k (length ls)
own-packed I at ls k D h e i g = own-starts at ls k D h i g ∙ ap (λ (x : List (List ℕ)). at + total (map length (take i x))) (sym e)
