-- Positions of rows in an ascending list: they rise with the rows, and those of all its rows are the numbers from 0 on. Assumes nothing.
-- Holds: position_at, position-of, position-rises, positions-length, positions-append, positions-count, first-least,
--   positions-part, positions-leaf, positions-all, positions-same
use mathlib.Core.Path.{◌≡◌, refl, sym, ap, ◌∙◌}
use mathlib.Core.Bool.{Bool}
use mathlib.Core.List.{List, [], ◌∷◌, ◌++◌, map, map-append, map-id, append-nil}
use Prim.Native.Nat.{ℕ, zero, suc, ◌+◌, ◌≤◌, ◌<◌}
use native.Mathlib.Omega.{arith}
use borrow.Author.Tests.{lt-ltb, le-ltb, ltb-true}
use lib.Dec.{ltb}
use lib.ListN.{length, get_or, take, drop, length-map}
use Rattle.lists.specs.Lists.{one_if, count, from, joined, part, total}
use Rattle.lists.specs.Ascends.{All, Ascends}
use Rattle.lists.specs.Same.{Same}
use Rattle.lists.proofs.All.{all-at, all-mem, all-of, all_map}
use Rattle.lists.proofs.Count.{count_none, count-le, count_map}
use Rattle.lists.proofs.Map.{take-map}
use Rattle.lists.proofs.From.{map-below-same, map_at}
use Rattle.lists.proofs.Joined.{joined_at}
use Rattle.cut_index.specs.Filed.{position_in, positions_of}

-- ---- one position
pub position_at : (active : List ℕ) → Ascends active → (p : ℕ) → p < length active → position_in active (get_or active p 0) ≡ p
unfolding position_in count Ascends
position_at [] up p h = absurd (omega arith)
position_at (x ∷ l) up zero h =
    let none : count (λ j. ltb j x) l ≡ 0 = count_none (λ j. ltb j x) l (λ j m. let b = all-mem (λ y. x < y) l up.0 j m in le-ltb j x (omega arith)) in
    ap (λ (b : Bool). one_if b + count (λ j. ltb j x) l) (le-ltb x x (omega arith)) ∙ omega (arith, none)
position_at (x ∷ l) up (suc p) h =
    let b : x < get_or l p 0 = all-at (λ y. x < y) l p 0 up.0 (omega arith) in
    ap (λ (c : Bool). one_if c + count (λ j. ltb j (get_or l p 0)) l) (lt-ltb x (get_or l p 0) b) ∙ omega (arith, position_at l up.1 p (omega arith))

-- the position of an active row is the one where it stands
pub position-of : (active : List ℕ) → Ascends active → (row p : ℕ) → p < length active → get_or active p 0 ≡ row → position_in active row ≡ p
position-of active up row p h e = ap (position_in active) (sym e) ∙ position_at active up p h

-- of two rows, the lower one has no higher position
pub position-rises : (active : List ℕ) (x y : ℕ) → x ≤ y → position_in active x ≤ position_in active y
unfolding position_in
position-rises active x y h =
    count-le (λ j. ltb j x) (λ j. ltb j y) active (λ j m t. let b = ltb-true j x t in lt-ltb j y (omega arith))

-- ---- the positions of rows
pub positions-length : (active rows : List ℕ) → length (positions_of active rows) ≡ length rows
unfolding positions_of
positions-length active rows = length-map rows (position_in active)

pub positions-append : (active xs ys : List ℕ) → positions_of active (xs ++ ys) ≡ positions_of active xs ++ positions_of active ys
unfolding positions_of
positions-append active xs ys = map-append (position_in active) xs ys

pub positions-count : (active : List ℕ) (p : ℕ → Bool) (rows : List ℕ) → count p (positions_of active rows) ≡ count (λ r. p (position_in active r)) rows
unfolding positions_of
positions-count active p rows = count_map (position_in active) p rows

-- the first row of ascending rows has the least position
pub first-least : (active : List ℕ) (x : ℕ) (xs : List ℕ) → Ascends (x ∷ xs) → All (λ p. position_in active x ≤ p) (positions_of active (x ∷ xs))
unfolding positions_of Ascends All
first-least active x xs up = (
  omega arith,
  all_map (λ p. position_in active x ≤ p) (position_in active) xs
      (all-of (λ y. position_in active x ≤ position_in active y) xs (λ y m. let b = all-mem (λ z. x < z) xs up.0 y m in position-rises active x y (omega arith))),
)

-- those of a stretch are a stretch of them
pub positions-part : (active rows : List ℕ) (at n : ℕ) → part (positions_of active rows) at n ≡ positions_of active (part rows at n)
unfolding positions_of part
positions-part active rows at n = ap (take n) (drop-map at rows) ∙ take-map (position_in active) n (drop at rows)
  where
    drop-map : (k : ℕ) (l : List ℕ) → drop k (map (position_in active) l) ≡ map (position_in active) (drop k l)
    drop-map zero l = refl
    drop-map (suc k) [] = refl
    drop-map (suc k) (x ∷ l) = drop-map k l

-- of the rows of all leaves, leaf by leaf, those of one leaf
pub positions-leaf : (active : List ℕ) (own : List (List ℕ)) (l : ℕ) → l < length own
    → part (positions_of active (joined own)) (total (map length (take l own))) (length (get_or own l [])) ≡ positions_of active (get_or own l [])
positions-leaf active own l h =
    positions-part active (joined own) (total (map length (take l own))) (length (get_or own l []))
    ∙ ap (positions_of active)
    (ap (λ (z : List ℕ). part z (total (map length (take l own))) (length (get_or own l []))) (sym (append-nil (joined own))) ∙ joined_at own [] l h)

-- ---- all positions
pub positions-all : (active : List ℕ) → Ascends active → positions_of active active ≡ from 0 (length active)
unfolding positions_of
positions-all active up =
    map_at (position_in active) active 0
    ∙ map-below-same (λ i. position_in active (get_or active i 0)) (λ i. i) (length active) (λ i h. position_at active up i h)
    ∙ map-id (from 0 (length active))

-- THE LAW: the positions of rows that are the active ones in some order are the numbers from 0 on in some order
pub positions-same : (active rows : List ℕ) → Ascends active → Same rows active → Same (positions_of active rows) (from 0 (length active))
positions-same active rows up s p =
    positions-count active p rows ∙ s (λ r. p (position_in active r)) ∙ sym (positions-count active p active) ∙ ap (count p) (positions-all active up)
