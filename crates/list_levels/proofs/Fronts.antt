-- Fronts of lists: what leads a list, all of its counts, and the rows of levels that are read one after the other. Assumes nothing.
-- Holds: front-leads, leads-front, whole-count, points-joined
use mathlib.Core.Path.{◌≡◌, sym, ap, ◌∙◌}
use mathlib.Core.Bool.{true}
use mathlib.Core.List.{List, ◌++◌}
use Prim.Native.Nat.{ℕ, zero, suc}
use native.Mathlib.Nat.{zero-add}
use lib.ListN.{length, get_or, take, drop, take-append-drop}
use lib.Seq.{take-append_seam}
use Rattle.lists.specs.Lists.{total, from, joined, part}
use Rattle.lists.proofs.Sums.{total-more}
use Rattle.lists.proofs.Put.{part-append, part-nil}
use Rattle.definition.specs.Packed.{Counts, packed_level_points}
use Rattle.packed.specs.Reading.{Packed, up_to, read_level}
use Rattle.stored.specs.Outcome.{leads}
use Rattle.tree_tests.proofs.AllRows.{same-is, same_self}
use Rattle.list_levels.proofs.Levels.{levels_held, counts_from_lem, counts-from}

-- ---- numbers that lead a list
pub front-leads : (xs l : List ℕ) (k : ℕ) → xs ≡ part l 0 k → leads xs l ≡ true
unfolding part
front-leads xs l k e =
    let w : l ≡ xs ++ drop k l = sym (take-append-drop k l) ∙ ap (λ (ys : List ℕ). ys ++ drop k l) (sym e) in
    let f : take (length xs) l ≡ xs = ap (take (length xs)) w ∙ take-append_seam xs (drop k l) in
    rw f (same_self xs)

pub leads-front : (xs l : List ℕ) → leads xs l ≡ true → xs ≡ part l 0 (length xs)
unfolding part
leads-front xs l h = same-is xs (take (length xs) l) h

-- ---- all counts
pub whole-count : (counts : List ℕ) (k : ℕ) → up_to counts k ≡ counts_from_lem counts 0 k
unfolding total
whole-count counts k = ap (up_to counts) (sym (zero-add k)) ∙ sym (counts-from counts k 0) ∙ zero-add (counts_from_lem counts 0 k)

-- ---- the rows of the levels stand one after the other
module _ (p : Packed) (level_points : List ℕ) (c : Counts) where
  pub points-joined : (k l : ℕ) → packed_level_points (levels_held p level_points c l k) ≡ part level_points (up_to c.rows l) (counts_from_lem c.rows l k)
  unfolding packed_level_points counts_from_lem from total joined read_level
  points-joined zero l = sym (part-nil level_points (up_to c.rows l))
  points-joined (suc k) l =
      let a = up_to c.rows l in
      let rows = get_or c.rows l 0 in
      ap (λ (xs : List ℕ). part level_points a rows ++ xs) (points-joined k (suc l) ∙ ap (λ (i : ℕ). part level_points i (counts_from_lem c.rows (suc l) k)) (total-more c.rows l))
      ∙ part-append level_points a rows (counts_from_lem c.rows (suc l) k)
