-- The turns of the loops that note positions. Assumes nothing.
-- Holds: noted-all, NotedUpTo, noted-none, noted-fits, noted-leaf, noted-whole
use mathlib.Core.Path.{◌≡◌, refl, sym, ap, ap₂, ◌∙◌}
use mathlib.Core.List.{List, [], ◌++◌}
use Prim.Native.Nat.{ℕ, ◌+◌, ◌-◌, ◌≤◌, ◌<◌}
use native.Mathlib.Omega.{arith}
use native.Mathlib.Numerals.{add-one}
use borrow.Rule.Slice.PartMut.{put_mid}
use lib.ListN.{length, get_or, take, length-append}
use lib.Seq.{take-suc, take-length}
use Rattle.lists.specs.Lists.{joined, put}
use Rattle.lists.proofs.From.{list-below, map_at}
use Rattle.lists.proofs.Joined.{joined_snoc, length-joined, joined-fits}
use Rattle.lists.proofs.Put.{take-put-end, length-put, part-back}
use Rattle.lists.proofs.Same.{same_length}
use Rattle.packed.specs.Reading.{own_at, read_own}
use Rattle.packed.proofs.OwnRows.{read_length, read_at}
use Rattle.cut_index.specs.Filed.{position_in, positions_of}
use Rattle.cut_index.proofs.Positions.{positions-length, positions-append}
use Rattle.overlap_owners.specs.Own.{Leaves}

-- ---- row by row: each position was noted
pub noted-all : (active rows positions : List ℕ) → length positions ≡ length rows → ((j : ℕ) → j < length rows → get_or positions j 0 ≡ position_in active (get_or rows j 0))
    → positions ≡ positions_of active rows
unfolding positions_of
noted-all active rows positions e f =
    list-below (λ j. position_in active (get_or rows j 0)) positions (length rows) 0 e f ∙ sym (map_at (position_in active) rows 0)

-- ---- leaf by leaf

-- the positions of the rows of the first leaves stand at the front, up to `start`
pub record NotedUpTo (active I D : List ℕ) (first m leaf start : ℕ) (positions : List ℕ) : Type 0 where
  pub end : start ≡ length (joined (take leaf (read_own I D first m)))
  pub list : take start positions ≡ positions_of active (joined (take leaf (read_own I D first m)))
  pub long : length positions ≡ length active

module _ (active I D : List ℕ) (first m : ℕ) (L : Leaves active I D first m) where
  abbrev own : List (List ℕ)
  own = read_own I D first m

  whole : length (joined own) ≡ length active
  whole = same_length (joined own) active L.shared

  pub noted-none : (positions : List ℕ) → length positions ≡ length active → NotedUpTo active I D first m 0 0 positions
  unfolding joined positions_of
  noted-none positions e = record { end = refl; list = refl; long = e }

  module _ (leaf start : ℕ) (positions : List ℕ) (N : NotedUpTo active I D first m leaf start positions) (here : leaf < m) (rows : List ℕ) (is : rows ≡ own_at I D (first + leaf)) where
    many : leaf < length own
    many = omega (arith, read_length I D first m)

    at : get_or own leaf [] ≡ rows
    at = read_at I D first m leaf here ∙ sym is

    more : joined (take (leaf + 1) own) ≡ joined (take leaf own) ++ rows
    more =
        ap (λ (k : ℕ). joined (take k own)) (add-one leaf) ∙ ap joined (take-suc own leaf [] many) ∙ joined_snoc (take leaf own) (get_or own leaf [])
        ∙ ap (λ (l : List ℕ). joined (take leaf own) ++ l) at

    pub noted-fits : start + length rows ≤ length positions
    noted-fits =
        omega (arith, N.end, N.long, whole, length-joined (take leaf own), joined-fits own leaf many, ap length at)

    -- the positions of this leaf's rows came back
    pub noted-leaf : (new : List ℕ) → new ≡ positions_of active rows → NotedUpTo active I D first m (leaf + 1) (start + length rows) (put_mid start (start + length rows - start) positions new)
    noted-leaf new e =
        let n : length new ≡ length rows = ap length e ∙ positions-length active rows in
        let back : put_mid start (start + length rows - start) positions new ≡ put positions start new = part-back positions start (length rows) new n in
        rw back (record {
          end = omega (arith, N.end, ap length more, length-append (joined (take leaf own)) rows);
          list =
              ap (λ (k : ℕ). take (start + k) (put positions start new)) (sym n) ∙ take-put-end positions start new (omega (arith, noted-fits))
              ∙ ap₂ (λ (x y : List ℕ). x ++ y) N.list e ∙ sym (positions-append active (joined (take leaf own)) rows) ∙ ap (positions_of active) (sym more);
          long = length-put positions start new (omega (arith, noted-fits)) ∙ N.long;
        })

  pub noted-whole : (leaf start : ℕ) (positions : List ℕ) → leaf ≤ m → m ≤ leaf → NotedUpTo active I D first m leaf start positions → positions ≡ positions_of active (joined own)
  noted-whole leaf start positions h g N =
      let n = read_length I D first m in
      let e : leaf ≡ length own = omega arith in
      let all : take leaf own ≡ own = ap (λ (k : ℕ). take k own) e ∙ take-length own in
      let s : start ≡ length positions = omega (arith, N.end, N.long, whole, ap (λ (ls : List (List ℕ)). length (joined ls)) all) in
      sym (ap (λ (k : ℕ). take k positions) s ∙ take-length positions) ∙ N.list ∙ ap (λ (ls : List (List ℕ)). positions_of active (joined ls)) all
