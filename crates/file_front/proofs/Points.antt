-- Point records one after the other: all of them stand whole and are finite where each one is. Assumes nothing.
-- Holds: bad, whole-inside, row_whole, row_finite, row_fails, points-pass, Passing, AllPass, passing-start, passing-end,
--   passing-broken, passing-inside, passing-bad, passing-next
use mathlib.Core.Path.{◌≡◌, refl, sym, ap, ap₂, ◌∙◌}
use mathlib.Core.Bool.{Bool, true, false, not, ◌&&◌, ◌||◌, and-false}
use Prim.Native.Nat.{ℕ, zero, suc, ◌+◌, ◌≤◌, ◌<◌}
use native.Mathlib.Nat.{suc-mul, zero-mul}
use native.Mathlib.Omega.{arith}
use mathlib.Core.List.{List, map}
use lib.ListN.{length, drop, length-drop}
use lib.Seq.{drop-drop}
use lib.Dec.{leb}
use lib.Ieee.{Float}
use lib.Ieee.Scale.{finite}
use borrow.Author.Tests.{leb-true}
use Rattle.lists.specs.Lists.{any_of, from, joined}
use Rattle.lists.proofs.Tests.{and-fst}
use Rattle.lists.proofs.Members.{any_append}
use Rattle.formats.specs.Bytes.{Mark, mark_size, marked_by, whole, floats_at}
use Rattle.formats.specs.Stream.{point_size_lem}
use Rattle.stored.specs.File.{file_point_mark}
use Rattle.stored.specs.Stored.{head_size}
use Rattle.tree_tests.specs.Whole.{points_whole}
use Rattle.bytes_in.proofs.Turns.{none-tested, none_more, one_found}
use Rattle.file_front.specs.Fronts.{point_place, row_at, points_at}

-- a coordinate that is infinite or not a number
abbrev pub bad : Float → Bool
bad x = not (finite x)

-- a whole record ends inside the bytes
pub whole-inside : (m : Mark) (size at : ℕ) (bs : List ℕ) → at ≤ length bs → whole m size (drop at bs) ≡ true → at + size ≤ length bs
whole-inside m size at bs h w =
    let g = leb-true size (length (drop at bs)) (and-fst (leb size (length (drop at bs))) (marked_by m (drop at bs)) w) in
    omega (arith, length-drop at bs)

-- one row and the rows after it
row_more : (a p x y f : Bool) → p && not y ≡ not f → a && p && not (x || y) ≡ not (not (a && not x) || f)
row_more true p true y f h = and-false p
row_more true p false y f h = h
row_more false p x y f h = refl

module _ (d : ℕ) (bs : List ℕ) where
  -- the record of row i stands whole, and its coordinates are finite
  abbrev pub row_whole : ℕ → Bool
  row_whole i = whole file_point_mark (point_size_lem d) (drop (point_place d i) bs)

  abbrev pub row_finite : ℕ → Bool
  row_finite i = not (any_of bad (row_at d bs i))

  abbrev pub row_fails : ℕ → Bool
  row_fails i = not (row_whole i && row_finite i)

  -- n rows from row k on
  pass-from : (n k : ℕ) → points_whole d n (drop (point_place d k) bs) && not (any_of bad (joined (map (row_at d bs) (from k n)))) ≡ not (any_of row_fails (from k n))
  unfolding points_whole any_of joined from
  pass-from zero k = refl
  pass-from (suc n) k =
      let next : point_place d k + point_size_lem d ≡ point_place d (suc k) = omega (arith, suc-mul k (point_size_lem d)) in
      rw (drop-drop (point_size_lem d) (point_place d k) bs, next, any_append bad (row_at d bs k) (joined (map (row_at d bs) (from (suc k) n))))
      (row_more (row_whole k) (points_whole d n (drop (point_place d (suc k)) bs)) (any_of bad (row_at d bs k)) (any_of bad (joined (map (row_at d bs) (from (suc k) n))))
      (any_of row_fails (from (suc k) n)) (pass-from n (suc k)))

  -- all rows
  pub points-pass : (n : ℕ) → points_whole d n (drop head_size bs) && not (any_of bad (points_at d n bs)) ≡ not (any_of row_fails (from 0 n))
  points-pass n =
      let start : point_place d 0 ≡ head_size = omega (arith, zero-mul (point_size_lem d)) in
      ap (λ (k : ℕ). points_whole d n (drop k bs) && not (any_of bad (points_at d n bs))) (sym start) ∙ pass-from n 0

-- ---- one row after the other

-- before row i: the rows before it pass
pub record Passing (d : ℕ) (bs : List ℕ) (i : ℕ) : Type 0 where
  pub inside : point_place d i ≤ length bs
  pub pass : any_of (row_fails d bs) (from 0 i) ≡ false

-- what the rows come to
abbrev pub AllPass : ℕ → List ℕ → ℕ → Bool → Type 0
AllPass d bs n r = r ≡ points_whole d n (drop head_size bs) && not (any_of bad (points_at d n bs))

pub passing-start : (d : ℕ) (bs : List ℕ) → head_size ≤ length bs → Passing d bs 0
passing-start d bs h = record { inside = omega (arith, zero-mul (point_size_lem d), h); pass = none-tested (row_fails d bs) }

pub passing-end : {d i : ℕ} {bs : List ℕ} → Passing d bs i → (n : ℕ) → i ≡ n → AllPass d bs n true
passing-end {d} {i} {bs} s n e = sym (points-pass d bs n ∙ ap not (ap (λ (k : ℕ). any_of (row_fails d bs) (from 0 k)) (sym e) ∙ s.pass))

-- the record of row i begins at `at`
module _ {d i : ℕ} {bs : List ℕ} (s : Passing d bs i) (at : ℕ) (place : at ≡ point_place d i) (size : ℕ) (e : size ≡ point_size_lem d) (stands : Bool)
    (f : stands ≡ whole file_point_mark size (drop at bs)) where
  stands-is : stands ≡ row_whole d bs i
  stands-is = f ∙ rw (e, place)

  found : (n : ℕ) → i < n → row_fails d bs i ≡ true → AllPass d bs n false
  found n h g = sym (points-pass d bs n ∙ ap not (one_found (row_fails d bs) n i h g))

  pub passing-broken : (n : ℕ) → i < n → stands ≡ false → AllPass d bs n false
  passing-broken n h g = found n h (ap (λ (b : Bool). not (b && row_finite d bs i)) (sym stands-is ∙ g))

  module _ (t : stands ≡ true) where
    -- the record ends inside the bytes
    pub passing-inside : at + size ≤ length bs
    passing-inside = whole-inside file_point_mark size at bs (omega (arith, s.inside, place)) (sym f ∙ t)

    module _ (known : Bool) (g : known ≡ not (any_of bad (floats_at d (at + mark_size) bs))) where
      known_is : known ≡ row_finite d bs i
      known_is = g ∙ rw place

      pub passing-bad : (n : ℕ) → i < n → known ≡ false → AllPass d bs n false
      passing-bad n h k = found n h (ap₂ (λ (a b : Bool). not (a && b)) (sym stands-is ∙ t) (sym known_is ∙ k))

      pub passing-next : known ≡ true → Passing d bs (i + 1)
      passing-next k =
          record {
            inside = omega (arith, passing-inside, place, e, suc-mul i (point_size_lem d));
            pass = none_more (row_fails d bs) i s.pass (ap₂ (λ (a b : Bool). not (a && b)) (sym stands-is ∙ t) (sym known_is ∙ k));
          }
