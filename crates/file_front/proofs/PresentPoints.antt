-- The present points against those of a file, row by row. Assumes nothing.
-- Holds: SaysSame, front-parts, same-dimension, other-count, Comparing, comparing-start, comparing-end, comparing-listed,
--   comparing-inside, comparing-found, comparing-next
use mathlib.Core.Path.{◌≡◌, sym, ap, subst, ◌∙◌}
use mathlib.Core.Bool.{Bool, true, false, not, ◌&&◌}
use Prim.Native.Nat.{ℕ, suc, ◌+◌, ◌*◌, ◌/◌, ◌^◌, ◌≤◌, ◌<◌}
use native.Mathlib.Nat.{suc-mul, mul-le-mul_right, div-mul-le_self}
use native.Mathlib.Omega.{arith}
use mathlib.Core.List.{List}
use lib.ListN.{length, get_or, drop}
use lib.Ieee.{Float}
use borrow.Author.Tests.{eqb-true}
use Rattle.lists.specs.Lists.{any_of, from, part}
use Rattle.lists.proofs.Tests.{and-fst, three-pass}
use Rattle.definition.specs.Tree.{Settings, point_count}
use Rattle.formats.specs.Bytes.{field, mark_size, whole, float_size, floats_bytes}
use Rattle.formats.specs.Stream.{settings_size, settings_in, policy_fits_lem, point_size_lem}
use Rattle.stored.specs.File.{head_mark}
use Rattle.stored.specs.Sound.{same}
use Rattle.stored.specs.Stored.{head_size, count_in}
use Rattle.stored.specs.Outcome.{same_settings_lem, same_points_lem}
use Rattle.tree_tests.specs.Whole.{points_whole, front_whole}
use Rattle.bytes_in.proofs.Turns.{none-tested, none_more, one_found}
use Rattle.settings_record.proofs.Compared.{field-same, settings-same}
use Rattle.file_front.specs.Fronts.{point_place}
use Rattle.file_front.proofs.Tested.{head-inside, row-stands, rows_inside}
use Rattle.file_front.proofs.Compared.{row_differs, row_same, count-differs, rows-decide}

-- what the comparison says, for settings that are those of the file
abbrev pub SaysSame : ℕ → List Float → List ℕ → Bool → Type 0
SaysSame d cs bs r = (s : Settings) → s.dimension ≡ d → same_settings_lem s bs ≡ true → r ≡ same_points_lem s cs bs

-- the parts of a whole front
pub front-parts : (bs : List ℕ) → front_whole bs ≡ true → (whole head_mark head_size bs ≡ true) × (points_whole (settings_in bs).dimension (count_in bs) (drop head_size bs) ≡ true)
unfolding front_whole
front-parts bs h =
    let g = three-pass (whole head_mark head_size bs) (policy_fits_lem bs) (points_whole (settings_in bs).dimension (count_in bs) (drop head_size bs)) h in
    (g.0, g.2)

-- settings that are those of the file have its dimension
pub same-dimension : (s : Settings) (bs : List ℕ) → settings_size ≤ length bs → s.dimension < 256 → ((k : ℕ) → get_or bs k 0 < 256) → same_settings_lem s bs ≡ true → (settings_in bs).dimension ≡ s.dimension
unfolding settings_in
same-dimension s bs long small bytes h =
    let first = five-first _ _ _ _ _ (sym (settings-same s bs long) ∙ h) in
    sym (eqb-true s.dimension (field 1 mark_size bs) (field-same 1 s.dimension mark_size bs small (omega arith) bytes ∙ first))
  where
    five-first : (a b c e f : Bool) → a && b && c && e && f ≡ true → a ≡ true
    five-first a b c e f t = and-fst a b (and-fst (a && b) c (and-fst (a && b && c) e (and-fst (a && b && c && e) f t)))

module _ (d : ℕ) (cs : List Float) (bs : List ℕ) (front : front_whole bs ≡ true) (bytes : (i : ℕ) → get_or bs i 0 < 256) (few : point_count d cs < 2 ^ 32) where
  few-at : (s : Settings) → s.dimension ≡ d → point_count s.dimension cs < 2 ^ 32
  few-at s e = subst (λ (k : ℕ). length cs / k < 2 ^ 32) (sym e) few

  pub other-count : (point_count d cs ≡ count_in bs → ⊥) → SaysSame d cs bs false
  other-count h s e t =
      count-differs s bs (front-parts bs front).0 t bytes cs (few-at s e) (λ q. h (ap (λ (k : ℕ). length cs / k) (sym e) ∙ q))

  rows-say : (b : Bool) → point_count d cs ≡ count_in bs → point_place d (point_count d cs) ≤ length bs → any_of (row_differs d cs bs) (from 0 (point_count d cs)) ≡ b → SaysSame d cs bs (not b)
  rows-say b h g a s e t =
      sym
      (rows-decide s bs (front-parts bs front).0 t bytes cs (few-at s e) (ap (λ (k : ℕ). length cs / k) e ∙ h) (subst (λ (k : ℕ). point_place k (length cs / k) ≤ length bs) (sym e) g)
      ∙ ap (λ (k : ℕ). not (any_of (row_differs k cs bs) (from 0 (length cs / k)))) e ∙ ap not a)

-- ---- one row after the other

-- before row i of the n rows that both have: the rows before it agree
pub record Comparing (d : ℕ) (cs : List Float) (bs : List ℕ) (n i : ℕ) : Type 0 where
  pub front : front_whole bs ≡ true
  pub axes : (settings_in bs).dimension ≡ d
  pub bytes : (k : ℕ) → get_or bs k 0 < 256
  pub few : point_count d cs < 2 ^ 32
  pub mine : point_count d cs ≡ n
  pub its : n ≡ count_in bs
  pub agree : any_of (row_differs d cs bs) (from 0 i) ≡ false

pub comparing-start : {d n : ℕ} {cs : List Float} {bs : List ℕ} → front_whole bs ≡ true → (settings_in bs).dimension ≡ d → ((k : ℕ) → get_or bs k 0 < 256) → point_count d cs < 2 ^ 32
    → point_count d cs ≡ n → n ≡ count_in bs → Comparing d cs bs n 0
comparing-start {d} {n} {cs} {bs} front axes bytes few mine its =
    record { front = front; axes = axes; bytes = bytes; few = few; mine = mine; its = its; agree = none-tested (row_differs d cs bs) }

module _ {d n i : ℕ} {cs : List Float} {bs : List ℕ} (t : Comparing d cs bs n i) where
  stand : points_whole d n (drop head_size bs) ≡ true
  stand = rw (← t.axes, t.its) (front-parts bs t.front).1

  place_inside : (k : ℕ) → k ≤ n → point_place d k ≤ length bs
  place_inside = rows_inside d n bs stand (head-inside bs (front-parts bs t.front).0)

  said : (b : Bool) → any_of (row_differs d cs bs) (from 0 n) ≡ b → SaysSame d cs bs (not b)
  said b a = rows-say d cs bs t.front t.bytes t.few b (t.mine ∙ t.its) (rw t.mine (place_inside n (omega arith))) (rw t.mine a)

  pub comparing-end : i ≡ n → SaysSame d cs bs true
  comparing-end e = said false (rw (← e) t.agree)

  module _ (l : i < n) where
    -- the row is in the list, and its record in the bytes
    pub comparing-listed : i * d + d ≤ length cs
    comparing-listed =
        let h : suc i ≤ length cs / d = omega (arith, t.mine) in
        omega (arith, suc-mul i d, mul-le-mul_right d h, div-mul-le_self (length cs) d)

    pub comparing-inside : point_place d i + point_size_lem d ≤ length bs
    comparing-inside = omega (arith, place_inside (suc i) l, suc-mul i (point_size_lem d))

    -- its floats decide
    module _ (r : Bool) (e : r ≡ same (floats_bytes (part cs (i * d) d)) (part bs (point_place d i + mark_size) (float_size * d))) where
      told : row_differs d cs bs i ≡ not r
      told = ap not (sym (e ∙ row_same d cs bs i comparing-listed (omega (arith, comparing-inside)) (row-stands d n bs stand i l)))

      pub comparing-found : r ≡ false → SaysSame d cs bs false
      comparing-found f = said true (one_found (row_differs d cs bs) n i l (told ∙ ap not f))

      pub comparing-next : r ≡ true → Comparing d cs bs n (i + 1)
      comparing-next f =
          record {
            front = t.front;
            axes = t.axes;
            bytes = t.bytes;
            few = t.few;
            mine = t.mine;
            its = t.its;
            agree = none_more (row_differs d cs bs) i t.agree (told ∙ ap not f);
          }
