-- The build over the live slots of a table: what an accepted call has, and two numbers that never come. Assumes nothing.
-- Holds: live-ascends, places-mem, SlotsAccepted, slots-accepted, slots-covered, never, slots-never-7, live-most, own_tests,
--   own-wrong, slots-never-8
use mathlib.Core.Path.{◌≡◌, refl, sym}
use mathlib.Core.Bool.{Bool, true, false, ◌||◌, cond}
use mathlib.Core.List.{List, [], ◌∷◌, map, Memᴰ}
use Prim.Native.Nat.{ℕ, suc, ◌+◌, ◌*◌, ◌≤◌, ◌<◌}
use native.Mathlib.Omega.{arith}
use native.Mathlib.Nat.{mul-le-mul_right, suc-mul}
use borrow.Author.Tests.{ltb-false, le-ltb, not-false}
use lib.ListN.{length, get_or}
use lib.Ieee.{Float, nan}
use lib.Ieee.Scale.{finite}
use Rattle.lists.specs.Lists.{from}
use Rattle.lists.specs.Ascends.{All, Ascends}
use Rattle.lists.proofs.Tests.{clash, or-none}
use Rattle.lists.proofs.All.{all-of}
use Rattle.lists.proofs.Ascends.{ascends-from, ascends-keep}
use Rattle.lists.proofs.From.{mem-from}
use Rattle.lists.proofs.Members.{none_any, mem-joined, mem-map}
use Rattle.definition.specs.Tree.{Settings}
use Rattle.definition.specs.Packed.{BuildSizes, build_stated}
use Rattle.definition.specs.Refusals.{Test, accepted, refused, on, verdict, most_points, wrong_dimension_lem, build_short, build_tests}
use Rattle.definition.specs.Outcome.{number_of}
use Rattle.definition.specs.Table.{Head, Table, capacity, live_slots_lem, unsound, coordinates_short}
use Rattle.definition.specs.Slots.{places_of_rows, bad_at, rows_not_finite, rows_of, slots_verdict}
use Rattle.definition_laws.proofs.Accepted.{passes, decides, Passed, passed, LentEnough, lent-enough}
use Rattle.rows.specs.Rows.{GoodRow, GoodRows}
use Rattle.table_laws.proofs.Live.{Sound, SoundTable, sound-table, live-mem, live-few}

-- ---- the rows of the build
pub live-ascends : (t : Table) → Ascends (rows_of t)
unfolding live_slots_lem
live-ascends t = ascends-keep _ _ (ascends-from 0 t.head.slots)

-- each coordinate of a row stands at one of the places
pub places-mem : (d : ℕ) (rows : List ℕ) (i a : ℕ) → Memᴰ i rows → a < d → Memᴰ (i * d + a) (places_of_rows d rows)
unfolding places_of_rows
places-mem d rows i a m h = mem-joined (map (λ i. from (i * d) d) rows) (mem-map (λ i. from (i * d) d) rows m) (mem-from (i * d) d (omega arith) (omega arith))

-- ---- an accepted call
pub record SlotsAccepted (s : Settings) (t : Table) (lent : BuildSizes) : Type 0 where
  pub sound : SoundTable t.head t.flags
  pub passes-all : Passed s t.head.live false (build_short lent (build_stated s.dimension t.head.live s.neighbours) || coordinates_short s.dimension t) (rows_not_finite s.dimension t.coordinates (rows_of t))
  pub many : length (rows_of t) ≡ t.head.live
  pub good : GoodRows s.dimension t.coordinates (rows_of t)
  pub enough : LentEnough lent (build_stated s.dimension t.head.live s.neighbours)

module _ (s : Settings) (t : Table) (lent : BuildSizes) where
  abbrev d : ℕ
  d = s.dimension

  abbrev cs : List Float
  cs = t.coordinates

  rows-good : SoundTable t.head t.flags → coordinates_short s.dimension t ≡ false → (rows_not_finite s.dimension t.coordinates (rows_of t)).holds ≡ false
      → GoodRows s.dimension t.coordinates (rows_of t)
  rows-good sound long none = record {
    ascends = live-ascends t;
    each = all-of (GoodRow d cs) (rows_of t) row;
    few = omega (arith, live-few t.head t.flags, sound.within);
  }
    where
      row : (i : ℕ) → Memᴰ i (rows_of t) → GoodRow d cs i
      row i m =
          let low : suc i ≤ capacity t.flags = omega (arith, (live-mem t.head t.flags i m).0, sound.within) in
          let lent : capacity t.flags * d ≤ length cs = ltb-false (length cs) (capacity t.flags * d) long in
          record {
            inside = omega (arith, mul-le-mul_right d low, suc-mul i d);
            finite_row = λ a h. not-false (finite (get_or cs (i * d + a) nan)) (none_any (bad_at cs) (places_of_rows d (rows_of t)) none (places-mem d (rows_of t) i a m h));
            small = omega arith;
          }

  pub slots-accepted : slots_verdict s t lent ≡ accepted → SlotsAccepted s t lent
  unfolding slots_verdict
  slots-accepted e =
      let first = passes _ _ e in
      let sound = sound-table t.head t.flags first.0 in
      let n = t.head.live in
      let p = passed s n false _ _ first.1 in
      let short = or-none (build_short lent (build_stated d n s.neighbours)) (coordinates_short d t) p.none-short in
      record {
        sound = sound;
        passes-all = p;
        many = sym sound.counted;
        good = rows-good sound short.1 p.judged-passes;
        enough = lent-enough lent (build_stated d n s.neighbours) short.0;
      }

  -- its coordinates reach to the capacity
  pub slots-covered : slots_verdict s t lent ≡ accepted → capacity t.flags * s.dimension ≤ length t.coordinates
  slots-covered e =
      let short = or-none (build_short lent (build_stated d t.head.live s.neighbours)) (coordinates_short d t) (slots-accepted e).passes-all.none-short in
      ltb-false (length cs) (capacity t.flags * d) short.1

-- ---- a number whose tests all fail never comes
pub never : (k : ℕ) (ts : List Test) → 1 ≤ k → All (λ (t : Test). (t.refusal.number ≡ k → t.holds ≡ false)) ts → number_of (verdict ts) ≡ k → ⊥
unfolding All verdict number_of
never k [] p h e = omega arith
never k (t ∷ ts) p h e = go t.holds refl e (never k ts p h.1)
  where
    go : (b : Bool) → t.holds ≡ b → number_of (cond b (refused t.refusal) (verdict ts)) ≡ k → (number_of (verdict ts) ≡ k → ⊥) → ⊥
    go true f n rest = clash f (h.0 n)
    go false f n rest = rest n

-- 7: no point of a table lacks a coordinate
pub slots-never-7 : (s : Settings) (t : Table) (lent : BuildSizes) → number_of (slots_verdict s t lent) ≡ 7 → ⊥
unfolding slots_verdict build_tests All
slots-never-7 s t lent e =
    never 7 _ (omega arith)
    (λ z. absurd (omega arith), (λ z. absurd (omega arith), (λ z. absurd (omega arith), (λ z. absurd (omega arith), (λ z. absurd (omega arith), (λ z. absurd (omega arith), (λ z. absurd (omega arith), (λ z. refl, (λ z. absurd (omega arith), (λ z. absurd (omega arith), (λ z. absurd (omega arith), (λ z. absurd (omega arith), tt))))))))))))
    e

-- 8: no more slots are live than the capacity, which is held to the most points
pub live-most : (h : Head) (flags : List ℕ) → unsound h flags ≡ false → h.live ≤ most_points
live-most h flags u = let sound = sound-table h flags u in omega (arith, sound.counted, live-few h flags, sound.within)

-- the build's own tests
abbrev pub own_tests : Settings → Table → BuildSizes → List Test
own_tests s t lent =
    build_tests s t.head.live false (build_short lent (build_stated s.dimension t.head.live s.neighbours) || coordinates_short s.dimension t)
    (rows_not_finite s.dimension t.coordinates (rows_of t))

-- 1 comes first of them
pub own-wrong : (s : Settings) (t : Table) (lent : BuildSizes) → wrong_dimension_lem s.dimension ≡ true → verdict (own_tests s t lent) ≡ refused (record { number = 1; place = 0 })
unfolding build_tests
own-wrong s t lent w = decides (on (wrong_dimension_lem s.dimension) 1) _ w

own-never-8 : (s : Settings) (t : Table) (lent : BuildSizes) → Sound t → number_of (verdict (own_tests s t lent)) ≡ 8 → ⊥
unfolding build_tests All
own-never-8 s t lent u e =
    never 8 (own_tests s t lent) (omega arith)
    (λ z. absurd (omega arith), (λ z. absurd (omega arith), (λ z. absurd (omega arith), (λ z. absurd (omega arith), (λ z. absurd (omega arith), (λ z. absurd (omega arith), (λ z. absurd (omega arith), (λ z. le-ltb most_points t.head.live (live-most t.head t.flags u), (λ z. absurd (omega arith), (λ z. absurd (omega arith), (λ z. absurd (omega arith), tt)))))))))))
    e

pub slots-never-8 : (s : Settings) (t : Table) (lent : BuildSizes) → number_of (slots_verdict s t lent) ≡ 8 → ⊥
unfolding slots_verdict verdict number_of
slots-never-8 s t lent e = go (unsound t.head t.flags) refl e
  where
    go : (b : Bool) → unsound t.head t.flags ≡ b → number_of (cond b (refused (record { number = 27; place = 0 })) (verdict (own_tests s t lent))) ≡ 8 → ⊥
    go true u n = omega arith
    go false u n = own-never-8 s t lent u n
