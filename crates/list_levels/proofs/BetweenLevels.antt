-- The loop over the levels: what holds between two of them, at the start, and at each end. Assumes nothing.
-- Holds: BetweenLevels, between_start, between-end, next-ready, between-out, between_next
use Rattle.std.specs.Prelude.{Option, Some, None, is_some}
use mathlib.Core.Path.{◌≡◌, refl, sym, ap, ap₂, ◌∙◌}
use mathlib.Core.Bool.{Bool, true, ◌&&◌, and_assoc}
use mathlib.Core.List.{List}
use Prim.Native.Nat.{ℕ, suc, ◌+◌, ◌-◌, ◌*◌, ◌≤◌, ◌<◌}
use native.Mathlib.Nat.{zero-add, sub-zero, suc-mul, mul-le-mul_right}
use native.Mathlib.Numerals.{add-one}
use native.Mathlib.Omega.{arith}
use borrow.Author.Tests.{leb-true, eqb-true, eq-eqb}
use lib.Dec.{leb, ltb, eqb}
use lib.ListN.{length, get_or}
use Rattle.lists.specs.Lists.{total, part}
use Rattle.lists.proofs.Tests.{and-snd, same_test, three-pass}
use Rattle.lists.proofs.Sums.{total-more}
use Rattle.definition.specs.Packed.{Counts, row_numbers, most_rows}
use Rattle.packed.specs.Reading.{Packed, up_to, points_at}
use Rattle.tree_tests.specs.InTurn.{among}
use Rattle.marks.specs.Bits.{Marked}
use Rattle.list_domains.specs.InLists.{borrowed_end}
use Rattle.list_domains.proofs.AsPacked.{end-append, borrowed_end_is}
use Rattle.list_levels.specs.InLists.{count_fits_lem, one_only, held_level_passes, held_levels_pass}
use Rattle.list_levels.specs.Passed.{LevelsReady, NextReady, NextPassed, LevelsPassed}
use Rattle.list_domains.specs.declared.ListsPassed.{ListsPassed}
use Rattle.list_levels.proofs.OneLevel.{LevelHeld, level-held}
use Rattle.list_levels.proofs.Levels.{count_most, none-behind}

-- before the level number t: those before it passed, and the rest decides under the set of rows that is listed now
pub record BetweenLevels (l : Packed) (level_points : List ℕ) (c : Counts) (n most : ℕ) (listed : List ℕ) (t above : ℕ) (done : ListsPassed) : Type 0 where
  pub bound : t ≤ c.levels
  pub rows_are : done.rows ≡ up_to c.rows t
  pub domains-are : done.domains ≡ up_to c.domains t
  pub borrowed_are : done.borrowed ≡ borrowed_end l.domains 0 0 (up_to c.domains t)
  pub room : done.rows + (c.levels - t) * n ≤ 4 * n
  pub few : done.domains ≤ most_rows n
  pub low : done.borrowed ≤ most
  pub fewer : above ≤ n
  pub set : ℕ → Bool
  pub marked : Marked listed set
  pub same : held_levels_pass l level_points c n most 0 n (λ i. ltb i n) 0 c.levels ≡ held_levels_pass l level_points c n most t above set done.borrowed (c.levels - t)

-- the level number t, and those behind it
module _ (l : Packed) (level_points : List ℕ) (c : Counts) (n most t above : ℕ) (set : ℕ → Bool) (b k : ℕ) where
  abbrev here : Bool
  here =
      count_fits_lem t n above (get_or c.rows t 0) && (one_only (eqb k 0) (get_or c.domains t 0) && leb (get_or c.domains t 0) (most_rows n - up_to c.domains t))
      && held_level_passes (eqb k 0) l level_points most set (up_to c.domains t) (up_to c.rows t) b (get_or c.rows t 0) (get_or c.domains t 0)

  abbrev behind : Bool
  behind =
      held_levels_pass l level_points c n most (suc t) (get_or c.rows t 0) (among (points_at level_points c.rows t)) (borrowed_end l.domains (up_to c.domains t) b (get_or c.domains t 0)) k

  both : held_levels_pass l level_points c n most t above set b (suc k) ≡ here && behind
  unfolding held_levels_pass
  both =
      rw (and_assoc (count_fits_lem t n above (get_or c.rows t 0)) (one_only (eqb k 0) (get_or c.domains t 0)) (leb (get_or c.domains t 0) (most_rows n - up_to c.domains t)))

module _ {l : Packed} {level_points : List ℕ} {c : Counts} {n most : ℕ} {listed₀ : List ℕ} (ready : LevelsReady l level_points c n most listed₀) where
  pub between_start : BetweenLevels l level_points c n most listed₀ 0 n (record { rows = 0; domains = 0; borrowed = 0 })
  unfolding total borrowed_end
  between_start =
      record {
        bound = omega arith;
        rows_are = refl;
        domains-are = refl;
        borrowed_are = refl;
        room = rw (zero-add ((c.levels - 0) * n), sub-zero c.levels) (mul-le-mul_right n ready.few);
        few = omega arith;
        low = omega arith;
        fewer = omega arith;
        set = λ i. ltb i n;
        marked = ready.all;
        same = rw (sub-zero c.levels);
      }

  module _ {listed : List ℕ} {t above : ℕ} {done : ListsPassed} (h : BetweenLevels l level_points c n most listed t above done) where
    -- ---- all levels passed
    pub between-end : c.levels ≤ t → LevelsPassed l level_points c n most (Some done)
    between-end g =
        let z : c.levels - t ≡ 0 = omega arith in
        let e : t ≡ c.levels = omega (arith, h.bound) in
        record {
          passed = sym (h.same ∙ rw z (none-behind l level_points c n most t above h.set done.borrowed));
          rows = h.rows_are ∙ ap (up_to c.rows) e;
          domains = h.domains-are ∙ ap (up_to c.domains) e;
          borrowed = h.borrowed_are ∙ ap (λ (x : ℕ). borrowed_end l.domains 0 0 (up_to c.domains x)) e;
        }

    -- ---- the level number t
    module _ (lt : t < c.levels) where
      abbrev after : ℕ
      after = c.levels - (t + 1)

      count : c.levels - t ≡ suc after
      count = omega arith

      room-here : done.rows + n ≤ 4 * n
      room-here = omega (arith, h.room, ap (λ (x : ℕ). x * n) count ∙ suc-mul after n)

      pub next-ready : NextReady l level_points n most above done
      next-ready =
          record {
            axes = ready.axes;
            many = ready.many;
            long = ready.long;
            room = room-here;
            domains = h.few;
            borrowed = h.low;
            fewer = h.fewer;
          }

      last-is : eqb (t + 1) c.levels ≡ eqb after 0
      last-is =
          same_test (eqb (t + 1) c.levels) (eqb after 0) (λ e. eq-eqb after 0 (omega (arith, eqb-true (t + 1) c.levels e)))
          (λ e. eq-eqb (t + 1) c.levels (omega (arith, eqb-true after 0 e)))

      module _ (listed' : List ℕ) (rows m : ℕ) (rows_is : rows ≡ get_or c.rows t 0) (m-is : m ≡ get_or c.domains t 0) where
        here-is : {r : Option ListsPassed} → NextPassed (eqb (t + 1) c.levels) l level_points n most t above rows m done listed listed' r → (s : ℕ → Bool) → Marked listed s
            → is_some r ≡ here l level_points c n most t above s done.borrowed after
        here-is d s k = d.passed s k ∙ rw (last-is, rows_is, m-is, h.rows_are, h.domains-are)

        pub between-out : NextPassed (eqb (t + 1) c.levels) l level_points n most t above rows m done listed listed' None → LevelsPassed l level_points c n most None
        between-out d =
            record {
              passed = sym (h.same ∙ rw count (both l level_points c n most t above h.set done.borrowed after ∙ rw (← here-is d h.set h.marked)));
              rows = tt;
              domains = tt;
              borrowed = tt;
            }

        module _ (r : ListsPassed) (d : NextPassed (eqb (t + 1) c.levels) l level_points n most t above rows m done listed listed' (Some r)) where
          tests : (count_fits_lem t n above rows ≡ true) × (one_only (eqb (t + 1) c.levels) m && leb m (most_rows n - done.domains) ≡ true)
              × (held_level_passes (eqb (t + 1) c.levels) l level_points most h.set done.domains done.rows done.borrowed rows m ≡ true)
          tests =
              three-pass (count_fits_lem t n above rows) (one_only (eqb (t + 1) c.levels) m && leb m (most_rows n - done.domains))
              (held_level_passes (eqb (t + 1) c.levels) l level_points most h.set done.domains done.rows done.borrowed rows m) (sym (d.passed h.set h.marked))

          rows-most : rows ≤ n
          rows-most = count_most t n above rows h.fewer tests.0

          domains-most : done.domains + m ≤ most_rows n
          domains-most =
              omega (arith, h.few, leb-true m (most_rows n - done.domains) (and-snd (one_only (eqb (t + 1) c.levels) m) (leb m (most_rows n - done.domains)) tests.1))

          fit : row_numbers * (done.domains + m) ≤ length l.domains
          fit = omega (arith, domains-most, ready.long.domains)

          level : LevelHeld (eqb (t + 1) c.levels) l level_points most (count_fits_lem t n above) h.set done.domains done.rows done.borrowed rows m
          level =
              level-held (eqb (t + 1) c.levels) l level_points most (count_fits_lem t n above) h.set done.domains done.rows done.borrowed rows m ready.long.borrowed fit
              (omega (arith, rows-most, room-here, ready.long.points)) (omega (arith, rows-most, room-here, ready.long.internals)) h.low tests.0 tests.2

          end-most : r.borrowed ≤ most
          end-most = omega (arith, d.borrowed_on, borrowed_end_is l m done.domains done.rows done.borrowed fit level.packed, level.within)

          next-domains : done.domains + m ≡ up_to c.domains (t + 1)
          next-domains = rw (h.domains-are, m-is, add-one t) (sym (total-more c.domains t))

          next-rows : done.rows + rows ≡ up_to c.rows (t + 1)
          next-rows = rw (h.rows_are, rows_is, add-one t) (sym (total-more c.rows t))

          next-borrowed : r.borrowed ≡ borrowed_end l.domains 0 0 (up_to c.domains (t + 1))
          next-borrowed =
              d.borrowed_on ∙ ap₂ (λ (x y : ℕ). borrowed_end l.domains x y m) (sym (zero-add done.domains)) (h.borrowed_are ∙ ap (borrowed_end l.domains 0 0) (sym h.domains-are))
              ∙ sym (end-append l.domains done.domains m 0 0) ∙ ap (borrowed_end l.domains 0 0) next-domains

          pub between_next : BetweenLevels l level_points c n most listed' (t + 1) rows r
          between_next =
              record {
                bound = omega arith;
                rows_are = d.rows_on ∙ next-rows;
                domains-are = d.domains_on ∙ next-domains;
                borrowed_are = next-borrowed;
                room = omega (arith, h.room, rows-most, d.rows_on, ap (λ (x : ℕ). x * n) count ∙ suc-mul after n);
                few = omega (arith, domains-most, d.domains_on);
                low = end-most;
                fewer = rows-most;
                set = among (part level_points done.rows rows);
                marked = d.listed_now refl;
                same =
                    h.same ∙ rw count
                    (both l level_points c n most t above h.set done.borrowed after
                    ∙ rw (← here-is d h.set h.marked, add-one t, d.borrowed_on, h.rows_are, h.domains-are, rows_is, m-is));
              }
