-- One level more: its counts, the level itself, and the totals with it. Assumes nothing.
-- Holds: domains-off, rows-most, domains-most, level-ready, level-out, level-on
use Rattle.std.specs.Prelude.{Some, None}
use mathlib.Core.Path.{◌≡◌, refl, sym, ◌∙◌}
use mathlib.Core.Bool.{Bool, true, false, ◌&&◌, and-false}
use mathlib.Core.List.{List}
use Prim.Native.Nat.{ℕ, ◌+◌, ◌-◌, ◌≤◌}
use native.Mathlib.Nat.{le_trans, mul-le-mul_left}
use native.Mathlib.Omega.{arith}
use borrow.Author.Tests.{leb-true}
use lib.Dec.{leb}
use Rattle.lists.proofs.Tests.{clash, and-snd}
use Rattle.definition.specs.Packed.{row_floats_lem, most_rows}
use Rattle.packed.specs.Reading.{Packed}
use Rattle.marks.specs.Bits.{Marked}
use Rattle.list_levels.specs.InLists.{count_fits_lem, one_only, held_level_passes}
use Rattle.list_levels.specs.Passed.{LevelReady, NextReady, LevelPassed, NextPassed}
use Rattle.list_domains.specs.declared.ListsPassed.{ListsPassed}
use Rattle.list_levels.proofs.Levels.{count_most}

-- what is said where the level does not pass: nothing of the sets
no-level : {coarse : Bool} {l : Packed} {level_points : List ℕ} {n most t above rows m : ℕ} {done : ListsPassed} {listed₀ : List ℕ} (listed : List ℕ)
    → ((set : ℕ → Bool) → Marked listed₀ set → false
    ≡ (count_fits_lem t n above rows && (one_only coarse m && leb m (most_rows n - done.domains)) && held_level_passes coarse l level_points most set done.domains done.rows done.borrowed rows m))
    → NextPassed coarse l level_points n most t above rows m done listed₀ listed None
no-level listed h =
    record {
      passed = h;
      rows_on = tt;
      domains_on = tt;
      borrowed_on = tt;
      listed_now = λ g. clash g refl;
    }

module _ (coarse : Bool) (l : Packed) (level_points : List ℕ) (n most t above rows m : ℕ) (done : ListsPassed) (listed₀ : List ℕ)
    (ready : NextReady l level_points n most above done) (x : Bool) (count : x ≡ count_fits_lem t n above rows) where
  module _ (y : Bool) (domains : y ≡ (one_only coarse m && leb m (most_rows n - done.domains))) where
    pub domains-off : y ≡ false → (listed : List ℕ) → NextPassed coarse l level_points n most t above rows m done listed₀ listed None
    domains-off f listed = no-level listed (λ set k. rw (← domains, f, and-false (count_fits_lem t n above rows)))

    module _ (few : x ≡ true) (some : y ≡ true) where
      pub rows-most : rows ≤ n
      rows-most = count_most t n above rows ready.fewer (sym count ∙ few)

      pub domains-most : done.domains + m ≤ most_rows n
      domains-most = omega (arith, ready.domains, leb-true m (most_rows n - done.domains) (and-snd (one_only coarse m) (leb m (most_rows n - done.domains)) (sym domains ∙ some)))

      pub level-ready : LevelReady l level_points most done.domains m done.rows done.borrowed rows
      level-ready =
          record {
            axes = ready.axes;
            domain_rows = omega (arith, domains-most, ready.long.domains);
            boxes = le_trans (mul-le-mul_left (row_floats_lem l.dimension) domains-most) ready.long.boxes;
            points = omega (arith, rows-most, ready.room, ready.long.points);
            own = omega (arith, rows-most, ready.room, ready.long.internals);
            end = ready.borrowed;
            borrowed = ready.long.borrowed;
          }

      module _ (listed : List ℕ) where
        -- the level does not pass
        pub level-out : LevelPassed coarse l level_points most done.domains done.rows done.borrowed rows m listed₀ listed None
            → NextPassed coarse l level_points n most t above rows m done listed₀ listed None
        level-out h = no-level listed (λ set k. h.passed set k ∙ rw (← count, few, ← domains, some))

        -- it does
        pub level-on : (g : ℕ) → LevelPassed coarse l level_points most done.domains done.rows done.borrowed rows m listed₀ listed (Some g)
            → NextPassed coarse l level_points n most t above rows m done listed₀ listed (Some (record { rows = done.rows + rows; domains = done.domains + m; borrowed = g }))
        level-on g h =
            record {
              passed = λ set k. h.passed set k ∙ rw (← count, few, ← domains, some);
              rows_on = refl;
              domains_on = refl;
              borrowed_on = h.end;
              listed_now = h.listed_now;
            }
