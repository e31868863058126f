-- One level: its rows asked for in the set above, both sets made its rows, and its domain rows checked with them. Assumes nothing.
use Rattle.std.specs.Prelude.{Option, None}
use mathlib.Core.Path.{◌≡◌, refl, ◌∙◌}
use mathlib.Core.Bool.{Bool, true, false}
use mathlib.Core.List.{List}
use Prim.Native.Nat.{ℕ, ◌+◌, ◌-◌}
use lib.ListN.{take, drop}
use Rattle.lists.specs.Lists.{part}
use Rattle.lists.proofs.Tests.{clash}
use Rattle.packed.specs.Reading.{Packed}
use Rattle.tree_tests.specs.InTurn.{among, in_order_lem}
use Rattle.marks.specs.Bits.{Marked}
use Rattle.list_domains.specs.Passed.{Ready, DomainsPassed}
use Rattle.list_domains.proofs.Each.{stretch_is}
use Rattle.list_levels.specs.InLists.{held_level_passes}
use Rattle.list_levels.specs.Passed.{LevelReady, LevelPassed}

-- the domain rows of a level lie inside the lists with it
pub domains-ready : {l : Packed} {level_points : List ℕ} {most j m a b rows : ℕ} → LevelReady l level_points most j m a b rows → Ready l most j m a b rows
domains-ready h = record { axes = h.axes; rows = h.domain_rows; boxes = h.boxes; own = h.own; end = h.end; borrowed = h.borrowed }

-- ---- the rows of a level, asked for in the set above
module _ (level_points : List ℕ) (a rows : ℕ) (listed₀ : List ℕ) (r : Bool)
    (said : (p : ℕ → Bool) → Marked listed₀ p → r ≡ in_order_lem 0 p (take (a + rows - a) (drop a level_points))) where
  abbrev points : List ℕ
  points = part level_points a rows

  asked : (p : ℕ → Bool) → Marked listed₀ p → r ≡ in_order_lem 0 p points
  asked p n = rw (stretch_is level_points a rows) at (said p n)

  -- the rows are not all there
  pub level_out : {coarse : Bool} {l : Packed} {most j b m : ℕ} (listed : List ℕ) → r ≡ false
      → LevelPassed coarse l level_points most j a b rows m listed₀ listed None
  unfolding held_level_passes
  level_out listed f =
      record {
        passed = λ above n. rw (← asked above n, f);
        end = tt;
        listed_now = λ e. clash e refl;
      }

  -- they are, and both sets are made these rows
  module _ (left₁ listed₁ : List ℕ) (made : Marked left₁ (among (take (a + rows - a) (drop a level_points))) × Marked listed₁ (among (take (a + rows - a) (drop a level_points)))) where
    lm : Marked left₁ (among points)
    lm = rw (stretch_is level_points a rows) at made.0

    im : Marked listed₁ (among points)
    im = rw (stretch_is level_points a rows) at made.1

    pub level-tell : r ≡ true → (coarse : Bool) (l : Packed) (most j b m : ℕ) (listed : List ℕ) (g : Option ℕ) → DomainsPassed coarse l most j a b rows m left₁ listed₁ listed g
        → LevelPassed coarse l level_points most j a b rows m listed₀ listed g
    unfolding held_level_passes
    level-tell good coarse l most j b m listed g d =
        record {
          passed = λ above n. d.passed (among points) (among points) lm im ∙ rw (← asked above n, good);
          end = d.end;
          listed_now = λ e. d.listed_as_was (among points) im e;
        }
