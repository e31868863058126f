-- The levels that are left when some fine levels are built, and the room for them. Definitions only.
use Rattle.std.specs.Prelude.{ℕ, suc, ◌+◌, ◌-◌, ◌*◌, ◌≤◌, List, length, Float}
use Rattle.definition.specs.Levels.{auto}
use Rattle.definition.specs.Tree.{Settings, Level, most_fine, levels_from}
use Rattle.definition.specs.Packed.{row_numbers, row_floats_lem}

-- the settings that the levels depend on, once the coarse threshold and the number of reductions are known
abbrev pub level_settings : ℕ → ℕ → ℕ → Settings
level_settings d leaf neighbours = record { dimension = d; leaf = leaf; neighbours = neighbours; factor = 2; policy = auto }

-- the levels over the active rows, after `built` fine levels
abbrev pub levels_after : ℕ → List Float → ℕ → ℕ → ℕ → ℕ → ℕ → List ℕ → List Level
levels_after d cs leaf neighbours c k built active = levels_from (level_settings d leaf neighbours) cs c k (most_fine - built) built active

-- Where at most t fine levels and a coarse one over at most `a` rows each are written: from `at` on in the level points and the
-- internals, from the domain row `first` on, and from `bat` on in the borrowed rows. The lists, and the working room, are long enough.
pub record Space (d neighbours a t : ℕ) (P I D : List ℕ) (B : List Float) (L : List ℕ) (F : List Float) (W : List ℕ) (at first bat : ℕ) : Type 0 where
  pub level_points : at + suc t * a ≤ length P
  pub internals : at + suc t * a ≤ length I
  pub domains : row_numbers * (first + t * (2 * a) + 1) ≤ length D
  pub boxes : row_floats_lem d * (first + t * (2 * a) + 1) ≤ length B
  pub borrowed : bat + t * (2 * a * (neighbours + 1)) ≤ length L
  pub floats : 32 * a ≤ length F
  pub wholes : 40 * a + 8 * a * (neighbours + 1) ≤ length W
