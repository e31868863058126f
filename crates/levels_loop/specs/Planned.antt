-- The levels that are left, by a plan. Definitions only.
use Rattle.std.specs.Prelude.{ℕ, List}
use Rattle.definition.specs.Tree.{Settings, Level}
use Rattle.fine_level.specs.declared.Plan.{Plan}
use Rattle.levels_loop.specs.After.{level_settings, levels_after}

-- the settings that a level sees
abbrev pub settings_by : Plan → Settings
settings_by p = level_settings p.points.dimensions p.leaf p.neighbours

-- all levels over the active rows, for the coarse threshold c and k reductions
abbrev pub levels_by : Plan → ℕ → ℕ → List ℕ → List Level
levels_by p c k active = levels_after p.points.dimensions p.points.coordinates.now p.leaf p.neighbours c k 0 active
