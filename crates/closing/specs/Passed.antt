-- What the pass over the slots has written after i of them. Definitions only.
use Rattle.std.specs.Prelude.{ℕ, ◌*◌, cond, List, map, Float}
use Rattle.lists.specs.Lists.{count, from, joined, keep, part}
use Rattle.definition.specs.Table.{flagged}

-- the live ones of the first i slots
abbrev pub live_below_lem : List ℕ → ℕ → List ℕ
live_below_lem flags i = keep (flagged flags) (from 0 i)

-- their coordinates, one slot after the other
abbrev pub live_parts : ℕ → List Float → List ℕ → ℕ → List Float
live_parts d cs flags i = joined (map (λ j. part cs (j * d) d) (live_below_lem flags i))

-- the first i entries of the rename list
abbrev pub renames : List ℕ → ℕ → ℕ → List ℕ
renames flags slots i = map (λ j. cond (flagged flags j) (count (flagged flags) (from 0 j)) slots) (from 0 i)
