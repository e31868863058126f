-- What the cut stage touches of the working room. Definitions only.
use Rattle.std.specs.Prelude.{ℕ, ◌+◌, ◌-◌, ◌*◌}
use Rattle.definition.specs.Points.{box_width_lem}
use Rattle.queue.specs.Rows.{waiting_width}

-- The whole numbers that the stage touches, for `a` rows that end as m leaves: one a row for the ordering, one a row for the packed
-- leaves, and the queue, four for each of the m - 1 cuts.
abbrev pub touched_wholes : ℕ → ℕ → ℕ
touched_wholes a m = 2 * a + waiting_width * (m - 1)

-- The floats: a box for each cut.
abbrev pub touched_floats : ℕ → ℕ → ℕ
touched_floats d m = box_width_lem d * (m - 1)
