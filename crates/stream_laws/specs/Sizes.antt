-- The limits of a job that is read, and the sizes that suffice for every stream. Definitions only.
use Rattle.std.specs.Prelude.{ℕ, suc, ◌+◌, ◌*◌, ◌≤◌, List, length, Float}
use Rattle.definition.specs.Tree.{Settings}
use Rattle.formats.specs.Stream.{Job, job, broken, settings_size, point_size_lem, stream_points, stream_neighbours}

-- a job that is read has one to three axes, at most 32 points, and at most 16 neighbours
pub record JobLimits (s : Settings) (cs : List Float) : Type 0 where
  pub axes : 1 ≤ s.dimension
  pub axes_few : s.dimension ≤ 3
  pub points_few : length cs ≤ stream_points * s.dimension
  pub neighbours_few : s.neighbours ≤ stream_neighbours

abbrev pub WithinLimits : Job → Type 0
WithinLimits (job s cs) = JobLimits s cs
WithinLimits (broken r) = Unit {0}

-- the bytes of a stream that decide what it comes to: its settings, and one point record more than it may have
abbrev pub decisive : ℕ
decisive = settings_size + suc stream_points * point_size_lem 3

-- the size of the output list that always suffices (`printout-long`)
abbrev pub most_bytes : ℕ
most_bytes = 139264
