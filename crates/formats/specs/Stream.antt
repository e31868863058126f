-- The job stream: a settings record and point records, as bytes. Definitions only.
use Rattle.std.specs.Prelude.{ℕ, zero, suc, ◌+◌, ◌*◌, Bool, ◌&&◌, ◌||◌, cond, List, [], ◌∷◌, ◌++◌, drop, ltb, eqb, Float}
use Rattle.definition.specs.Levels.{Policy, auto, fixed, policy_from}
use Rattle.definition.specs.Tree.{Settings}
use Rattle.definition.specs.Refusals.{Refusal, wrong_dimension_lem}
use Rattle.formats.specs.Bytes.{Mark, mark_of, mark_size, whole, Field, field_end, value_at, bytes_of, float_size, floats_at}

-- ---- the settings record: its mark, and its fields one after the other

abbrev pub settings_mark : Mark
settings_mark = mark_of 0x53 0x54

abbrev pub dimension_field : Field
dimension_field = record { offset = mark_size; width = 1 }

abbrev pub leaf_field : Field
leaf_field = record { offset = field_end dimension_field; width = 4 }

abbrev pub neighbours_field : Field
neighbours_field = record { offset = field_end leaf_field; width = 4 }

abbrev pub factor_field : Field
factor_field = record { offset = field_end neighbours_field; width = 4 }

abbrev pub policy_field : Field
policy_field = record { offset = field_end factor_field; width = 1 }

abbrev pub threshold_field : Field
threshold_field = record { offset = field_end policy_field; width = 4 }

abbrev pub settings_size : ℕ
settings_size = field_end threshold_field

-- policy 1 (Fixed), or policy 0 (Auto) with the number 0
unfoldable pub policy_fits_lem : List ℕ → Bool
policy_fits_lem bs = eqb (value_at policy_field bs) 1 || (eqb (value_at policy_field bs) 0 && eqb (value_at threshold_field bs) 0)

-- the settings in a whole record
unfoldable pub settings_in : List ℕ → Settings
settings_in bs =
    record {
      dimension = value_at dimension_field bs;
      leaf = value_at leaf_field bs;
      neighbours = value_at neighbours_field bs;
      factor = value_at factor_field bs;
      policy = policy_from (value_at policy_field bs) (value_at threshold_field bs);
    }

-- policy and threshold, as the record has them
abbrev pub policy_bytes : Policy → List ℕ
policy_bytes auto = bytes_of policy_field.width 0 ++ bytes_of threshold_field.width 0
policy_bytes (fixed c) = bytes_of policy_field.width 1 ++ bytes_of threshold_field.width c

-- the record's bytes after its mark
unfoldable pub settings_bytes : Settings → List ℕ
settings_bytes s =
    bytes_of dimension_field.width s.dimension ++ bytes_of leaf_field.width s.leaf ++ bytes_of neighbours_field.width s.neighbours
    ++ bytes_of factor_field.width s.factor ++ policy_bytes s.policy

-- ---- points

abbrev pub point_mark : Mark
point_mark = mark_of 0x50 0x54

-- a point record's bytes: the mark's, and a float per axis
abbrev pub point_size_lem : ℕ → ℕ
point_size_lem d = mark_size + float_size * d

-- what a stream comes to: settings and coordinates, or a refusal
pub data Job : Type 0 where
  job : Settings → List Float → Job
  broken : Refusal → Job

-- 16: a broken stream; place = byte offset of the record's start
abbrev pub broken_at : ℕ → Job
broken_at at = broken (record { number = 16; place = at })

-- 17: over 32 points, or neighbour count over 16
abbrev pub too_large : Job
too_large = broken (record { number = 17; place = 0 })

-- the most points, and the most neighbours, that the program takes
abbrev pub stream_points : ℕ
stream_points = 32

abbrev pub stream_neighbours : ℕ
stream_neighbours = 16

-- The point records from the offset `at` on, of which `room` more may come, after the coordinates cs. The 33rd whole point
-- gives 17 at once.
unfoldable pub read_points : Settings → ℕ → ℕ → List ℕ → List Float → Job
read_points s zero at [] cs = job s cs
read_points s zero at (b ∷ bs) cs = cond (whole point_mark (point_size_lem s.dimension) (b ∷ bs)) too_large (broken_at at)
read_points s (suc room) at [] cs = job s cs
read_points s (suc room) at (b ∷ bs) cs =
    let size = point_size_lem s.dimension in
    let more = read_points s room (at + size) (drop size (b ∷ bs)) (cs ++ floats_at s.dimension mark_size (b ∷ bs)) in
    cond (whole point_mark size (b ∷ bs)) more (broken_at at)

-- neighbours over 16 give 17 after the last record
unfoldable pub held : Job → Job
held (job s cs) = cond (ltb stream_neighbours s.neighbours) too_large (job s cs)
held (broken r) = broken r

-- The stream: a broken settings record is 16 at 0, and a wrong dimension is 1 right after the settings.
unfoldable pub job_in : List ℕ → Job
job_in bs =
    let points = held (read_points (settings_in bs) stream_points settings_size (drop settings_size bs) []) in
    let after = cond (wrong_dimension_lem (value_at dimension_field bs)) (broken (record { number = 1; place = 0 })) points in
    cond (whole settings_mark settings_size bs && policy_fits_lem bs) after (broken_at 0)
